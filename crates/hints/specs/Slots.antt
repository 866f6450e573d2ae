-- How many slots there are for hints.
use Rattle.std.specs.Prelude.{ℕ}

abbrev pub slots : ℕ
slots = 512
