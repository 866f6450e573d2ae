-- "Rows of levels: one byte a key": what a byte of a row says. Contracts of the search and the evaluation cite it.
use Rattle.std.specs.Prelude.{ℕ, zero, suc}
use Rattle.std.proofs.Math.Option.{Option, none, some}

-- 0 is no level, and l + 1 is the level of rank l
unfoldable pub level_of : ℕ → Option ℕ
level_of zero = none
level_of (suc l) = some l
