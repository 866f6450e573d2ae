-- A set of keys as one word. "A set of keys as one 64-bit word, whose members are found by trailing zeros": key i is a member where
-- digit i of the word is 1. Contracts speak of `bit` and `size` alone, so that a set of several words is a change behind these names.
use Rattle.std.specs.Prelude.{ℕ, zero, suc, ◌+◌, ◌/◌, ◌%◌, ◌^◌}

-- how many keys a set has room for
abbrev pub width : ℕ
width = 64

-- digit i of w: 1 where i is a member, and 0 where it is not
unfoldable pub bit : ℕ → ℕ → ℕ
bit w i = w / 2 ^ i % 2

-- how many of the first k keys are members
unfoldable pub size : ℕ → ℕ → ℕ
size zero w = zero
size (suc k) w = size k w + bit w k
