-- `marks::letters` meets its contract. The loop's invariant: the first x letters are right.
use Prim.Native.Nat.{ℕ, ◌<◌}
use mathlib.Core.Path.{◌≡◌}
use lib.ListN.{length, get_or}
use mathlib.Core.List.{List}
use Rattle.keyline.specs.Limits.{key_limit}
use Rattle.answers.specs.Marks.{letter_at}
use Rattle.answers.proofs.marks.letters.Given as goal

-- the first n letters are right
pub record Lettered (row : List ℕ) (n : ℕ) (out : List ℕ) : Type 0 where
  pub long : length out ≡ key_limit
  pub are : (x : ℕ) → x < n → get_or out x 0 ≡ letter_at (get_or row x 0)

abbrev pub invariant-loop-x : goal.invariant-loop-x
invariant-loop-x l = Lettered l.row l.x l.out
