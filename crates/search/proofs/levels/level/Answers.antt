-- `search::levels::level` meets its contract. The loop's invariant: v is the height below l.
use borrow.Author.Rules.{rules}
use mathlib.Core.Path.{refl}
use native.Mathlib.Omega.{arith}
use native.Mathlib.Numerals.{add-one}
use Rattle.keyset.proofs.Laws.{bit_le}
use Rattle.search.specs.Levels.{height_below, word}
use Rattle.search.proofs.levels.level.Goals as goal

pub loop-l-init : goal.loop-l-init
unfolding height_below
loop-l-init c = (search rules, refl)

pub overflow_add-v : goal.overflow_add-v
overflow_add-v c = omega (arith, c.digit-v.ensures, bit_le (word c.args.levels.now c.args.root.0 c.loop-l.l) c.args.key.0)

pub loop-l-preserved : goal.loop-l-preserved
unfolding height_below
loop-l-preserved c = (
  omega (arith, c.digit-v.ensures, bit_le (word c.args.levels.now c.args.root.0 c.loop-l.l) c.args.key.0),
  rw (add-one) (omega (arith, c.digit-v.ensures, c.loop-l.invariant.1)),
)
