-- The chosen places are those picked from the order's first j. Each place is noted behind them, and counted where it is marked.
use Prim.Native.Nat.{ℕ, ◌+◌, ◌*◌, ◌≤◌, ◌<◌}
use mir.Val.{bool_byte}
use mathlib.Core.Path.{◌≡◌, refl, sym, ap, ◌∙◌}
use mathlib.Core.Bool.{Bool, true, false, cond}
use mathlib.Core.List.{List, []}
use native.Mathlib.Omega.{arith}
use lib.ListN.{length, take, get_or, set, length-set}
use lib.Seq.{length-take-le}
use Rattle.runs.specs.Bytes.{Bytes, run_length}
use Rattle.runs.specs.Table.{order, large_limit}
use Rattle.runs.specs.Chosen.{picked, chosen, Chose}
use Rattle.runs.specs.declared.list.Chosen.{Chosen}
use Rattle.runs.proofs.TableLaws.{there_below}
use Rattle.runs.proofs.ListLaws.{picked_snoc, order_more, noted}
use Rattle.runs.proofs.list.choose.Goals as goal

none_chosen : (on : List Bool) (limit : ℕ) (t : Bytes) → [] ≡ picked on (order limit t 0)
unfolding picked order
none_chosen on limit t = refl

one_more : (on : List Bool) (limit : ℕ) (t l : Bytes) (k j b : ℕ) → run_length * limit + j < length t → k < length l → b ≡ get_or t (run_length * limit + j) 0 → take k l ≡ picked on (order limit t j)
    → take (k + cond (get_or on b false) 1 0) (set l k b) ≡ picked on (order limit t (j + 1))
one_more on limit t l k j b h r e p = noted l k b (get_or on b false) r ∙ rw (p, order_more limit t j h, ← e) (sym (picked_snoc on (order limit t j) b))

all_chosen : (l : List ℕ) (c : Chosen) → length c.places ≡ large_limit → c.count ≤ large_limit → chosen c ≡ l → Chose l c
all_chosen l c f h e = record { long = f; count = sym (length-take-le c.count c.places (omega arith)) ∙ ap (λ (m : List ℕ). length m) e; places = e }

-- a mark, as the number that is counted
counted : (t : Bool) → bool_byte t ≡ cond t 1 0
counted true = refl
counted false = refl

at_most_one : (t : Bool) → bool_byte t ≤ 1
at_most_one true = omega arith
at_most_one false = omega arith

pub loop-j-init : goal.loop-j-init
loop-j-init c = record { few = omega arith; long = refl; places = none_chosen c.args.on.now c.args.limit c.args.table.now }

pub bounds-on-from : goal.bounds-on-from
bounds-on-from c =
    let b = there_below c.args.limit c.args.table.now c.args.n c.requires.0 c.loop-j.j c.loop-j-test.true c.from.result c.from.ensures in
    omega (arith, c.requires.2)

pub loop-j-preserved : goal.loop-j-preserved
loop-j-preserved c =
    let l = c.loop-j in
    let v = l.invariant in
    let t = c.args.table.now in
    let g = c.requires.0 in
    let a = g.room in
    let b = g.long in
    let q = c.requires.1 in
    let w : c.from-in-loop-j.result ≡ cond (get_or c.args.on.now (get_or t (run_length * c.args.limit + l.j) 0) false) 1 0 =
    c.from-in-loop-j.ensures ∙ rw c.from.ensures (counted _) in
    let o = at_most_one (get_or c.args.on.now c.from.result false) in
    let f = v.few in
    let e = c.from-in-loop-j.ensures in
    record {
      few = omega arith;
      long = simp length-set v.long;
      places = rw w (one_more c.args.on.now c.args.limit t l.c.places l.c.count l.j _ (omega arith) (omega (arith, v.few, v.long)) refl v.places);
    }

pub returns : goal.returns
returns c =
    let l = c.loop-j in
    let r = c.requires.0.room in
    let e : l.j ≡ c.args.n = omega arith in
    all_chosen _ l.c l.invariant.long (omega (arith, l.invariant.few, c.requires.1)) (l.invariant.places ∙ rw e)
