-- The keys that the column's first ones name are marked.
use Prim.Native.Nat.{ℕ}
use mathlib.Core.Path.{◌≡◌, refl, ◌∙◌}
use mathlib.Core.Bool.{false}
use mathlib.Core.List.{[]}
use native.Mathlib.Omega.{arith}
use lib.ListN.{get_or, replicate, length-set}
use lib.Seq.{get_or-take, length-take-le}
use Rattle.places.proofs.Repeated.{repeated}
use Rattle.keyline.specs.Limits.{key_limit}
use Rattle.lists.specs.Marks.{among}
use Rattle.lists.proofs.MarkLaws.{among_more}
use Rattle.lists.proofs.mark.subjects.Goals as goal

none_marked : (n k : ℕ) → get_or (replicate n false) k false ≡ among k []
unfolding among
none_marked n k = repeated n k false

pub loop-key-init : goal.loop-key-init
loop-key-init c = record { long = refl; marked = λ k. none_marked key_limit k }

pub loop-key-preserved : goal.loop-key-preserved
loop-key-preserved c =
    let l = c.loop-key in
    let v = l.invariant.long in
    let p = c.requires.0 in
    let h = c.requires.1 l.key-index in
    let q = c.loop-key-test.true in
    let k = length-take-le c.args.n c.args.subject.now c.requires.0 in
    let e : c.from.result ≡ get_or c.args.subject.now l.key-index 0 = c.from.ensures ∙ get_or-take c.args.n c.args.subject.now l.key-index 0 (omega arith) in
    record {
      long = simp length-set v;
      marked = among_more l.on c.args.subject.now l.key-index c.from.result (omega arith) (omega arith) e l.invariant.marked;
    }

pub returns : goal.returns
returns c =
    let l = c.loop-key in
    let k = length-take-le c.args.n c.args.subject.now c.requires.0 in
    let e : l.key-index ≡ c.args.n = omega arith in
    (l.invariant.long, λ k. l.invariant.marked k ∙ rw e)
