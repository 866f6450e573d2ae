-- One value more is written behind those that stand at the front.
use Prim.Native.Nat.{ℕ, ◌+◌, ◌<◌}
use mathlib.Core.Path.{◌≡◌, sym, ap, ◌∙◌}
use native.Mathlib.Omega.{arith}
use lib.ListN.{length, take, get_or, set, length-map}
use lib.Seq.{length-take-le}
use Rattle.lent.specs.Bytes.{front}
use Rattle.lent.proofs.Fronts.{front_none}
use Rattle.runs.specs.Bytes.{Bytes}
use Rattle.runs.specs.Chosen.{values_at}
use Rattle.runs.proofs.ListLaws.{front_set, map_more}
use Rattle.runs.proofs.list.put_values.Goals as goal

one_more : (vs ps o out : Bytes) (j i : ℕ) → j < length ps → j < length o → i ≡ get_or ps j 0 → out ≡ front (values_at vs (take j ps)) o → set out j (get_or vs i 0) ≡ front (values_at vs (take (j + 1) ps)) o
one_more vs ps o out j i h r e p =
    let l : length (values_at vs (take j ps)) ≡ j = length-map (take j ps) (λ i. get_or vs i 0) ∙ length-take-le j ps (omega arith) in
    rw (p, e) (front_set (values_at vs (take j ps)) o j (get_or vs (get_or ps j 0) 0) l r ∙ ap (λ (b : Bytes). front b o) (sym (map_more (λ i. get_or vs i 0) ps j 0 h)))

pub loop-j-init : goal.loop-j-init
loop-j-init c = front_none _

pub loop-j-preserved : goal.loop-j-preserved
loop-j-preserved c =
    let l = c.loop-j in
    let r = c.requires.room in
    let w = c.requires.enough in
    one_more c.args.values.now c.args.places.now c.args.out.now l.out l.j c.from.result (omega arith) (omega arith) c.from.ensures l.invariant
