-- D3 through the root itself changes nothing (`root_same`): what it derives, min(l, m), is for a key that has m already.
use Prim.Native.Nat.{ℕ}
use mathlib.Core.Logic.{◌↔◌}
use mathlib.Core.Option.{Option}
use mathlib.Core.Path.{◌≡◌}
use native.Mathlib.Omega.{arith}
use Rattle.rules.specs.Rules.{Shape, Stands, d1, d2, d3, Answer}
use Rattle.rules.specs.Readings.{StandsThrough, t1, t2, t3}
use Rattle.rules.proofs.Derivations.Answers.{AtLeast, just, enough, answer_carry}
use Rattle.rules.proofs.Derivations.Monotone.{over_edge, over_through}

module _ {W : Shape} {E : W.Del → Type 0} {N : W.Key → Type 0} {c : W.Del → ℕ} where
  through : {r x : W.Key} {l : ℕ} → Stands W E N c r x l → StandsThrough W E N c r x l
  through (d1 n) = t1 n
  through (d2 d e p n s) = t2 d e p n (through s)
  through (d3 ne s t) = t3 (through s) (through t)

  module _ (same : (x y : W.Key) → Dec (x ≡ y)) where
    straightened : {r x : W.Key} {l : ℕ} → StandsThrough W E N c r x l → AtLeast (Stands W E N c r x) l
    straightened (t1 n) = just (d1 n)
    straightened (t2 d e p n s) = over_edge d e p n (omega arith) (straightened s)
    straightened (t3 {r = r} {u = u} s t) = elim (same u r) [
      | yes e ↦ enough (rw e at (straightened t)) (omega arith)
      | no ne ↦ over_through ne (straightened s) (straightened t)
    ]

    pub root_same : {r x : W.Key} {o : Option ℕ} → Answer (Stands W E N c r x) o ↔ Answer (StandsThrough W E N c r x) o
    root_same = (answer_carry (λ l s. just (through s)) (λ l t. straightened t), answer_carry (λ l t. straightened t) (λ l s. just (through s)))
