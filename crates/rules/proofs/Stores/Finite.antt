-- What is decided itself may be proved as if the closure, the covered ones and so on were decided (`as_if_decided`): only finitely many
-- delegations are held, so that it cannot fail that they are.
use mathlib.Core.HLevel.{dec→stable}
use mathlib.Core.List.Memᴰ
use mathlib.Core.List.{List, [], ◌∷◌, Memᴰ}
use mathlib.Core.Logic.{inl, inr, ⊎_elim}
use mathlib.Core.Path.{◌≡◌}
use Rattle.rules.specs.Rules.{Shape, Graph, Finite}

pub mem_decided : {A : Type 0} → ((x y : A) → Dec (x ≡ y)) → (x : A) (ys : List A) → Dec (Memᴰ x ys)
mem_decided same x [] = no Memᴰ.not-nil
mem_decided same x (y ∷ ys) = elim (same x y) [
  | yes e ↦ yes (Memᴰ.head e)
  | no n ↦ elim (mem_decided same x ys) [ yes m ↦ yes (Memᴰ.tail m) | no k ↦ no (λ h. ⊎_elim n k (Memᴰ.cases_cons h)) ]
]

-- It cannot fail that the members of a list are decided: not of one, and so not of one more.
all_decided : {A : Type 0} (P : A → Type 0) (xs : List A) → ¬ ¬ ((x : A) → Memᴰ x xs → Dec (P x))
all_decided P [] k = k (λ x m. absurd (Memᴰ.not-nil m))
all_decided P (y ∷ ys) k = all_decided P ys (λ f. one (λ t. k (λ x m. elim (Memᴰ.cases_cons m) [ inl e ↦ rw e t | inr n ↦ f x n ])))
  where
    one : ¬ ¬ Dec (P y)
    one j = j (no (λ p. j (yes p)))

module _ {W : Shape} {G : Graph W} (fin : Finite G) (P : W.Del → Type 0) (held : (d : W.Del) → P d → G.Held d) where
  pub held_decided : ¬ ¬ ((d : W.Del) → Dec (P d))
  held_decided k = all_decided P fin.all (λ f. k (λ d.
      elim (mem_decided fin.same d fin.all) [ yes m ↦ f d m | no n ↦ no (λ p. n (fin.listed (held d p))) ]))

  pub as_if_decided : {X : Type 0} → Dec X → (((d : W.Del) → Dec (P d)) → X) → X
  as_if_decided t f = dec→stable t (λ n. held_decided (λ u. n (f u)))
