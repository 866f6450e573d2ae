-- "Member counts come from ones": a list that has each key of a set once is as long as the set's word has ones (`ones_length`).
-- Idea: by the number of keys that are looked at; the last one, where it is in the list, is taken out of it.
use Prim.Native.Nat.{ℕ, zero, suc, ◌+◌, ◌≤◌, ◌<◌}
use mathlib.Core.Path.{◌≡◌, refl, sym, ◌∙◌, subst}
use mathlib.Core.Logic.{◌⊎◌, inl, inr}
use mathlib.Core.List.Memᴰ
use mathlib.Core.List.{List, [], ◌∷◌, map, Memᴰ}
use native.Mathlib.Decide.{ℕ_discrete}
use native.Mathlib.Omega.{arith}
use lib.ListN.{length}
use Rattle.rules.specs.Rules.{Ascending, done, before}
use Rattle.keyset.specs.Word.{bit, size}
use Rattle.keyset.proofs.Laws.{bit_two}

-- each once
pub data Once : List ℕ → Type 0 where
  none : Once []
  first : {x : ℕ} {l : List ℕ} → ¬ Memᴰ x l → Once l → Once (x ∷ l)

pub ascending_once : {B : Type 0} {L : B → B → Type 0} (irreflexive : (b : B) → ¬ L b b) (v : ℕ → B) (l : List ℕ) → Ascending L (map v l) → Once l
ascending_once irr v [] done = none
ascending_once irr v (x ∷ l) (before b s) = first (λ m. irr (v x) (b (v x) (Memᴰ.map v m))) (ascending_once irr v l s)

-- k taken out of the list
pick : {P : Type 0} → Dec P → ℕ → List ℕ → List ℕ
pick (yes e) x l = l
pick (no n) x l = x ∷ l

out : ℕ → List ℕ → List ℕ
out k [] = []
out k (x ∷ l) = pick (ℕ_discrete x k) x (out k l)

out_in : (k : ℕ) (l : List ℕ) {y : ℕ} → Memᴰ y l → ¬ (y ≡ k) → Memᴰ y (out k l)
unfolding out pick
out_in k [] m n = absurd (Memᴰ.not-nil m)
out_in k (x ∷ l) {y} m n = go (ℕ_discrete x k) (Memᴰ.cases_cons m) (λ q. out_in k l q n)
  where
    go : (t : Dec (x ≡ k)) → (y ≡ x) ⊎ Memᴰ y l → (Memᴰ y l → Memᴰ y (out k l)) → Memᴰ y (pick t x (out k l))
    go (yes e) (inl p) f = absurd (n (p ∙ e))
    go (yes e) (inr q) f = f q
    go (no d) (inl p) f = Memᴰ.head p
    go (no d) (inr q) f = Memᴰ.tail (f q)

in_out : (k : ℕ) (l : List ℕ) {y : ℕ} → Memᴰ y (out k l) → Memᴰ y l × (¬ (y ≡ k))
unfolding out pick
in_out k [] m = absurd (Memᴰ.not-nil m)
in_out k (x ∷ l) {y} m = go (ℕ_discrete x k) m (λ q. in_out k l q)
  where
    go : (t : Dec (x ≡ k)) → Memᴰ y (pick t x (out k l)) → (Memᴰ y (out k l) → Memᴰ y l × (¬ (y ≡ k))) → Memᴰ y (x ∷ l) × (¬ (y ≡ k))
    go (yes e) m f = (Memᴰ.tail (f m).0, (f m).1)
    go (no d) m f = elim (Memᴰ.cases_cons m) [ inl p ↦ (Memᴰ.head p, λ q. d (sym p ∙ q)) | inr q ↦ (Memᴰ.tail (f q).0, (f q).1) ]

out_once : (k : ℕ) {l : List ℕ} → Once l → Once (out k l)
unfolding out pick
out_once k none = none
out_once k (first {x = x} {l = l} n o) = go (ℕ_discrete x k) (out_once k o)
  where
    go : (t : Dec (x ≡ k)) → Once (out k l) → Once (pick t x (out k l))
    go (yes e) o = o
    go (no d) o = first (λ m. n (in_out k l m).0) o

out_none : (k : ℕ) (l : List ℕ) → ¬ Memᴰ k l → length (out k l) ≡ length l
unfolding out pick
out_none k [] n = refl
out_none k (x ∷ l) n = go (ℕ_discrete x k) (out_none k l (λ m. n (Memᴰ.tail m)))
  where
    go : (t : Dec (x ≡ k)) → length (out k l) ≡ length l → length (pick t x (out k l)) ≡ length (x ∷ l)
    go (yes e) h = absurd (n (Memᴰ.head (sym e)))
    go (no d) h = omega arith

out_one : (k : ℕ) {l : List ℕ} → Once l → Memᴰ k l → length l ≡ suc (length (out k l))
unfolding out pick
out_one k none m = absurd (Memᴰ.not-nil m)
out_one k (first {x = x} {l = l} n o) m = go (ℕ_discrete x k) (Memᴰ.cases_cons m) (λ q. out_one k o q)
  where
    go : (t : Dec (x ≡ k)) → (k ≡ x) ⊎ Memᴰ k l → (Memᴰ k l → length l ≡ suc (length (out k l))) → length (x ∷ l) ≡ suc (length (pick t x (out k l)))
    go (yes e) c f = let h = out_none k l (λ q. n (subst (λ y. Memᴰ y l) (sym e) q)) in omega arith
    go (no d) (inl p) f = absurd (d (sym p))
    go (no d) (inr q) f = let h = f q in omega arith

pub ones_length : (k w : ℕ) (l : List ℕ) → Once l → ((x : ℕ) → Memᴰ x l → (x < k) × (bit w x ≡ 1)) → ((x : ℕ) → x < k → bit w x ≡ 1 → Memᴰ x l) → length l ≡ size k w
unfolding size
ones_length zero w [] o f g = refl
ones_length zero w (x ∷ l) o f g = absurd (omega (arith, (f x (Memᴰ.head refl)).0))
ones_length (suc k) w l o f g = go (bit_two w k) (ones_length k w (out k l) (out_once k o) fewer more)
  where
    fewer : (x : ℕ) → Memᴰ x (out k l) → (x < k) × (bit w x ≡ 1)
    fewer x m = let p = in_out k l m in let q = f x p.0 in let h = q.0 in let n = p.1 in (omega (arith, n), q.1)

    more : (x : ℕ) → x < k → bit w x ≡ 1 → Memᴰ x (out k l)
    more x h b = out_in k l (g x (omega arith) b) (λ e. absurd (omega arith))

    go : (bit w k ≡ 0) ⊎ (bit w k ≡ 1) → length (out k l) ≡ size k w → length l ≡ size k w + bit w k
    go (inr b) h = let e = out_one k o (g k (omega arith) b) in omega arith
    go (inl b) h = let e = out_none k l (λ m. let q = (f k m).1 in absurd (omega arith)) in omega arith

pub size_le : (k w : ℕ) → size k w ≤ k
unfolding size
size_le zero w = omega arith
size_le (suc k) w = let h = size_le k w in elim (bit_two w k) [ inl b ↦ omega arith | inr b ↦ omega arith ]
