-- Rounds of caps end: the grades' sum rises, and has a bound. Assumes nothing.
use Prim.Native.Nat.{ℕ, zero, suc, ◌+◌, ◌-◌, ◌*◌, ◌≤◌, ◌<◌}
use mathlib.Core.Path.{◌≡◌, sym, ◌∙◌, subst}
use mathlib.Core.List.{List}
use native.Mathlib.Omega.{arith}
use native.Mathlib.Decide.{dec_lt}
use lib.ListN.{get_or, length}
use Rattle.std.proofs.lemmas.List.{ext_get_or}
use Rattle.places.specs.Limits.{delegation_limit, level_count}

unfoldable pub sum : ℕ → List ℕ → ℕ
sum zero g = zero
sum (suc n) g = sum n g + get_or g n 0

sum_le : (n : ℕ) (g : List ℕ) → ((d : ℕ) → get_or g d 0 ≤ level_count) → sum n g ≤ n * level_count
unfolding sum
sum_le zero g h = omega arith
sum_le (suc n) g h = let e = sum_le n g h in let f = h n in omega arith

sum_mono : (n : ℕ) (a b : List ℕ) → ((d : ℕ) → get_or a d 0 ≤ get_or b d 0) → sum n a ≤ sum n b
unfolding sum
sum_mono zero a b h = omega arith
sum_mono (suc n) a b h = let e = sum_mono n a b h in let f = h n in omega arith

sum_more : (n : ℕ) (a b : List ℕ) (i : ℕ) → ((d : ℕ) → get_or a d 0 ≤ get_or b d 0) → i < n → get_or a i 0 < get_or b i 0 → sum n a < sum n b
unfolding sum
sum_more zero a b i h p q = absurd (omega arith)
sum_more (suc n) a b i h p q = go (λ l. sum_more n a b i h l q) (dec_lt i n)
  where
    go : (i < n → sum n a < sum n b) → Dec (i < n) → sum n a + get_or a n 0 < sum n b + get_or b n 0
    go rec (yes l) = let e = rec l in let f = h n in omega arith
    go rec (no l) =
        let s : i ≡ n = omega (arith, l) in
        let e = sum_mono n a b h in
        let f = subst (λ (x : ℕ). get_or a x 0 < get_or b x 0) s q in omega arith

-- what the grades can still rise by
pub room : List ℕ → ℕ
room g = delegation_limit * level_count - sum delegation_limit g

pub room_less : (a b : List ℕ) → length a ≡ delegation_limit → length b ≡ delegation_limit → ((d : ℕ) → get_or a d 0 ≤ get_or b d 0)
    → ((d : ℕ) → get_or b d 0 ≤ level_count) → (b ≡ a → ⊥) → room b < room a
unfolding room
room_less a b p q h l n = go (dec_lt (sum delegation_limit a) (sum delegation_limit b))
  where
    same : sum delegation_limit b ≤ sum delegation_limit a → (i : ℕ) → i < length b → Dec (get_or a i 0 < get_or b i 0) → get_or b i 0 ≡ get_or a i 0
    same s i k (yes e) = absurd (let m = sum_more delegation_limit a b i h (omega arith) e in omega arith)
    same s i k (no e) = let m = h i in omega (arith, e)

    go : Dec (sum delegation_limit a < sum delegation_limit b) → room b < room a
    go (yes s) = omega (arith, s, sum_le delegation_limit b l)
    go (no s) = absurd (n (ext_get_or 0 b a (q ∙ sym p) (λ i k. same (omega (arith, s)) i k (dec_lt (get_or a i 0) (get_or b i 0)))))
