-- What the levels of a search say (`Found`): a root's word at a level has exactly the keys that stand at it or above, and the height of a key is its answer.
-- Assumes nothing.
use Prim.Native.Nat.{ℕ, zero, suc, ◌+◌, ◌≤◌, ◌<◌}
use mathlib.Core.Path.{◌≡◌, refl, subst}
use mathlib.Core.List.{List}
use mathlib.Core.Logic.{⊎_elim}
use native.Mathlib.Decide.{dec_lt}
use native.Mathlib.Omega.{arith}
use Rattle.keyset.specs.Word.{bit}
use Rattle.keyset.proofs.Laws.{bit_le, bit_two}
use Rattle.places.specs.Limits.{level_count}
use Rattle.rules.specs.Rules.{Admin, Answer, absent, level}
use Rattle.rules.proofs.Derivations.Answers.{AtLeast, just}
use Rattle.rules.specs.Rows.{level_of}
use Rattle.search.specs.Levels.{word, On, height_below, height, Found}

-- ---- a key's height, where a word contains the words above it

module _ (levels : List ℕ) (r x : ℕ) (down : (l : ℕ) → suc l < level_count → On levels (suc l) r x → On levels l r x) where
  below_le : (n : ℕ) → height_below n levels r x ≤ n
  unfolding height_below
  below_le zero = omega arith
  below_le (suc n) = let e = below_le n in let f = bit_le (word levels r n) x in omega arith

  full : (n : ℕ) → suc n ≤ level_count → On levels n r x → height_below n levels r x ≡ n
  unfolding height_below
  full zero h i = refl
  full (suc n) h i = let j = down n (omega arith) i in let e = full n (omega arith) j in omega arith

  under : (n : ℕ) → n ≤ level_count → (l : ℕ) → l < n → On levels l r x → l < height_below n levels r x
  unfolding height_below
  under zero h l p i = absurd (omega arith)
  under (suc n) h l p i = go (λ q. under n (omega arith) l q i) (dec_lt l n)
    where
      go : (l < n → l < height_below n levels r x) → Dec (l < n) → l < height_below n levels r x + bit (word levels r n) x
      go rec (yes q) = let e = rec q in omega arith
      go rec (no q) = let z : l ≡ n = omega (arith, q) in let j : On levels n r x = subst (λ (y : ℕ). On levels y r x) z i in let e = full n h j in omega arith

  over : (n : ℕ) → n ≤ level_count → (l : ℕ) → l < height_below n levels r x → On levels l r x
  unfolding height_below
  over zero h l p = absurd (omega arith)
  over (suc n) h l p = ⊎_elim (λ z. over n (omega arith) l (omega arith)) (λ z. top (λ q. over n (omega arith) l q) z (dec_lt l n)) (bit_two (word levels r n) x)
    where
      top : (l < height_below n levels r x → On levels l r x) → On levels n r x → Dec (l < n) → On levels l r x
      top rec z (yes q) = rec (let e = full n h z in omega arith)
      top rec z (no q) = let e = full n h z in subst (λ (y : ℕ). On levels y r x) (let y : n ≡ l = omega (arith, q) in y) z

  pub on_height : (l : ℕ) → l < level_count → On levels l r x → l < height levels r x
  on_height l h i = under level_count (omega arith) l h i

  pub height_on : (l : ℕ) → l < height levels r x → On levels l r x
  height_on l h = over level_count (omega arith) l h

  pub height_le : height levels r x ≤ level_count
  height_le = below_le level_count

-- ---- from words that are exact to answers

module _ {S : ℕ → ℕ → ℕ → Type 0} (roots : ℕ) (levels : List ℕ) (top : (r x l : ℕ) → S r x l → l ≤ Admin)
    (only : (r x l : ℕ) → bit roots r ≡ 1 → l < level_count → On levels l r x → AtLeast (S r x) l)
    (has : (r x l : ℕ) → bit roots r ≡ 1 → l < level_count → AtLeast (S r x) l → On levels l r x)
    (down : (r x l : ℕ) → bit roots r ≡ 1 → suc l < level_count → On levels (suc l) r x → On levels l r x) where
  answer_at : (r x : ℕ) → bit roots r ≡ 1 → (h : ℕ) → height levels r x ≡ h → Answer (S r x) (level_of h)
  unfolding level_of
  answer_at r x k zero e = absent (λ l s.
      let b = top r x l s in
      let i = on_height levels r x (λ l. down r x l k) l (omega arith) (has r x l k (omega arith) (just s)) in omega arith)
  answer_at r x k (suc h) e =
      level (record { holds = subst (S r x) (let z = reach a.level a.holds in let m = a.more in let y : a.level ≡ h = omega arith in y) a.holds; most = reach })
    where
      reach : (m : ℕ) → S r x m → m ≤ h
      reach m s =
          let b = top r x m s in
          let i = on_height levels r x (λ l. down r x l k) m (omega arith) (has r x m k (omega arith) (just s)) in omega arith

      a : AtLeast (S r x) h
      a = only r x h k (let z = height_le levels r x (λ l. down r x l k) in omega arith) (height_on levels r x (λ l. down r x l k) h (omega arith))

  pub found_by : Found S roots levels
  found_by = record { answer = λ r x k. answer_at r x k (height levels r x) refl; nested = down }

-- ---- and back

module _ {S : ℕ → ℕ → ℕ → Type 0} {roots : ℕ} {levels : List ℕ} (F : Found S roots levels) (r x : ℕ) (k : bit roots r ≡ 1) where
  least_answer : (h : ℕ) → Answer (S r x) (level_of h) → (l : ℕ) → l < h → AtLeast (S r x) l
  unfolding level_of
  least_answer zero a l p = absurd (omega arith)
  least_answer (suc h) (level g) l p = record { level = h; more = omega arith; holds = g.holds }

  most_answer : (h : ℕ) → Answer (S r x) (level_of h) → (l : ℕ) → S r x l → l < h
  unfolding level_of
  most_answer zero (absent f) l s = absurd (f l s)
  most_answer (suc h) (level g) l s = omega (arith, g.most l s)

  pub found_only : (l : ℕ) → l < level_count → On levels l r x → AtLeast (S r x) l
  found_only l h i = least_answer (height levels r x) (F.answer r x k) l (on_height levels r x (λ l. F.nested r x l k) l h i)

  pub found_has : (l : ℕ) → AtLeast (S r x) l → On levels l r x
  found_has l a = height_on levels r x (λ l. F.nested r x l k) l (let z = most_answer (height levels r x) (F.answer r x k) a.level a.holds in let m = a.more in omega arith)
