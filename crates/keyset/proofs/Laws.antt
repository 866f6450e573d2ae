-- The laws of a set's members (specs/Word): each operation on words, digit by digit; the lowest member; the count.
-- Idea: digit 0 of w is w % 2 and digit i + 1 is digit i of w / 2 (`bit_low`, `bit_suc`), so that what halving carries is proved by
-- induction. Over the number of digits, k, wherever that costs nothing: #112 will ask for them again.
use Prim.Native.Nat.{ℕ, zero, suc, ◌+◌, ◌-◌, ◌*◌, ◌/◌, ◌%◌, ◌^◌, ◌≤◌, ◌<◌, min, max}
use mathlib.Core.Path.{◌≡◌, refl, ap}
use mathlib.Core.Logic.{◌⊎◌, inl, inr}
use native.Mathlib.Nat.{mod-eq_of_lt, div-eq_of_lt, one-mul, div-one, lt_of_lt_of_le}
use native.Mathlib.Decide.{dec_lt}
use native.Mathlib.Numerals.{one-add}
use native.Mathlib.Omega.{arith}
use lib.Pow.{pow-lt, pow_mono, shr-shr}
use lib.Bits.{bit_and, bit_or, bit_xor, differ, and_shr, or_shr, xor_shr, and_step, or_step, xor_step}
use lib.Count.{ones, ones_step, count_trailing_zeros, under}
use Rattle.keyset.specs.Word.{width, bit, size}

-- ---- one digit

-- what holds of 0 and of 1 holds of a digit
digit : (P : ℕ → Type 0) → P 0 → P 1 → (n : ℕ) → n ≤ 1 → P n
digit P p q zero h = p
digit P p q (suc zero) h = q
digit P p q (suc (suc n)) h = absurd (omega arith)

pub bit_le : (w i : ℕ) → bit w i ≤ 1
unfolding bit
bit_le w i = omega arith

pub bit_two : (w i : ℕ) → (bit w i ≡ 0) ⊎ (bit w i ≡ 1)
bit_two w i = digit (λ n. (n ≡ 0) ⊎ (n ≡ 1)) (inl refl) (inr refl) (bit w i) (bit_le w i)

bit_low : (w : ℕ) → bit w 0 ≡ w % 2
unfolding bit
bit_low w = rw div-one

bit_suc : (w i : ℕ) → bit w (suc i) ≡ bit (w / 2) i
unfolding bit
bit_suc w i = rw (← (one-add i), ← (shr-shr w 1 i))

-- a word of k digits has no member at k or above
pub bit_high : (k w i : ℕ) → w < 2 ^ k → k ≤ i → bit w i ≡ 0
unfolding bit
bit_high k w i h l = rw (div-eq_of_lt (lt_of_lt_of_le h (pow_mono l)))

pub bit_none : (i : ℕ) → bit 0 i ≡ 0
bit_none i = bit_high 0 0 i (omega arith) (omega arith)

-- ---- the operations, digit by digit

-- An operation that shifts and that has the last digit f has f at every digit.
module _ (op f : ℕ → ℕ → ℕ) (shr : (a b k : ℕ) → op a b / 2 ^ k ≡ op (a / 2 ^ k) (b / 2 ^ k))
    (step : (a b : ℕ) → op a b ≡ op (a / 2) (b / 2) * 2 + f (a % 2) (b % 2)) (small : (x y : ℕ) → x ≤ 1 → y ≤ 1 → f x y ≤ 1) where
  bit_op : (a b j : ℕ) → bit (op a b) j ≡ f (bit a j) (bit b j)
  unfolding bit
  bit_op a b j = let x = a / 2 ^ j in let y = b / 2 ^ j in
      rw (shr a b j) (omega (arith, step x y, small (x % 2) (y % 2) (omega arith) (omega arith)))

pub bit-or : (a b j : ℕ) → bit (bit_or a b) j ≡ max (bit a j) (bit b j)
bit-or = bit_op bit_or max or_shr or_step (λ x y h k. omega arith)

pub bit-and : (a b j : ℕ) → bit (bit_and a b) j ≡ min (bit a j) (bit b j)
bit-and = bit_op bit_and min and_shr and_step (λ x y h k. omega arith)

bit-xor : (a b j : ℕ) → bit (bit_xor a b) j ≡ differ (bit a j) (bit b j)
bit-xor = bit_op bit_xor differ xor_shr xor_step (λ x y h k.
    digit (λ x. differ x y ≤ 1) k (digit (λ y. differ 1 y ≤ 1) (omega arith) (omega arith) y k) x h)

pub bit_minus : (a b j : ℕ) → bit (bit_xor a (bit_and a b)) j ≡ bit a j - bit b j
bit_minus a b j = rw (bit-xor, bit-and) (digit (λ x. differ x (min x (bit b j)) ≡ x - bit b j) (omega arith)
    (digit (λ y. differ 1 (min 1 y) ≡ 1 - y) refl refl (bit b j) (bit_le b j)) (bit a j) (bit_le a j))

-- ---- the word of one member

pub one_bit : (i : ℕ) → i < width → (1 * 2 ^ i) % 2 ^ width ≡ 2 ^ i
one_bit i h = rw (one-mul, mod-eq_of_lt (pow-lt h))

half_pow : (i : ℕ) → 2 ^ suc i / 2 ≡ 2 ^ i
half_pow i = omega arith

pub bit_one_same : (i : ℕ) → bit (2 ^ i) i ≡ 1
bit_one_same zero = bit_low 1
bit_one_same (suc i) = rw (bit_suc, half_pow) (bit_one_same i)

pub bit_one_other : (i j : ℕ) → (j ≡ i → ⊥) → bit (2 ^ i) j ≡ 0
bit_one_other zero zero h = absurd (h refl)
bit_one_other zero (suc j) h = rw bit_suc (bit_none j)
bit_one_other (suc i) zero h = rw bit_low (omega arith)
bit_one_other (suc i) (suc j) h = rw (bit_suc, half_pow) (bit_one_other i j (λ e. h (ap suc e)))

-- ---- the lowest member

abbrev Lowest : ℕ → ℕ → ℕ → Type 0
Lowest k n t = (t < k) × (bit n t ≡ 1) × ((j : ℕ) → j < t → bit n j ≡ 0)

-- with d for the last digit of n: 0 where that is 1, and else one above the lowest of n / 2
lowest_under : (k n d t : ℕ) → n % 2 ≡ d → (d ≡ 0 → Lowest k (n / 2) t) → Lowest (suc k) n (under d t)
lowest_under k n (suc d) t e h = (omega arith, rw bit_low (omega arith), λ j q. absurd (omega arith))
lowest_under k n zero t e h = let l = h refl in (omega (arith, l.0), rw bit_suc l.1, below l.2)
  where
    below : ((j : ℕ) → j < t → bit (n / 2) j ≡ 0) → (j : ℕ) → j < suc t → bit n j ≡ 0
    below b zero q = rw bit_low e
    below b (suc j) q = rw bit_suc (b j (omega arith))

pub trailing_lowest : (k n : ℕ) → 0 < n → n < 2 ^ k → Lowest k n (count_trailing_zeros k n)
unfolding count_trailing_zeros
trailing_lowest zero n p h = absurd (omega arith)
trailing_lowest (suc k) n p h =
    lowest_under k n (n % 2) (count_trailing_zeros k (n / 2)) refl (λ e. trailing_lowest k (n / 2) (omega arith) (omega arith))

-- a word that is not 0 has a member
pub some_member : (w : ℕ) → w < 2 ^ width → (w ≡ 0 → ⊥) → (j : ℕ) × (j < width) × (bit w j ≡ 1)
some_member w p n = let t = trailing_lowest width w (omega (arith, n)) p in (count_trailing_zeros width w, t.0, t.1)

-- ---- the count

size_low : (k w : ℕ) → size (suc k) w ≡ w % 2 + size k (w / 2)
unfolding size
size_low zero w = omega (arith, bit_low w)
size_low (suc k) w = omega (arith, size_low k w, bit_suc w k)

pub ones_size : (k w : ℕ) → w < 2 ^ k → ones w ≡ size k w
unfolding size ones
ones_size zero w h = ap ones (let e : w ≡ 0 = omega arith in e)
ones_size (suc k) w h = omega (arith, ones_step w, ones_size k (w / 2) (omega arith), size_low k w)

pub size_le : (k w : ℕ) → size k w ≤ k
unfolding size
size_le zero w = omega arith
size_le (suc k) w = omega (arith, size_le k w, bit_le w k)

-- a word with at least another's members counts at least as many
pub size_mono : (k a b : ℕ) → ((j : ℕ) → j < k → bit a j ≤ bit b j) → size k a ≤ size k b
unfolding size
size_mono zero a b h = omega arith
size_mono (suc k) a b h = omega (arith, size_mono k a b (λ j q. h j (omega arith)), h k (omega arith))

-- and one more where it has a member that the other lacks
pub size_more : (k a b i : ℕ) → ((j : ℕ) → j < k → bit a j ≤ bit b j) → i < k → bit a i < bit b i → size k a < size k b
unfolding size
size_more zero a b i h p q = absurd (omega arith)
size_more (suc k) a b i h p q = let f : (j : ℕ) → j < k → bit a j ≤ bit b j = λ j r. h j (omega arith) in elim (dec_lt i k) [
  | yes l ↦ omega (arith, size_more k a b i f l q, h k (omega arith))
  | no l ↦ let s : i ≡ k = omega (arith, l) in omega (arith, size_mono k a b f, rw s at q)
]
