-- What can still rise: sums of the words' counts, and that a key or a root more makes the room smaller. Assumes nothing.
use Prim.Native.Nat.{ℕ, zero, suc, ◌+◌, ◌*◌, ◌/◌, ◌%◌, ◌≤◌, ◌<◌}
use mathlib.Core.Path.{◌≡◌, subst}
use mathlib.Core.List.{List}
use native.Mathlib.Decide.{dec_lt}
use native.Mathlib.Omega.{arith}
use lib.ListN.{get_or}
use Rattle.keyset.specs.Word.{bit, size}
use Rattle.keyset.proofs.Laws.{size_le, size_mono}
use Rattle.places.specs.Limits.{key_limit, level_count}
use Rattle.search.specs.Rounds.{total, room}

-- the number of words
abbrev pub words : ℕ
words = key_limit * level_count

-- every word of a is contained in b's
abbrev pub Under : List ℕ → List ℕ → Type 0
Under a b = (i x : ℕ) → bit (get_or a i 0) x ≤ bit (get_or b i 0) x

whole : (i : ℕ) → i / level_count * level_count + i % level_count ≡ i
whole i = omega arith

rest_lt : (i : ℕ) → i % level_count < level_count
rest_lt i = omega arith

-- what holds of each root's word at each level holds at each place
pub by_words : (P : ℕ → Type 0) → ((u l : ℕ) → l < level_count → P (u * level_count + l)) → (i : ℕ) → P i
by_words P h i = subst P (whole i) (h (i / level_count) (i % level_count) (rest_lt i))

pub total_le : (n : ℕ) (a : List ℕ) → total n a ≤ n * key_limit
unfolding total
total_le zero a = omega arith
total_le (suc n) a = let e = total_le n a in let f = size_le key_limit (get_or a n 0) in omega arith

pub total_mono : (n : ℕ) (a b : List ℕ) → Under a b → total n a ≤ total n b
unfolding total
total_mono zero a b h = omega arith
total_mono (suc n) a b h =
    let e = total_mono n a b h in
    let f = size_mono key_limit (get_or a n 0) (get_or b n 0) (λ j l. h n j) in omega arith

pub total_more : (n : ℕ) (a b : List ℕ) (i : ℕ) → Under a b → i < n → size key_limit (get_or a i 0) < size key_limit (get_or b i 0) → total n a < total n b
unfolding total
total_more zero a b i h p q = absurd (omega arith)
total_more (suc n) a b i h p q = go (λ l. total_more n a b i h l q) (dec_lt i n)
  where
    go : (i < n → total n a < total n b) → Dec (i < n) → total n a + size key_limit (get_or a n 0) < total n b + size key_limit (get_or b n 0)
    go rec (yes l) = let e = rec l in let f = size_mono key_limit (get_or a n 0) (get_or b n 0) (λ j k. h n j) in omega arith
    go rec (no l) =
        let s : i ≡ n = omega (arith, l) in
        let e = total_mono n a b h in
        let f = subst (λ (x : ℕ). size key_limit (get_or a x 0) < size key_limit (get_or b x 0)) s q in omega arith

pub room_le : (a b : List ℕ) (k l : ℕ) → total words a ≤ total words b → size key_limit k ≤ size key_limit l → room b l ≤ room a k
unfolding room
room_le a b k l p q = omega arith

pub room_keys : (a b : List ℕ) (k l : ℕ) → total words a < total words b → total words b ≤ words * key_limit → size key_limit k ≤ size key_limit l → room b l < room a k
unfolding room
room_keys a b k l p h q = omega arith

pub room_roots : (a b : List ℕ) (k l : ℕ) → total words a ≤ total words b → size key_limit k < size key_limit l → size key_limit l ≤ key_limit → room b l < room a k
unfolding room
room_roots a b k l p q h = omega arith
