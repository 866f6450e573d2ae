-- A search in which no root is left: what is closed is complete, so the words are exactly what D1 to D3 derive. Assumes nothing.
use Prim.Native.Nat.{ℕ, zero, suc, pred, ◌+◌, ◌*◌, ◌^◌, ◌≤◌, ◌<◌}
use mathlib.Core.Path.{◌≡◌, refl, sym, ap, ◌∙◌, subst}
use mathlib.Core.List.{List}
use mathlib.Core.Logic.{◌⊎◌, inl, inr, ⊎_elim}
use native.Mathlib.Omega.{arith}
use lib.ListN.{get_or, length, replicate}
use Rattle.keyset.specs.Word.{bit, size}
use Rattle.keyset.proofs.Laws.{bit_two, bit_none, size_le, size_more, some_member}
use Rattle.places.specs.Limits.{key_limit, level_count}
use Rattle.rules.specs.Rules.{d1, d2, d3}
use Rattle.rules.proofs.Derivations.Answers.{just}
use Rattle.rules.proofs.Derivations.Monotone.{stands_top}
use Rattle.search.specs.Graph.{Graph, Holds}
use Rattle.search.specs.Index.{Ready}
use Rattle.search.specs.Levels.{On, Found}
use Rattle.search.specs.Walk.{Sound}
use Rattle.search.specs.Rounds.{Closed, Going, Falls}
use Rattle.search.proofs.Laws.Sets.{place, none_in}
use Rattle.search.proofs.Laws.Room.{words}
use Rattle.search.proofs.Laws.Walk.{alone}
use Rattle.search.proofs.Laws.Answer.{found_by}

module _ (G : Graph) (subjects known : ℕ) (levels : List ℕ) {count : ℕ} {issuers last earlier : List ℕ} (R : Ready G count issuers last earlier subjects) (fits : known < 2 ^ 64)
    (C : (r : ℕ) → bit known r ≡ 1 → Closed G subjects known levels r) where
  key_lt : {r x l : ℕ} → r < key_limit → Holds G r x l → x < key_limit
  key_lt h (d1 f) = h
  key_lt h (d2 d e p f s) = R.placed.audience_lt d
  key_lt h (d3 m s t) = key_lt (key_lt h s) t

  through : (l r u x m : ℕ) → l < level_count → bit known r ≡ 1 → u < key_limit → On levels l r u → Holds G u x m
      → (bit known u ≡ 1 → On levels l u x) → (bit subjects u ≡ 0) ⊎ (bit subjects u ≡ 1) → On levels l r x
  through l r u x m lt k ul h t rec (inl z) = subst (λ (y : ℕ). On levels l r y) (sym (alone G R u x m z (just t))) h
  through l r u x m lt k ul h t rec (inr z) = (C r k).member l u x lt ul h (rec ((C r k).found l u lt h z))

  most : (l : ℕ) → l < level_count → {r x m : ℕ} → bit known r ≡ 1 → Holds G r x m → l ≤ m → On levels l r x
  most l lt {r} k (d1 f) h = (C r k).self l lt (⊎_elim (λ z. z) (λ z. absurd (f z)) (bit_two G.exclude r))
  most l lt {r} k (d2 d e p f s) h =
      let free : bit G.exclude (get_or G.audience d 0) ≡ 0 = ⊎_elim (λ z. z) (λ z. absurd (f z)) (bit_two G.exclude (get_or G.audience d 0)) in
      (C r k).edge l (pred (get_or G.grades d 0)) (get_or G.issuer d 0) (get_or G.audience d 0) lt (omega arith) (most l lt k s (omega arith))
      (record { del = d; about_root = p; is_issuer = refl; is_audience = refl; is_grade = omega arith; free = free })
  most l lt {r} k (d3 {u = u} {x = x} {m = m} n s t) h =
      through l r u x m lt k (key_lt (place known fits r k) s) (most l lt k s (omega arith)) t (λ z. most l lt z t (omega arith)) (bit_two subjects u)

  complete : Sound G levels → Found (Holds G) known levels
  complete S =
      found_by known levels (λ r x l s. stands_top s) (λ r x l k lt i. S.derived l r x lt (place known fits r k) i) (λ r x l k lt a. most l lt k a.holds a.more)
      (λ r x l k h i. S.nested l r x h (place known fits r k) i)

-- ---- the rounds of a search

pub going_start : (G : Graph) (subjects roots : ℕ) (levels : List ℕ) → Sound G levels → length levels ≡ words → Going G subjects roots roots 0 levels
going_start G subjects roots levels S len = record { sound = S; len = len; closed = λ r p q z. absurd (omega arith) }

-- those due are left in the next round
pub going_turn : {G : Graph} {subjects known due : ℕ} {levels : List ℕ} → Going G subjects known 0 due levels → Going G subjects known due 0 levels
going_turn I = record { sound = I.sound; len = I.len; closed = λ r p q z. I.closed r p (bit_none r) q }

pub going_end : {G : Graph} {subjects known left count : ℕ} {levels issuers last earlier : List ℕ} → Ready G count issuers last earlier subjects → known < 2 ^ 64
    → Going G subjects known left 0 levels → left ≡ 0 → Found (Holds G) known levels
going_end {G} {subjects} {known} {left} {levels} R fits I z =
    complete G subjects known levels R fits (λ r p. I.closed r p (ap (λ (y : ℕ). bit y r) z ∙ bit_none r) (bit_none r)) I.sound

size_zero : (n : ℕ) → size n 0 ≡ 0
unfolding size
size_zero zero = refl
size_zero (suc n) = let e = size_zero n in let f = bit_none n in omega arith

-- where a root falls due the room shrinks, and else fewer are left: none
pub round_less : (room₀ left room₁ due : ℕ) → Falls room₀ 0 room₁ due → left < 2 ^ 64 → (left ≡ 0 → ⊥) → room₁ * suc key_limit + size key_limit due < room₀ * suc key_limit + size key_limit left
round_less room₀ left room₁ due F fits n =
    let m = some_member left fits n in
    let p = F.falls in
    let s = size_le key_limit due in
    let z = size_zero key_limit in
    let l = size_more key_limit 0 left m.0 (λ j h. let q = bit_none j in omega arith) m.1 (let q = bit_none m.0 in let r = m.2 in omega arith) in
    ⊎_elim (λ y. omega arith) (λ y. omega arith) F.less

-- no levels at all are sound
pub sound_zeros : (G : Graph) → Sound G (replicate words 0)
sound_zeros G = record { derived = λ l u x h ul i. absurd (none_in words (u * level_count + l) x i); nested = λ l u x h ul i. absurd (none_in words (u * level_count + suc l) x i) }
