-- Storing a pass's words, a word at a time. Assumes nothing.
use Prim.Native.Nat.{ℕ, ◌+◌, ◌-◌, ◌*◌, ◌^◌, ◌≤◌, ◌<◌}
use mathlib.Core.Path.{◌≡◌, refl, sym, ap, ◌∙◌, subst}
use mathlib.Core.Bool.{Bool, false, not, ◌||◌}
use mathlib.Core.List.{List}
use mathlib.Core.Logic.{⊎_elim}
use native.Mathlib.Decide.{ℕ_discrete}
use native.Mathlib.Omega.{arith}
use borrow.Author.Tests.{eqb-true, eqb-false, not-true, not-false}
use lib.Dec.{eqb}
use lib.ListN.{get_or, set, length, length-set}
use lib.Seq.{get_or-set_same, get_or-set_other}
use Rattle.keyset.specs.Word.{bit}
use Rattle.keyset.proofs.Laws.{bit_le, bit_none, some_member}
use Rattle.places.specs.Limits.{key_limit, level_count}
use Rattle.search.specs.Levels.{word}
use Rattle.search.specs.Rounds.{Rise, Stored}
use Rattle.search.proofs.Laws.Sets.{or_false, or_true}

pub storing_none : (r : ℕ) (row levels : List ℕ) → Stored r 0 row levels levels false
storing_none r row levels = record {
  same = refl;
  here = λ l q. absurd (omega arith);
  rest = λ l p q. refl;
  there = λ l u n h. refl;
  still = λ e l x q. absurd (omega arith);
  rose = λ e. absurd (let z : ◌≡◌ {A = ℕ} 0 1 = cc in omega arith);
}

apart : (l m u r : ℕ) → (u ≡ r → ⊥) → m < level_count → l < level_count → u * level_count + m ≡ r * level_count + l → ⊥
apart l m u r n p q e = n (omega arith)

bits_new : (f w m : ℕ) → f ≡ w - m → f ≡ 1 → w ≤ 1 → w ≡ 1
bits_new f w m e p h = omega arith

bits_old : (f w m : ℕ) → f ≡ w - m → f ≡ 1 → w ≤ 1 → m ≡ 0
bits_old f w m e p h = omega arith

module _ (r l : ℕ) (row old levels : List ℕ) (t : Bool) (fresh : ℕ) (S : Stored r l row old levels t) (high : l < level_count) (rl : r < key_limit)
    (len : length old ≡ key_limit * level_count) (is-fresh : (j : ℕ) → bit fresh j ≡ bit (get_or row l 0) j - bit (word levels r l) j) (fits : fresh < 2 ^ 64) where
  abbrev next : List ℕ
  next = set levels (r * level_count + l) (get_or row l 0)

  other : (i : ℕ) → (i ≡ r * level_count + l → ⊥) → get_or next i 0 ≡ get_or levels i 0
  other i n = get_or-set_other levels (r * level_count + l) i (get_or row l 0) 0 n

  against : (j : ℕ) → bit fresh j ≡ bit (get_or row l 0) j - bit (word old r l) j
  against j = is-fresh j ∙ ap (λ (z : ℕ). bit (get_or row l 0) j - bit z j) (S.rest l (omega arith) high)

  here' : (m : ℕ) → Dec (m ≡ l) → m < l + 1 → word next r m ≡ get_or row m 0
  here' m (yes e) q =
      ap (λ (z : ℕ). word next r z) e ∙ get_or-set_same levels (r * level_count + l) (get_or row l 0) 0 (let k = S.same in omega arith)
      ∙ ap (λ (z : ℕ). get_or row z 0) (sym e)
  here' m (no n) q = other (r * level_count + m) (λ e. n (omega arith)) ∙ S.here m (omega (arith, n))

  still' : (m x : ℕ) → t || not (eqb fresh 0) ≡ false → Dec (m ≡ l) → m < l + 1 → bit (get_or row m 0) x ≤ bit (word old r m) x
  still' m x f (yes e) q =
      let z = ap (λ (y : ℕ). bit y x) (eqb-true fresh 0 (not-false (eqb fresh 0) (or_false t (not (eqb fresh 0)) f).1)) ∙ bit_none x in
      let a = against x in
      subst (λ (y : ℕ). bit (get_or row y 0) x ≤ bit (word old r y) x) (sym e) (omega arith)
  still' m x f (no n) q = S.still (or_false t (not (eqb fresh 0)) f).0 m x (omega (arith, n))

  rise : (fresh ≡ 0 → ⊥) → Rise r row old
  rise n =
      let m = some_member fresh fits n in
      record {
        level = l;
        level_lt = high;
        key = m.0;
        key_lt = m.1;
        new = bits_new _ _ _ (against m.0) m.2 (bit_le (get_or row l 0) m.0);
        old = bits_old _ _ _ (against m.0) m.2 (bit_le (get_or row l 0) m.0);
      }

  pub storing_more : Stored r (l + 1) row old next (t || not (eqb fresh 0))
  storing_more = record {
    same = length-set levels (r * level_count + l) (get_or row l 0) ∙ S.same;
    here = λ m q. here' m (ℕ_discrete m l) q;
    rest = λ m p q. other (r * level_count + m) (λ e. omega arith) ∙ S.rest m (omega arith) q;
    there = λ m u n ml. other (u * level_count + m) (apart l m u r n ml high) ∙ S.there m u n ml;
    still = λ f m x q. still' m x f (ℕ_discrete m l) q;
    rose = λ f. ⊎_elim (λ p. S.rose p) (λ p. rise (λ z. eqb-false fresh 0 (not-true (eqb fresh 0) p) z)) (or_true t (not (eqb fresh 0)) f);
  }
