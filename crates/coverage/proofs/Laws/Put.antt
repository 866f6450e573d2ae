-- Loops over the members of a word of revocations: what the delegations that they name have, or are given. Assumes nothing.
use Prim.Native.Nat.{ℕ, ◌≤◌, ◌<◌}
use mathlib.Core.Path.{◌≡◌, refl, sym, ap, ◌∙◌, subst}
use mathlib.Core.List.{List}
use mathlib.Core.Logic.{◌⊎◌, inl, inr, ⊎_elim}
use native.Mathlib.Decide.{ℕ_discrete}
use native.Mathlib.Omega.{arith}
use lib.ListN.{get_or, set, length, length-set}
use lib.Seq.{get_or-set_same, get_or-set_other}
use Rattle.keyset.specs.Word.{bit, size}
use Rattle.keyset.proofs.Laws.{bit_two, bit_none, size_more}
use Rattle.places.specs.Limits.{revocation_limit}
use Rattle.search.specs.Sets.{Word}
use Rattle.coverage.specs.Contexts.{Through, Put}

-- those that were taken: members that are no longer left
pub record Taken (members left : ℕ) (k : ℕ) : Type 0 where
  pub member : bit members k ≡ 1
  pub gone : bit left k ≡ 0

pub record Left (members left : ℕ) : Type 0 where
  pub within : (k : ℕ) → bit left k ≡ 1 → bit members k ≡ 1

module _ (members left left' j : ℕ) (first : bit left j ≡ 1) (out : bit left' j ≡ 0) (others : (k : ℕ) → (k ≡ j → ⊥) → bit left' k ≡ bit left k) where
  fewer : (k : ℕ) → Dec (k ≡ j) → bit left' k ≤ bit left k
  fewer k (yes e) = let a = ap (bit left') e in omega arith
  fewer k (no n) = omega (arith, others k n)

  pub left_less : j < revocation_limit → size revocation_limit left' < size revocation_limit left
  left_less h = size_more revocation_limit left' left j (λ k l. fewer k (ℕ_discrete k j)) h (omega arith)

  pub left_more : Left members left → Left members left'
  left_more L = record { within = λ k p. L.within k (let f = fewer k (ℕ_discrete k j) in ⊎_elim (λ z. absurd (omega arith)) (λ z. z) (bit_two left k)) }

  -- the one that is taken, or one that was
  pub taken_split : (k : ℕ) → Taken members left' k → Dec (k ≡ j) → (k ≡ j) ⊎ Taken members left k
  taken_split k t (yes e) = inl e
  taken_split k t (no n) = inr (record { member = t.member; gone = sym (others k n) ∙ t.gone })

-- ---- a word of their subjects

pub record Passing (members left : ℕ) (f : ℕ → ℕ) (w : ℕ) : Type 0 where
  pub left_in : Left members left
  pub has : (k : ℕ) → Taken members left k → bit w (f k) ≡ 1
  pub only : (x : ℕ) → bit w x ≡ 1 → Through members f x

pub passing_none : (members : ℕ) (f : ℕ → ℕ) → Passing members members f 0
passing_none members f = record {
  left_in = record { within = λ k p. p };
  has = λ k t. absurd (let a = t.member in let b = t.gone in omega arith);
  only = λ x p. absurd (let e = bit_none x in omega arith);
}

pub passing_all : {members left : ℕ} {f : ℕ → ℕ} {w : ℕ} → left ≡ 0 → Passing members left f w → Word w (Through members f)
passing_all {members} {left} {f} {w} z P = record {
  has = λ x t. subst (λ (y : ℕ). bit w y ≡ 1) t.is (P.has t.place (record { member = t.member; gone = ap (λ (y : ℕ). bit y t.place) z ∙ bit_none t.place }));
  only = P.only;
}

-- ---- an array of theirs

pub record Putting (members left : ℕ) (target : List ℕ) (f : ℕ → ℕ) (old new : List ℕ) : Type 0 where
  pub left_in : Left members left
  pub same : length new ≡ length old
  pub here : (k : ℕ) → Taken members left k → get_or new (get_or target k 0) 0 ≡ f (get_or target k 0)
  pub there : (d : ℕ) → (get_or new d 0 ≡ get_or old d 0) ⊎ Through members (λ k. get_or target k 0) d

pub putting_none : (members : ℕ) (target : List ℕ) (f : ℕ → ℕ) (old : List ℕ) → Putting members members target f old old
putting_none members target f old = record {
  left_in = record { within = λ k p. p };
  same = refl;
  here = λ k t. absurd (let a = t.member in let b = t.gone in omega arith);
  there = λ d. inl refl;
}

pub putting_all : {members left : ℕ} {target : List ℕ} {f : ℕ → ℕ} {old new : List ℕ} → left ≡ 0 → Putting members left target f old new
    → Put members target (λ d v. v ≡ f d) old new
putting_all z P = record {
  same = P.same;
  here = λ j m. P.here j (record { member = m; gone = ap (λ (y : ℕ). bit y j) z ∙ bit_none j });
  there = P.there;
}

module _ {members : ℕ} {target : List ℕ} {f : ℕ → ℕ} {old new : List ℕ} (left left' j : ℕ) (P : Putting members left target f old new) (first : bit left j ≡ 1)
    (out : bit left' j ≡ 0) (others : (k : ℕ) → (k ≡ j → ⊥) → bit left' k ≡ bit left k) where
  pub putting_more : (d v : ℕ) → get_or target j 0 ≡ d → d < length new → v ≡ f d → Putting members left' target f old (set new d v)
  putting_more d v e lt is = record {
    left_in = left_more members left left' j first out others P.left_in;
    same = length-set new d v ∙ P.same;
    here = λ k t. ⊎_elim (λ q. at_d (get_or target k 0) (ap (λ (y : ℕ). get_or target y 0) q ∙ e))
        (λ u. kept (get_or target k 0) (P.here k u) (ℕ_discrete (get_or target k 0) d)) (taken_split members left left' j first out others k t (ℕ_discrete k j));
    there = λ c. there' c (ℕ_discrete c d);
  }
    where
      at_d : (c : ℕ) → c ≡ d → get_or (set new d v) c 0 ≡ f c
      at_d c q = ap (λ (y : ℕ). get_or (set new d v) y 0) q ∙ get_or-set_same new d v 0 lt ∙ is ∙ ap f (sym q)

      kept : (c : ℕ) → get_or new c 0 ≡ f c → Dec (c ≡ d) → get_or (set new d v) c 0 ≡ f c
      kept c p (yes q) = at_d c q
      kept c p (no n) = get_or-set_other new d c v 0 n ∙ p

      there' : (c : ℕ) → Dec (c ≡ d) → (get_or (set new d v) c 0 ≡ get_or old c 0) ⊎ Through members (λ k. get_or target k 0) c
      there' c (yes q) = inr (record { place = j; member = P.left_in.within j first; is = e ∙ sym q })
      there' c (no n) = ⊎_elim (λ p. inl (get_or-set_other new d c v 0 n ∙ p)) (λ t. inr t) (P.there c)

pub put_map : {members : ℕ} {target : List ℕ} {P Q : ℕ → ℕ → Type 0} {old new : List ℕ}
    → ((j : ℕ) → bit members j ≡ 1 → (v : ℕ) → P (get_or target j 0) v → Q (get_or target j 0) v) → Put members target P old new → Put members target Q old new
put_map f p = record { same = p.same; here = λ j m. f j m _ (p.here j m); there = p.there }
