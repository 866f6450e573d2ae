-- Coverage: the word that is computed is N(d). Assumes nothing.
use Prim.Native.Nat.{ℕ, ◌+◌, ◌≤◌, ◌<◌, max}
use mathlib.Core.Path.{◌≡◌, refl, sym, ap, ◌∙◌, subst}
use mathlib.Core.List.{List}
use mathlib.Core.Logic.{inl, inr, ⊎_elim}
use native.Mathlib.Omega.{arith}
use native.Mathlib.Decide.{ℕ_discrete}
use lib.ListN.{get_or, set, length-set, replicate}
use lib.Seq.{get_or-set_same, get_or-set_other}
use Rattle.keyset.specs.Word.{bit}
use Rattle.keyset.proofs.Laws.{bit_le, bit_two}
use Rattle.places.specs.Limits.{delegation_limit}
use Rattle.rules.specs.Rules.{Admin, Positive, Excluded, revoker, administered}
use Rattle.rules.proofs.Derivations.Answers.{just}
use Rattle.rules.proofs.Derivations.Monotone.{stands_top}
use Rattle.search.specs.Sets.{Word, Among}
use Rattle.search.specs.Levels.{word, Found}
use Rattle.places.proofs.Repeated.{repeated}
use Rattle.search.proofs.Laws.Answer.{found_only, found_has}
use Rattle.coverage.specs.Places.{places, Subject, Names}
use Rattle.coverage.specs.Coverage.{RevokersBy, Shared, Listed, Exclusion, NetIs}
use Rattle.coverage.specs.declared.Facts.{Facts}
use Rattle.coverage.proofs.Laws.Flags.{bit_zero}
use Rattle.coverage.proofs.Laws.Fill.{any_none, any_more, any_skip}

-- ---- the keys of N(d), from those who revoked d

module _ (w s subjects : ℕ) (found : List ℕ) where
  -- nobody did
  pub exclusion_nobody : w ≡ 0 → Exclusion w s subjects found 0
  exclusion_nobody z = record {
    word_is = λ h. absurd (omega arith);
    some = λ h. absurd (omega arith);
    none = λ y k l. ⊎_elim (λ b. absurd (bit_zero w k z b)) (λ a. absurd (bit_zero w a.is.key z a.is.right)) l;
  }

  module _ (admins all over : ℕ) (A : Word admins (Among subjects (λ r. Shared (word found r Admin) w))) (is : (j : ℕ) → bit all j ≡ max (bit w j) (bit admins j))
      (over-is : over ≡ word found s 0) where
    all_has : (k : ℕ) → Listed w subjects found k → bit all k ≡ 1
    all_has k (inl b) = omega (arith, is k, bit_le admins k)
    all_has k (inr a) = omega (arith, is k, A.has k a, bit_le w k)

    all_only : (k : ℕ) → bit all k ≡ 1 → Listed w subjects found k
    all_only k b = ⊎_elim (λ z. inr (A.only k (omega (arith, is k)))) (λ z. inl z) (bit_two w k)

    pub exclusion_covers : Shared all over → Exclusion w s subjects found all
    exclusion_covers h = record {
      word_is = λ p. record { has = all_has; only = all_only };
      some = λ p. subst (λ (y : ℕ). Shared all y) over-is h;
      none = λ z. absurd (bit_zero all h.key z h.left);
    }

    pub exclusion_none : (Shared all over → ⊥) → Exclusion w s subjects found 0
    exclusion_none n = record {
      word_is = λ h. absurd (omega arith);
      some = λ h. absurd (omega arith);
      none = λ z k l b. n (record { key = k; left = all_has k l; right = ap (λ (y : ℕ). bit y k) over-is ∙ b });
    }

-- ---- they are N(d)

module _ (e : Facts) (subjects : ℕ) (found : List ℕ) (W : Word subjects (Subject e)) (F : Found (Positive (places e)) subjects found) (d : ℕ) (held : d < e.delegations)
    (w : ℕ) (R : Word w (Names e.revoker e.target e.revocations d)) where
  from_listed : (k : ℕ) → Listed w subjects found k → Excluded (places e) d k
  from_listed k (inl b) = revoker (R.only k b)
  from_listed k (inr a) =
      let s = a.is in
      let f = W.only k a.member in
      let m = found_only F k s.key a.member Admin (omega arith) s.left in
      let z : m.level ≡ Admin = omega (arith, m.more, stands_top m.holds) in
      administered f.place s.key f.lt f.is (R.only s.key s.right) (subst (λ (y : ℕ). Positive (places e) k s.key y) z m.holds)

  to_listed : (k : ℕ) → Excluded (places e) d k → Listed w subjects found k
  to_listed k (revoker r) = inl (R.has k r)
  to_listed k (administered f j h p r s) =
      let b : bit subjects k ≡ 1 = W.has k (record { place = f; lt = h; is = p }) in
      inr (record { member = b; is = record { key = j; left = found_has F k j b Admin (just s); right = R.has j r } })

  root : bit subjects (get_or e.subject d 0) ≡ 1
  root = W.has _ (record { place = d; lt = held; is = refl })

  pub net_is : (r : ℕ) → Exclusion w (get_or e.subject d 0) subjects found r → NetIs e d r
  net_is r X = record {
    none = λ z c. X.none z c.key (to_listed c.key c.excluded)
        (found_has F (get_or e.subject d 0) c.key root 0 (record { level = c.level; more = omega arith; holds = c.stands }));
    some = λ h.
        let s = X.some h in
        let m = found_only F (get_or e.subject d 0) s.key root 0 (omega arith) s.right in
        record { held = held; key = s.key; excluded = from_listed s.key ((X.word_is h).only s.key s.left); level = m.level; stands = m.holds };
    word_is = λ h. record { has = λ k x. (X.word_is h).has k (to_listed k x); only = λ k b. from_listed k ((X.word_is h).only k b) };
  }

-- ---- who revoked what

module _ (revoker target : List ℕ) where
  pub revokers_none : (n : ℕ) → RevokersBy revoker target 0 n (replicate delegation_limit 0)
  revokers_none n = record { len = refl; is = λ d h. subst (λ (z : ℕ). Word z (Names revoker target 0 d)) (sym (repeated {A = ℕ} delegation_limit d 0)) (any_none _) }

  module _ (j n : ℕ) (words : List ℕ) (R : RevokersBy revoker target j n words) where
    -- j names the delegation c
    pub revokers_more : (c k w : ℕ) → get_or target j 0 ≡ c → get_or revoker j 0 ≡ k → c < delegation_limit → bit w k ≡ 1
        → ((i : ℕ) → (i ≡ k → ⊥) → bit w i ≡ bit (get_or words c 0) i) → RevokersBy revoker target (j + 1) n (set words c w)
    revokers_more c k w p q lt b o = record { len = length-set words c w ∙ R.len; is = λ d h. go d h (ℕ_discrete d c) }
      where
        go : (d : ℕ) → d < n → Dec (d ≡ c) → Word (get_or (set words c w) d 0) (Names revoker target (j + 1) d)
        go d h (yes e) =
            subst (λ (z : ℕ). Word z (Names revoker target (j + 1) d)) (sym (ap (λ (z : ℕ). get_or (set words c w) z 0) e ∙ get_or-set_same words c w 0 (let l = R.len in omega arith)))
            (any_more j (R.is d h) b (λ i m. o i m ∙ ap (λ (z : ℕ). bit (get_or words z 0) i) (sym e)) (p ∙ sym e, q) (λ i t. sym t.1 ∙ q))
        go d h (no m) =
            subst (λ (z : ℕ). Word z (Names revoker target (j + 1) d)) (sym (get_or-set_other words c d w 0 m)) (any_skip j (R.is d h) (λ i t. m (sym t.0 ∙ p)))

    -- j names none of the first n
    pub revokers_skip : n ≤ get_or target j 0 → RevokersBy revoker target (j + 1) n words
    revokers_skip le = record { len = R.len; is = λ d h. any_skip j (R.is d h) (λ i t. let z = t.0 in omega arith) }
