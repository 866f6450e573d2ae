-- The plain evaluator's positive levels, N(d), coverage and eligibility are those of the definitions.
-- Idea: each list that it keeps has exactly what the definition names (`Exactly`), so that a table over such lists answers for them
-- (`table_answer`), and each of its tests says the definition's statement (`Says`). It rests on `levels_answer`.
use Prim.Native.Nat.{ℕ}
use mathlib.Core.Bool.{not}
use mathlib.Core.List.Memᴰ
use mathlib.Core.List.{List, [], map, Memᴰ}
use mathlib.Core.Logic.{◌⊎◌, inl, inr}
use mathlib.Core.Path.{◌≡◌, refl, sym, subst}
use lib.Dec.{eqb}
use native.Mathlib.Omega.{arith}
use Rattle.rules.specs.Rules.{Stands, Answer, Lists, Nobody, Positive, Excluded, revoker, administered, Covered, Uncovered, Eligible, IsSubject, RevocationOf, RevokedBy}
use Rattle.rules.specs.Rows.{level_of}
use Rattle.rules.specs.Numbered.{Del, Rev, Holding, World, store, world, Less}
use Rattle.rules.proofs.Derivations.Answers.{answer_carry}
use Rattle.rules.proofs.Derivations.Monotone.{mono}
use Rattle.rules.proofs.Plain.Evaluate.{fields, same, Table, any, mem, val, levels, keys_of, naming, stands_in, is_subject, at_admin, excludes, excluded, covered, eligible, issuer_in}
use Rattle.rules.proofs.Plain.Says.{Says, alike, both, either, neither, says_eq}
use Rattle.rules.proofs.Plain.Lists.{says_mem, says_agree, Some, says_any, Exactly, exactly, members, listed, keep_exactly, keep_lists, ascend_in, ascend_ascending}
use Rattle.rules.proofs.Plain.Bytes.{says_stands, says_admin}
use Rattle.rules.proofs.Plain.Levels.{levels_answer}

-- ## Delegations as values
pub says_same : (d e : Del) → Says (d ≡ e) (same d e)
unfolding same
says_same d e = alike
    (λ p i. record { digest = p.0 i; issuer = p.1.0 i; audience = p.1.1.0 i; subject = p.1.1.1.0 i; power = p.1.1.1.1.0 i })
    (λ p. ((λ i. (p i).digest), ((λ i. (p i).issuer), ((λ i. (p i).audience), ((λ i. (p i).subject), ((λ i. (p i).power), tt))))))
    (says_agree fields d e)

pub says_held : (d : Del) (ds : List Del) → Says (Memᴰ d ds) (any (same d) ds)
says_held d ds = alike (λ s. Memᴰ.cast s.is s.mem) (λ m. record { one = d; mem = m; is = refl }) (says_any ds (λ e m. says_same d e))

-- One digest, one held delegation.
abbrev pub Distinct : Holding → Type 0
Distinct S = (d e : Del) → Memᴰ d S.dels → Memᴰ e S.dels → d.digest ≡ e.digest → d ≡ e

-- ## The store's keys and its table of positive levels
unfoldable pub ks : Holding → List ℕ
ks S = keys_of S.dels S.revs

unfoldable pub pos : Holding → Table
pos S = levels (ks S) S.dels [] (λ d. d.power)

pub nobody : Exactly {A = ℕ} Nobody []
nobody = record { sound = λ n m. Memᴰ.not-nil m; complete = λ n z. absurd z }

module _ (S : Holding) where
  abbrev each : (Del → ℕ) → List ℕ
  each f = map f S.dels

  -- The keys that a held certificate names are among them.
  pub known : (d : Del) → Memᴰ d S.dels → Memᴰ d.issuer (ks S) × Memᴰ d.audience (ks S) × Memᴰ d.subject (ks S)
  unfolding ks keys_of
  known d m = (
    ascend_in (Memᴰ.append_left _ (Memᴰ.map (λ d. d.issuer) m)),
    ascend_in (Memᴰ.append_right (each (λ d. d.issuer)) (Memᴰ.append_left _ (Memᴰ.map (λ d. d.audience) m))),
    ascend_in (Memᴰ.append_right (each (λ d. d.issuer)) (Memᴰ.append_right (each (λ d. d.audience)) (Memᴰ.append_left _ (Memᴰ.map (λ d. d.subject) m)))),
  )

  known_revoker : (v : Rev) → Memᴰ v S.revs → Memᴰ v.issuer (ks S)
  unfolding ks keys_of
  known_revoker v m = ascend_in (Memᴰ.append_right (each (λ d. d.issuer)) (Memᴰ.append_right (each (λ d. d.audience))
      (Memᴰ.append_right (each (λ d. d.subject)) (Memᴰ.map (λ v. v.issuer) m))))

  pub keys : Lists Less (λ k. Memᴰ k (ks S)) (ks S)
  unfolding ks keys_of
  keys = listed (ascend_ascending _)

  -- The table over lists of what is usable and of what is excluded has the answers for these.
  pub table_answer : {E : Del → Type 0} {N : ℕ → Type 0} (es : List Del) (ns : List ℕ) (c : Del → ℕ) → ((d : Del) → E d → Memᴰ d S.dels)
      → Exactly E es → Exactly N ns → (r x : ℕ) → Answer (Stands World E N c r x) (level_of (val ns (levels (ks S) es ns c) r x))
  table_answer es ns c held e n r x = answer_carry
      (λ l s. mono e.sound n.complete (λ d m. omega arith) s)
      (λ l s. mono e.complete n.sound (λ d m. omega arith) s)
      (levels_answer (ks S) es ns c (λ d m. known d (held d (e.sound d m))) r x)

  pub positive_answer : (r x : ℕ) → Answer (Positive (world S) r x) (level_of (val [] (pos S) r x))
  unfolding pos
  positive_answer = table_answer S.dels [] (λ d. d.power) (λ d m. m) members nobody

  -- ## Revocations, and N(d)
  pub says_names : (d : Del) (v : Rev) → Memᴰ v S.revs → Says (RevocationOf (store S) d v) (eqb v.target d.digest)
  says_names d v m = alike (λ e. record { held = m; names = e }) (λ r. r.names) (says_eq v.target d.digest)

  pub named : (d : Del) → Exactly (RevocationOf (store S) d) (naming S d)
  unfolding naming
  named d = keep_exactly (says_names d) (λ v r. r.held) members

  revokes : {k : ℕ} {d : Del} (v : Rev) → Memᴰ v (naming S d) → v.issuer ≡ k → RevokedBy (store S) k d
  revokes {d = d} v m e = record { revocation = v; of = (named d).sound v m; issuer = e }

  says_revokes : (k : ℕ) (d : Del) → Says (RevokedBy (store S) k d) (any (λ v. eqb v.issuer k) (naming S d))
  says_revokes k d = alike (λ s. revokes s.one s.mem s.is)
      (λ r. record { one = r.revocation; mem = (named d).complete r.revocation r.of; is = r.issuer })
      (says_any (naming S d) (λ v m. says_eq v.issuer k))

  pub says_subject : (n : ℕ) → Says (IsSubject (world S) n) (is_subject S (ks S) (pos S) n)
  unfolding is_subject
  says_subject n = alike (λ s. record { del = s.one; held = s.mem; subject = s.is })
      (λ h. record { one = h.del; mem = h.held; is = h.subject })
      (says_any S.dels (λ d m. says_eq d.subject n))

  -- why the revocation v puts n into N(d)
  abbrev Excludes : ℕ → Rev → Type 0
  Excludes n v = (v.issuer ≡ n) ⊎ (IsSubject (world S) n × Positive (world S) n v.issuer 3)

  pub says_excl : (d : Del) (n : ℕ) → Says (Excluded (world S) d n) (excludes S (ks S) (pos S) d n)
  unfolding excludes at_admin
  says_excl d n = alike (λ s. there s.one s.mem s.is) back (says_any (naming S d)
      (λ v m. either (says_eq v.issuer n) (both (says_subject n) (says_admin (val [] (pos S) n v.issuer) (positive_answer n v.issuer)))))
    where
      there : (v : Rev) → Memᴰ v (naming S d) → Excludes n v → Excluded (world S) d n
      there v m (inl e) = revoker (revokes v m e)
      there v m (inr q) = administered q.0.del v.issuer q.0.held q.0.subject (revokes v m refl) q.1

      back : Excluded (world S) d n → Some (Excludes n) (naming S d)
      back (revoker r) = record { one = r.revocation; mem = (named d).complete r.revocation r.of; is = inl r.issuer }
      back (administered e k h p r t) = record {
        one = r.revocation;
        mem = (named d).complete r.revocation r.of;
        is = inr (record { del = e; held = h; subject = p }, subst (λ x. Positive (world S) n x 3) (sym r.issuer) t);
      }

  -- N(d) as a list
  pub exclusion : (d : Del) → Lists Less (Excluded (world S) d) (excluded S (ks S) (pos S) d)
  unfolding excluded
  exclusion d = keep_lists (λ n m. says_excl d n) held keys
    where
      held : (n : ℕ) → Excluded (world S) d n → Memᴰ n (ks S)
      held n (revoker r) = Memᴰ.cast (sym r.issuer) (known_revoker r.revocation r.of.held)
      held n (administered e k h p r t) = Memᴰ.cast (sym p) (known e h).2

  says_excluded : (d : Del) (n : ℕ) → Says (Excluded (world S) d n) (mem n (excluded S (ks S) (pos S) d))
  says_excluded d n = alike ((exclusion d).sound n) ((exclusion d).complete n) (says_mem n (excluded S (ks S) (pos S) d))

  -- ## Coverage and eligibility
  pub says_covered : (d : Del) → Memᴰ d S.dels → Says (Covered (world S) d) (covered S (ks S) (pos S) d)
  unfolding covered stands_in
  says_covered d m = alike
      (λ s. record { held = m; key = s.one; excluded = (exclusion d).sound s.one s.mem; level = s.is.level; stands = s.is.holds })
      (λ c. record { one = c.key; mem = (exclusion d).complete c.key c.excluded; is = record { level = c.level; holds = c.stands } })
      (says_any (excluded S (ks S) (pos S) d) (λ k n. says_stands (val [] (pos S) d.subject k) (positive_answer d.subject k)))

  pub says_uncovered : (d : Del) → Memᴰ d S.dels → Says (Uncovered (world S) d) (not (covered S (ks S) (pos S) d))
  says_uncovered d m = alike (λ n. record { held = m; not = n }) (λ u. u.not) (neither (says_covered d m))

  pub says_eligible : (d : Del) → Memᴰ d S.dels → Says (Eligible (world S) d) (eligible S (ks S) (pos S) d)
  unfolding eligible
  says_eligible d m = alike
      (λ p. record { covered = p.0; issuer = p.1.0; subject = p.1.1.0; audience = p.1.1.1 })
      (λ e. (e.covered, (e.issuer, (e.subject, e.audience))))
      (both (says_covered d m) (both (neither (says_excluded d d.issuer))
      (both (neither (says_excluded d d.subject)) (neither (says_revokes d.audience d)))))

  -- The issuer's level over the subject, avoiding N(d).
  pub issuer_answer : {E : Del → Type 0} (es : List Del) (c : Del → ℕ) (d : Del) → ((e : Del) → E e → Memᴰ e S.dels) → Exactly E es
      → Answer (Stands World E (Excluded (world S) d) c d.subject d.issuer) (level_of (issuer_in (ks S) es (excluded S (ks S) (pos S) d) c d))
  unfolding issuer_in
  issuer_answer es c d held e = table_answer es (excluded S (ks S) (pos S) d) c held e (exactly (exclusion d)) d.subject d.issuer
