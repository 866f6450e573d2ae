-- Every question has an answer: on every finite store each answer of the plain evaluator is one that the definitions allow.
-- Levels and caps are read off Coverage and Caps; each list is one that ascends, of which what passes a test was kept (`keep_lists`).
use Prim.Native.Nat.{ℕ, pred}
use mathlib.Core.Bool.{true, not, cond, ◌&&◌}
use mathlib.Core.List.Memᴰ
use mathlib.Core.List.{List, [], map, Memᴰ}
use mathlib.Core.Logic.{inl, inr}
use mathlib.Core.Option.{Option, none, some}
use mathlib.Core.Path.{◌≡◌, refl, sym, subst}
use lib.Dec.{eqb}
use native.Mathlib.Omega.{arith}
use Rattle.rules.specs.Rules.{Greatest, Answer, absent, level, Ascending, done, before, Lists, IsSubject, Excluded, LiveCovered, LiveUncovered, Live, Caps, Effective, Conveys, cap, plain, nothing, Closure, ClosureRev, DelegationTo, RevocationOf, Node, live, revoked, unsupported, StandingIs, is_live, is_revoked, is_unsupported, PositiveIs, EffectiveIs, ConveyedIs, Member, MembersAre}
use Rattle.rules.specs.Rows.{level_of}
use Rattle.rules.specs.Numbered.{Del, Holding, store, world, Lower, Less}
use Rattle.rules.proofs.Derivations.Answers.{greatest_unique}
use Rattle.rules.proofs.Derivations.Monotone.{stands_named}
use Rattle.rules.proofs.Evaluation.LiveSet.{live_held, effective_exists}
use Rattle.rules.proofs.Plain.Evaluate.{any, keep, val, subjects_of, naming, stands_in, flagged, isLive, cap_in, evaluate, through, positive_of, effective_of, members_of, held_of, excluded_of, live_of, conveyed_of, standing_of, closure_of, closure_revs_of, delegations_to_of}
use Rattle.rules.proofs.Plain.Says.{Says, holds, fails, told, alike, both, neither, says_eq}
use Rattle.rules.proofs.Plain.Lists.{says_any, listed, keep_lists, ascending_one}
use Rattle.rules.proofs.Plain.Bytes.{level_pred, level_most, says_stands}
use Rattle.rules.proofs.Plain.Coverage.{ks, pos, Distinct, known, keys, positive_answer, says_held, says_names, named, says_subject, exclusion}
use Rattle.rules.proofs.Plain.Live.{says_live_covered}
use Rattle.rules.proofs.Plain.Caps.{Flags, under_all, Lives, cap_t, cap-of, eff, says_live, caps, effective_answer}

-- A store as insertions leave it: the digests of each kind ascend.
pub record Sorted (S : Holding) : Type 0 where
  pub dels : Ascending (Lower (λ d. d.digest)) S.dels
  pub revs : Ascending (Lower (λ v. v.digest)) S.revs

module _ (S : Holding) (o : Sorted S) where
  -- one digest, one delegation
  one : Distinct S
  one d e m n q = ascending_one (λ d. d.digest) o.dels m n q

  -- ## Levels, the live ones, caps
  pub positive_right : (s x : ℕ) → PositiveIs (world S) s x (positive_of S (evaluate S) s x)
  unfolding positive_of evaluate ks pos
  positive_right = positive_answer S

  pub live_covered_right : (d : Del) → Memᴰ d S.dels → Says (LiveCovered (world S) d) (flagged (evaluate S).flags d)
  unfolding evaluate ks pos
  live_covered_right d m = says_live_covered S one d m

  pub live_right : (d : Del) → Says (Live (world S) d) (live_of S (evaluate S) d)
  unfolding live_of held_of evaluate ks pos Flags under_all
  live_right d = told (λ b. Says (Live (world S) d) (b && isLive S (ks S) (pos S) (Flags S) (under_all S) d)) (says_held d S.dels)
      (says_live S one d) (λ n. fails (λ v. n (live_held v)))

  pub caps_right : Caps (world S) (cap_in S (evaluate S).keys (evaluate S).positive (evaluate S).caps)
  unfolding evaluate ks pos Flags under_all Lives cap_t cap-of
  caps_right = caps S one

  pub effective_right : (s x : ℕ) → EffectiveIs (world S) s x (effective_of S (evaluate S) s x)
  unfolding effective_of evaluate ks pos Flags under_all Lives cap_t cap-of eff
  effective_right s x = record { κ = cap-of S; caps = caps S one; answer = effective_answer S one s x }

  -- ## Conveyed, and standing
  -- an uncovered one conveys, since its issuer has an effective level
  conveys : {d : Del} {p : Option ℕ} → LiveUncovered (world S) d → Answer (Effective (world S) (cap-of S) d.subject d.issuer) p
      → Conveys (world S) (cap-of S) d (through d.power p)
  unfolding through
  conveys u (absent f) = let x = effective_exists (cap-of S) (inl u) in absurd (f x.level x.holds)
  conveys u (level {l} g) = plain l u g

  pub conveyed_right : (d : Del) → ConveyedIs (world S) d (conveyed_of S (evaluate S) d)
  unfolding conveyed_of effective_of evaluate ks pos Flags under_all Lives cap_t cap-of eff
  conveyed_right d = record {
    κ = cap-of S;
    caps = caps S one;
    conveys = told (λ b. Conveys (world S) (cap-of S) d (cond b (cond (flagged (Flags S) d) (some (cap-of S d)) rest) none)) (live_right d)
        (λ v. told (λ b. Conveys (world S) (cap-of S) d (cond b (some (cap-of S d)) rest)) (live_covered_right d (live_held v)) cap
        (λ n. elim v [ inl u ↦ conveys u (effective_answer S one d.subject d.issuer) | inr w ↦ absurd (n w) ]))
        nothing;
  }
    where
      rest : Option ℕ
      rest = through d.power (level_of (val [] (eff S) d.subject d.issuer))

  pub standing_right : (d : Del) → Memᴰ d S.dels → StandingIs (world S) d (standing_of S (evaluate S) d)
  unfolding standing_of
  standing_right d m = told (λ b. StandingIs (world S) d (cond b live (cond (any (λ v. true) (naming S d)) revoked unsupported))) (live_right d) is_live
      (λ n. told (λ b. StandingIs (world S) d (cond b revoked unsupported)) (says_any (naming S d) (λ v k. holds ((named S d).sound v k)))
      (λ s. is_revoked s.one.issuer m n (record { revocation = s.one; of = s.is; issuer = refl }))
      (λ k. is_unsupported m n (λ j r. k (record { one = r.revocation; mem = (named S d).complete r.revocation r.of; is = r.of }))))

  -- ## Lists
  pub excluded_right : (d : Del) → Lists Less (Excluded (world S) d) (excluded_of S (evaluate S) d)
  unfolding excluded_of evaluate ks pos
  excluded_right d = exclusion S d

  pub subjects_right : Lists Less (IsSubject (world S)) (subjects_of S (evaluate S))
  unfolding subjects_of evaluate ks pos
  subjects_right = keep_lists (λ n m. says_subject S n) (λ n h. Memᴰ.cast (sym h.subject) (known S h.del h.held).2) (keys S)

  says_node : (s n : ℕ) → Says (Node (world S) s n) (stands_in [] (evaluate S).positive s n)
  unfolding stands_in evaluate ks pos
  says_node s n = alike (λ l. record { level = l.level; stands = l.holds }) (λ k. record { level = k.level; holds = k.stands })
      (says_stands (val [] (pos S) s n) (positive_answer S s n))

  pub closure_right : (s : ℕ) → Lists (Lower (λ d. d.digest)) (Closure (world S) s) (closure_of S (evaluate S) s)
  unfolding closure_of
  closure_right s = keep_lists (λ d m. alike (λ n. record { held = m; node = n }) (λ c. c.node) (says_node s d.subject))
      (λ d c. c.held) (listed o.dels)

  pub closure_revs_right : (s : ℕ) → Lists (Lower (λ v. v.digest)) (ClosureRev (store S) s) (closure_revs_of S (evaluate S) s)
  unfolding closure_revs_of
  closure_revs_right s = keep_lists (λ v m. alike
      (λ t. record { del = t.one; closure = (closure_right s).sound t.one t.mem; of = record { held = m; names = t.is } })
      (λ c. record { one = c.del; mem = (closure_right s).complete c.del c.closure; is = c.of.names })
      (says_any (closure_of S (evaluate S) s) (λ d k. says_eq v.target d.digest))) (λ v c. c.of.held) (listed o.revs)

  pub delegations_to_right : (s x : ℕ) → Lists (Lower (λ d. d.digest)) (DelegationTo (world S) s x) (delegations_to_of S (evaluate S) s x)
  unfolding delegations_to_of
  delegations_to_right s x = keep_lists (λ d m. alike (λ p. record { held = m; subject = p.0; audience = p.1 }) (λ c. (c.subject, c.audience))
      (both (says_eq d.subject s) (says_eq d.audience x))) (λ d c. c.held) (listed o.dels)

  pub revocations_right : (d : Del) → Lists (Lower (λ v. v.digest)) (RevocationOf (store S) d) (naming S d)
  unfolding naming
  revocations_right d = keep_lists (says_names S d) (λ v r. r.held) (listed o.revs)

-- ## Members
-- Keys with something beside them ascend as the keys do.
beside : (f : ℕ → ℕ) {xs : List ℕ} → Ascending Less xs → Ascending {A = ℕ × ℕ} (λ m n. Less m.0 n.0) (map (λ x. (x, f x)) xs)
beside f done = done
beside f (before {x} {xs} a s) =
    before (λ n m. let h = Memᴰ.of_map (λ x. (x, f x)) xs m in subst (Less x) (λ i. (h.2 i).0) (a h.0 h.1)) (beside f s)

module _ (S : Holding) (o : Sorted S) where
  answer : (s x : ℕ) → Answer (Effective (world S) (cap-of S) s x) (level_of (val [] (eff S) s x))
  answer = effective_answer S (one S o)

  -- a key other than s with a level over s
  record Ranked (s x : ℕ) : Type 0 where
    other : ¬ (x ≡ s)
    level : ℕ
    stands : Effective (world S) (cap-of S) s x level

  ranked : (s : ℕ) → Lists Less (Ranked s) (keep (λ x. not (eqb x s) && stands_in [] (eff S) s x) (ks S))
  unfolding stands_in
  ranked s = keep_lists
      (λ x m. alike (λ p. record { other = p.0; level = p.1.level; stands = p.1.holds })
      (λ r. (r.other, record { level = r.level; holds = r.stands }))
      (both (neither (says_eq x s)) (says_stands (val [] (eff S) s x) (answer s x)))) held (keys S)
    where
      -- it is somebody's audience
      held : (x : ℕ) → Ranked s x → Memᴰ x (ks S)
      held x r = elim (stands_named r.stands) [
        | inl e ↦ absurd (r.other e)
        | inr q ↦ Memᴰ.cast (sym q.2) (known S q.0 (live_held q.1)).1
      ]

  top : (s x : ℕ) → Ranked s x → Greatest (Effective (world S) (cap-of S) s x) (pred (val [] (eff S) s x))
  top s x r = let n = val [] (eff S) s x in level_pred n (answer s x) (omega (arith, level_most n r.level (answer s x) r.stands))

  pub members_right : (s : ℕ) → MembersAre (world S) Less s (members_of S (evaluate S) s)
  unfolding members_of evaluate ks pos Flags under_all Lives cap_t cap-of eff
  members_right s = record {
    κ = cap-of S;
    caps = caps S (one S o);
    lists = record {
      ascending = beside level_at (ranked s).ascending;
      sound = λ m k.
          let h = Memᴰ.of_map (λ x. (x, level_at x)) _ k in
          let r = (ranked s).sound h.0 h.1 in
          subst (Member (world S) (cap-of S) s) h.2 (record { other = r.other; effective = top s h.0 r });
      complete = λ m p.
          let r : Ranked s m.0 = record { other = p.other; level = m.1; stands = p.effective.holds } in
          let q = greatest_unique p.effective (top s m.0 r) in
          Memᴰ.cast (λ i. (m.0, q i)) (Memᴰ.map (λ x. (x, level_at x)) ((ranked s).complete m.0 r));
    };
  }
    where
      level_at : ℕ → ℕ
      level_at x = pred (val [] (eff S) s x)
