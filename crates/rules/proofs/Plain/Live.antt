-- The plain evaluator's live covered delegations are the least set of the definitions (`says_live_covered`).
-- Idea: a round flags only what belongs (`joined_live`); where it flags nothing more, the flagged ones have all that the rule asks for
-- (`live_marked`), so that they contain the least set. It rests on `live_set`.
use Prim.Native.Nat.{ℕ, ◌≤◌, ◌<◌}
use mathlib.Core.Bool.{Bool, true, cond, false≢true}
use mathlib.Core.List.{List, [], Memᴰ}
use mathlib.Core.Logic.{◌⊎◌, inl, inr}
use mathlib.Core.Path.{◌≡◌, refl, sym, subst, ap}
use lib.Dec.{ltb}
use native.Mathlib.Omega.{arith}
use Rattle.rules.specs.Rules.{Covered, Uncovered, Eligible, Reached, LiveCovered, Usable}
use Rattle.rules.specs.Numbered.{Del, Holding, world}
use Rattle.rules.proofs.Derivations.Answers.{just}
use Rattle.rules.proofs.Derivations.Monotone.{widen}
use Rattle.rules.proofs.Evaluation.LiveSet.{live_in, live_set, live_held}
use Rattle.rules.proofs.Plain.Evaluate.{Marks, keep, tab, look, by_id, excluded, covered, issuer_in, flagged, usable, joining, joined, live_step, live_flags}
use Rattle.rules.proofs.Plain.Says.{Says, holds, fails, told, says_true, true_says, dec, alike, both, either, says, says_lt}
use Rattle.rules.proofs.Plain.Lists.{Exactly, members, keep_exactly, look_tab}
use Rattle.rules.proofs.Plain.Bytes.{Some-level, says_stands}
use Rattle.rules.proofs.Plain.Until.{Settled, rounds_settle}
use Rattle.rules.proofs.Plain.Coverage.{says_held, ks, pos, Distinct, says_covered, says_uncovered, says_eligible, issuer_answer}

module _ (S : Holding) where
  -- ## One round: E is what is uncovered or flagged so far
  abbrev Marked : Marks → Del → Type 0
  Marked a d = Memᴰ d S.dels × (flagged a d ≡ true)

  abbrev Using : Marks → Del → Type 0
  Using a d = Uncovered (world S) d ⊎ Marked a d

  using_held : (a : Marks) (d : Del) → Using a d → Memᴰ d S.dels
  using_held a d (inl u) = u.held
  using_held a d (inr p) = p.0

  in_use : (a : Marks) → Exactly (Using a) (usable S (ks S) (pos S) a)
  unfolding usable
  in_use a = keep_exactly (λ d m. either (says_uncovered S d m) (alike (λ e. (m, e)) (λ p. p.1) (says (flagged a d)))) (using_held a) members

  says_joining : (a : List (ℕ × ℕ)) (d : Del) → Says (Some-level (Reached (world S) (Using a) d)) (joining S (ks S) (pos S) (usable S (ks S) (pos S) a) d)
  unfolding joining
  says_joining a d = says_stands (issuer_in (ks S) (usable S (ks S) (pos S) a) (excluded S (ks S) (pos S) d) (λ e. e.power) d)
      (issuer_answer S (usable S (ks S) (pos S) a) (λ e. e.power) d (using_held a) (in_use a))

  abbrev joins : Marks → Del → Bool
  joins a = joined S (ks S) (pos S) a (usable S (ks S) (pos S) a)

  abbrev step : Marks → Marks
  step = live_step S (ks S) (pos S)

  -- why a round flags d
  abbrev Joined : Marks → Del → Type 0
  Joined a d = (flagged a d ≡ true) ⊎ (Eligible (world S) d × Some-level (Reached (world S) (Using a) d))

  module _ (one : Distinct S) where
    -- What was tabulated under the digest of a held delegation is its own.
    pub by_tab : (f : Del → ℕ) {d : Del} → Memᴰ d S.dels → by_id (tab (λ d. d.digest) f S.dels) 0 d ≡ f d
    unfolding by_id
    by_tab f {d} m = look_tab (λ d. d.digest) f (λ v. v ≡ f d) S.dels d.digest 0 (λ n. absurd (n d m refl)) (λ e n q. ap f (one e d n m q))

    step_at : (a : Marks) {d : Del} → Memᴰ d S.dels → by_id (step a) 0 d ≡ cond (joins a d) 1 0
    unfolding live_step
    step_at a m = by_tab (λ d. cond (joins a d) 1 0) m

    -- So a flag says why it was set.
    says_step : (a : Marks) (d : Del) → Memᴰ d S.dels → Says (Joined a d) (flagged (step a) d)
    unfolding flagged joined
    says_step a d m = subst (λ v. Says (Joined a d) (ltb 0 v)) (sym (step_at a m))
        (told (λ b. Says (Joined a d) (ltb 0 (cond b 1 0))) (either (says (flagged a d)) (both (says_eligible S d m) (says_joining a d))) holds fails)

    flag : (a : Marks) (d : Del) → Says (0 < by_id a 0 d) (flagged a d)
    unfolding flagged
    flag a d = says_lt 0 (by_id a 0 d)

    -- ## Rounds
    record Good (a : Marks) : Type 0 where
      sound : (d : Del) → Memᴰ d S.dels → flagged a d ≡ true → LiveCovered (world S) d
      small : (d : Del) → Memᴰ d S.dels → by_id a 0 d ≤ 1

    -- What a round flags belongs: what it used was live already.
    joined_live : (a : Marks) → Good a → (d : Del) → Memᴰ d S.dels → Joined a d → LiveCovered (world S) d
    joined_live a g d m (inl f) = g.sound d m f
    joined_live a g d m (inr p) =
        let w = widen {E' = Usable (world S)} (λ e. elim [ inl u ↦ inl u | inr k ↦ inr (g.sound e k.0 k.1) ]) (just p.1.holds) in
        live_in p.0 w.holds

    good_step : (a : Marks) → Good a → Good (step a)
    good_step a g = record {
      sound = λ d m f. joined_live a g d m (says_true (says_step a d m) f);
      small = λ d m. rw (step_at a m) (told (λ b. cond b 1 0 ≤ 1) (says (joins a d)) (λ e. omega arith) (λ n. omega arith));
    }

    -- a flag stays
    rises : (a : Marks) → Good a → (d : Del) → Memᴰ d S.dels → by_id a 0 d ≤ by_id (step a) 0 d
    rises a g d m = told (λ b. by_id a 0 d ≤ by_id (step a) 0 d) (flag a d)
        (λ h. omega (arith, g.small d m, says_true (flag (step a) d) (true_says (says_step a d m) (inl (true_says (flag a d) h)))))
        (λ n. omega arith)

    start : Good []
    unfolding flagged by_id look
    start = record { sound = λ d m e. absurd (false≢true e); small = λ d m. omega arith }

    cs : List Del
    cs = keep (covered S (ks S) (pos S)) S.dels

    covers : Exactly (Covered (world S)) cs
    unfolding cs
    covers = keep_exactly (says_covered S) (λ d c. c.held) members

    ended : Settled Good cs (λ a. by_id a 0) step (live_flags S (ks S) (pos S))
    unfolding live_flags cs
    ended = rounds_settle cs (λ a. by_id a 0) 1 step good_step
        (λ a g d m. rises a g d (covers.sound d m).held) (λ a g d m. g.small d (covers.sound d m).held) [] start

    -- ## At the end
    -- The rounds reach every live covered delegation.
    live_marked : (d : Del) → LiveCovered (world S) d → Marked (live_flags S (ks S) (pos S)) d
    live_marked = live_set.least (Marked (live_flags S (ks S) (pos S))) (λ d l e s.
        let F = live_flags S (ks S) (pos S) in
        let m = e.covered.held in
        let j = says_true (flag (step F) d) (true_says (says_step F d m) (inr (e, record { level = l; holds = s }))) in
        (m, true_says (flag F d) (omega (arith, ended.rest d (covers.complete d e.covered)))))

    pub says_live_covered : (d : Del) → Memᴰ d S.dels → Says (LiveCovered (world S) d) (flagged (live_flags S (ks S) (pos S)) d)
    says_live_covered d m = alike (ended.is_good.sound d m) (λ v. (live_marked d v).1) (says (flagged (live_flags S (ks S) (pos S)) d))

    pub decide_live_covered : (d : Del) → Dec (LiveCovered (world S) d)
    decide_live_covered d = told (λ b. Dec (LiveCovered (world S) d)) (says_held d S.dels)
        (λ m. dec (says_live_covered d m)) (λ n. no (λ v. n (live_held (inr v))))
