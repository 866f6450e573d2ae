-- The plain evaluator's live delegations, caps and effective levels are those of the definitions.
-- Idea: rounds from Relay stay below every pre-fixed point (`Good`), and where nothing rises they are one (`caps`): so they are the least.
-- It rests on `least_prefix_caps`: a least pre-fixed point is the caps.
use Prim.Native.Nat.{ℕ, max, ◌≤◌}
use mathlib.Core.List.{List, [], Memᴰ}
use mathlib.Core.Logic.{inl, inr}
use mathlib.Core.Path.{◌≡◌}
use native.Mathlib.Omega.{arith}
use Rattle.rules.specs.Rules.{Stands, Answer, Nobody, LiveCovered, Usable, LiveUncovered, Live, Avoiding, Caps, PreFixed, Effective}
use Rattle.rules.specs.Rows.{level_of}
use Rattle.rules.specs.Numbered.{Del, Holding, World, world}
use Rattle.rules.proofs.Derivations.Monotone.{stands_top}
use Rattle.rules.proofs.Evaluation.LiveSet.{live_held, live_eligible}
use Rattle.rules.proofs.Evaluation.Caps.{below_raise, least_prefix_caps, capped_below}
use Rattle.rules.proofs.Plain.Evaluate.{Table, Marks, keep, look, val, levels, by_id, stands_in, excluded, issuer_in, flagged, usable, live_flags, is_live_uncovered, isLive, cap_in, cap_of, cap_raise, cap_step, cap_table}
use Rattle.rules.proofs.Plain.Says.{Says, cond_yes, cond_no, alike, both, either}
use Rattle.rules.proofs.Plain.Lists.{Exactly, members, keep_exactly}
use Rattle.rules.proofs.Plain.Bytes.{says_stands, capped_above}
use Rattle.rules.proofs.Plain.Until.{Settled, rounds_settle}
use Rattle.rules.proofs.Plain.Coverage.{nobody, ks, pos, Distinct, table_answer, says_covered, says_uncovered, issuer_answer}
use Rattle.rules.proofs.Plain.Live.{by_tab, says_live_covered, decide_live_covered}

-- ## What the evaluation of a store has
unfoldable pub Flags : Holding → Marks
Flags S = live_flags S (ks S) (pos S)

unfoldable pub under_all : Holding → Table
under_all S = levels (ks S) (usable S (ks S) (pos S) (Flags S)) [] (λ d. d.power)

unfoldable pub Lives : Holding → List Del
Lives S = keep (isLive S (ks S) (pos S) (Flags S) (under_all S)) S.dels

unfoldable pub cap_t : Holding → Marks
cap_t S = cap_table S (ks S) (pos S) (Flags S) (Lives S)

unfoldable pub cap-of : Holding → Del → ℕ
cap-of S = cap_in S (ks S) (pos S) (cap_t S)

unfoldable pub eff : Holding → Table
eff S = levels (ks S) (Lives S) [] (cap-of S)

module _ (S : Holding) (one : Distinct S) where
  -- ## Live
  says_flag : (d : Del) → Memᴰ d S.dels → Says (LiveCovered (world S) d) (flagged (Flags S) d)
  unfolding Flags
  says_flag = says_live_covered S one

  usable_held : (d : Del) → Usable (world S) d → Memᴰ d S.dels
  usable_held d (inl u) = u.held
  usable_held d (inr v) = live_held (inr v)

  usables : Exactly (Usable (world S)) (usable S (ks S) (pos S) (Flags S))
  unfolding usable
  usables = keep_exactly (λ d m. either (says_uncovered S d m) (says_flag d m)) usable_held members

  usable_answer : (r x : ℕ) → Answer (Stands World (Usable (world S)) Nobody (λ d. d.power) r x) (level_of (val [] (under_all S) r x))
  unfolding under_all
  usable_answer = table_answer S (usable S (ks S) (pos S) (Flags S)) [] (λ d. d.power) usable_held usables nobody

  says_live_uncovered : (d : Del) → Memᴰ d S.dels → Says (LiveUncovered (world S) d) (is_live_uncovered S (ks S) (pos S) (under_all S) d)
  unfolding is_live_uncovered stands_in
  says_live_uncovered d m = alike
      (λ p. record { uncovered = p.0; level = p.1.level; stands = p.1.holds })
      (λ u. (u.uncovered, record { level = u.level; holds = u.stands }))
      (both (says_uncovered S d m) (says_stands (val [] (under_all S) d.subject d.issuer) (usable_answer d.subject d.issuer)))

  pub says_live : (d : Del) → Memᴰ d S.dels → Says (Live (world S) d) (isLive S (ks S) (pos S) (Flags S) (under_all S) d)
  unfolding isLive
  says_live d m = either (says_live_uncovered d m) (says_flag d m)

  lives : Exactly (Live (world S)) (Lives S)
  unfolding Lives
  lives = keep_exactly says_live (λ d. live_held) members

  pub effective_answer : (r x : ℕ) → Answer (Effective (world S) (cap-of S) r x) (level_of (val [] (eff S) r x))
  unfolding eff
  effective_answer = table_answer S (Lives S) [] (cap-of S) (λ d. live_held) lives nobody

  -- ## One round of caps
  avoiding_answer : (κ : Del → ℕ) (d : Del) → Answer (Avoiding (world S) κ d) (level_of (issuer_in (ks S) (Lives S) (excluded S (ks S) (pos S) d) κ d))
  avoiding_answer κ d = issuer_answer S (Lives S) κ d (λ e. live_held) lives

  -- c by the marks so far, the cap by that c, and the round
  abbrev κ_in : Marks → Del → ℕ
  κ_in = cap_in S (ks S) (pos S)

  abbrev new : Marks → Del → ℕ
  new = cap_of S (ks S) (pos S) (Lives S)

  abbrev step : Marks → Marks
  step = cap_step S (ks S) (pos S) (Flags S) (Lives S)

  -- c is the power of an uncovered one, and what the marks say of a covered one
  cap_plain : (a : Marks) (d : Del) → LiveUncovered (world S) d → κ_in a d ≡ d.power
  unfolding cap_in
  cap_plain a d u = cond_no (says_covered S d u.uncovered.held) (by_id a 0 d) d.power u.uncovered.not

  cap_covered : (a : Marks) (d : Del) → LiveCovered (world S) d → κ_in a d ≡ by_id a 0 d
  unfolding cap_in
  cap_covered a d v = cond_yes (says_covered S d (live_held (inr v))) (by_id a 0 d) d.power (live_eligible v).covered

  -- what a round makes of a live covered delegation
  step_live : (a : Marks) (d : Del) → LiveCovered (world S) d → by_id (step a) 0 d ≡ max (by_id a 0 d) (new a d)
  unfolding cap_step cap_raise
  step_live a d v = let m = live_held (inr v) in
      rw (by_tab S one (cap_raise S (ks S) (pos S) (Flags S) (Lives S) a) m) (cond_yes (says_flag d m) (max (by_id a 0 d) (new a d)) (by_id a 0 d) v)

  new_small : (a : Marks) (d : Del) → new a d ≤ 3
  unfolding cap_of
  new_small a d = capped_below d.power (λ l s. omega (arith, stands_top s)) (avoiding_answer (κ_in a) d)

  -- ## Rounds
  -- The marks are below every pre-fixed point.
  record Good (a : Marks) : Type 0 where
    below : (κ : Del → ℕ) → PreFixed (world S) κ → (d : Del) → LiveCovered (world S) d → by_id a 0 d ≤ κ d
    small : (d : Del) → LiveCovered (world S) d → by_id a 0 d ≤ 3

  good_step : (a : Marks) → Good a → Good (step a)
  unfolding cap_of
  good_step a g = record {
    below = λ κ p d v. omega (arith, step_live a d v, g.below κ p d v, under κ p d v);
    small = λ d v. omega (arith, step_live a d v, g.small d v, new_small a d);
  }
    where
      under : (κ : Del → ℕ) → PreFixed (world S) κ → (d : Del) → LiveCovered (world S) d → new a d ≤ κ d
      under κ p d v = capped_below d.power
          (λ l s. below_raise (cap_plain a) (λ κ p e w. omega (arith, cap_covered a e w, g.below κ p e w)) p v s) (avoiding_answer (κ_in a) d)

  start : Good []
  unfolding by_id look
  start = record { below = λ κ p d v. omega arith; small = λ d v. omega arith }

  cs : List Del
  cs = keep (flagged (Flags S)) S.dels

  capped : Exactly (LiveCovered (world S)) cs
  unfolding cs
  capped = keep_exactly says_flag (λ d v. live_held (inr v)) members

  ended : Settled Good cs (λ a. by_id a 0) step (cap_t S)
  unfolding cap_t cap_table cs
  ended = rounds_settle cs (λ a. by_id a 0) 3 step good_step
      (λ a g d m. omega (arith, step_live a d (capped.sound d m))) (λ a g d m. g.small d (capped.sound d m)) [] start

  -- ## At the end
  -- no cap rises any more
  still : (d : Del) → LiveCovered (world S) d → new (cap_t S) d ≤ by_id (cap_t S) 0 d
  still d v = omega (arith, step_live (cap_t S) d v, ended.rest d (capped.complete d v))

  pub caps : Caps (world S) (cap-of S)
  unfolding cap-of cap_of
  caps = least_prefix_caps (cap-of S)
      (record {
        rest = cap_plain (cap_t S);
        above = λ d v l s. omega (arith, cap_covered (cap_t S) d v, still d v, capped_above d.power (byte d) l (avoiding_answer (cap-of S) d) s);
      })
      (λ κ p d v. omega (arith, cap_covered (cap_t S) d v, ended.is_good.below κ p d v))
      (decide_live_covered S one)
      (λ d v. (level_of (byte d), avoiding_answer (cap-of S) d))
    where
      byte : Del → ℕ
      byte d = issuer_in (ks S) (Lives S) (excluded S (ks S) (pos S) d) (cap-of S) d
