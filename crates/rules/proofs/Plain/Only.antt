-- .. and no other: whatever satisfies the definitions is what the plain evaluator computes.
-- Each is the evaluator's answer being right (Answers), and two right answers being equal (Evaluation/Settled, Evaluation/Listing).
use Prim.Native.Nat.{ℕ}
use mathlib.Core.List.{List, Memᴰ}
use mathlib.Core.Option.{Option}
use mathlib.Core.Path.{◌≡◌}
use native.Mathlib.Omega.{arith}
use Rattle.rules.specs.Rules.{PositiveIs, EffectiveIs, ConveyedIs, MembersAre, StandingIs, Standing, Lists, LeastSet, Live, Caps, Excluded, IsSubject, Closure, ClosureRev, DelegationTo, RevocationOf}
use Rattle.rules.specs.Numbered.{Del, Rev, Holding, store, world, Lower, Less}
use Rattle.rules.proofs.Derivations.Answers.{answer_unique}
use Rattle.rules.proofs.Evaluation.Listing.{lists_same}
use Rattle.rules.proofs.Evaluation.LiveSet.{live_unique}
use Rattle.rules.proofs.Evaluation.Settled.{effective_settled, conveyed_settled, standing_settled, members_settled, caps_live}
use Rattle.rules.proofs.Plain.Evaluate.{evaluate, flagged, cap_in, naming, positive_of, effective_of, members_of, subjects_of, excluded_of, conveyed_of, standing_of, closure_of, closure_revs_of, delegations_to_of}
use Rattle.rules.proofs.Plain.Says.{Says, alike}
use Rattle.rules.proofs.Plain.Answers.{Sorted, positive_right, effective_right, live_covered_right, caps_right, conveyed_right, standing_right, members_right, excluded_right, subjects_right, closure_right, closure_revs_right, delegations_to_right, revocations_right}

less_once : (m n : ℕ) → Less m n → ¬ Less n m
less_once m n h k = omega arith

-- One list of the same things ascends by the same key.
pub list_equal : {A : Type 0} {P : A → Type 0} {k : A → ℕ} {xs ys : List A} → Lists (Lower k) P xs → Lists (Lower k) P ys → xs ≡ ys
list_equal {k = k} = lists_same (λ x y. less_once (k x) (k y)) (λ x p. p) (λ x p. p)

module _ (S : Holding) (o : Sorted S) where
  -- ## Levels
  pub positive_equal : {s x : ℕ} {p : Option ℕ} → PositiveIs (world S) s x p → p ≡ positive_of S (evaluate S) s x
  positive_equal {s} {x} a = answer_unique a (positive_right S o s x)

  pub caps_equal : {κ : Del → ℕ} {d : Del} → Caps (world S) κ → Live (world S) d
      → κ d ≡ cap_in S (evaluate S).keys (evaluate S).positive (evaluate S).caps d
  caps_equal k v = caps_live k (caps_right S o) v

  pub effective_equal : {s x : ℕ} {p : Option ℕ} → EffectiveIs (world S) s x p → p ≡ effective_of S (evaluate S) s x
  effective_equal {s} {x} a = effective_settled a (effective_right S o s x)

  pub conveyed_equal : {d : Del} {p : Option ℕ} → ConveyedIs (world S) d p → p ≡ conveyed_of S (evaluate S) d
  conveyed_equal {d} a = conveyed_settled a (conveyed_right S o d)

  -- ## The live set, and standing
  pub live_equal : {P : Del → Type 0} → LeastSet (world S) P → (d : Del) → Memᴰ d S.dels → Says (P d) (flagged (evaluate S).flags d)
  live_equal p d m = alike (live_unique p d).1 (live_unique p d).0 (live_covered_right S o d m)

  pub standing_equal : {d : Del} {t : Standing} → Memᴰ d S.dels → StandingIs (world S) d t → t ≡ standing_of S (evaluate S) d
  standing_equal {d} m a = standing_settled a (standing_right S o d m)

  -- ## Lists
  pub members_equal : {s : ℕ} {ms : List (ℕ × ℕ)} → MembersAre (world S) Less s ms → ms ≡ members_of S (evaluate S) s
  members_equal {s} a = members_settled less_once a (members_right S o s)

  pub excluded_equal : {d : Del} {ns : List ℕ} → Lists Less (Excluded (world S) d) ns → ns ≡ excluded_of S (evaluate S) d
  excluded_equal {d} a = list_equal {k = λ n. n} a (excluded_right S o d)

  pub subjects_equal : {ns : List ℕ} → Lists Less (IsSubject (world S)) ns → ns ≡ subjects_of S (evaluate S)
  subjects_equal a = list_equal {k = λ n. n} a (subjects_right S o)

  pub closure_equal : {s : ℕ} {ds : List Del} → Lists (Lower (λ d. d.digest)) (Closure (world S) s) ds → ds ≡ closure_of S (evaluate S) s
  closure_equal {s} a = list_equal {k = λ d. d.digest} a (closure_right S o s)

  pub closure_revs_equal : {s : ℕ} {vs : List Rev} → Lists (Lower (λ v. v.digest)) (ClosureRev (store S) s) vs → vs ≡ closure_revs_of S (evaluate S) s
  closure_revs_equal {s} a = list_equal {k = λ v. v.digest} a (closure_revs_right S o s)

  pub delegations_to_equal : {s x : ℕ} {ds : List Del} → Lists (Lower (λ d. d.digest)) (DelegationTo (world S) s x) ds
      → ds ≡ delegations_to_of S (evaluate S) s x
  delegations_to_equal {s} {x} a = list_equal {k = λ d. d.digest} a (delegations_to_right S o s x)

  pub revocations_equal : {d : Del} {vs : List Rev} → Lists (Lower (λ v. v.digest)) (RevocationOf (store S) d) vs → vs ≡ naming S d
  revocations_equal {d} a = list_equal {k = λ v. v.digest} a (revocations_right S o d)
