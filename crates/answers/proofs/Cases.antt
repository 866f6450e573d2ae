-- From what was sought and what the evaluation said of it to the statement of a call, case by case.
use Prim.Native.Nat.{ℕ, zero, suc, min, ◌≤◌, ◌<◌}
use mathlib.Core.Path.{◌≡◌, refl, sym, ◌∙◌, ap, subst}
use mathlib.Core.Bool.{false}
use mathlib.Core.Option.{Option, none, some}
use native.Mathlib.Omega.{arith}
use lib.ListN.{length, get_or}
use Rattle.rules.specs.Rules as rules
use Rattle.rules.specs.Rules.{Shape, Graph, Stands, Answer, absent, level, Admin, ConveyedIs, Conveys, cap, plain, nothing, StandingIs, is_live, is_revoked, is_unsupported, Avoiding}
use Rattle.rules.specs.Rows.{level_of}
use Rattle.rules.proofs.Derivations.Monotone.{stands_top}
use Rattle.rules.proofs.Evaluation.Caps.{capped_below}
use Rattle.keyline.specs.Limits.{delegation_limit, key_length, digest_length}
use Rattle.power_levels.specs.Power.{level_count}
use Rattle.power_levels.specs.declared.power.Power.TheVariants as power
use Rattle.keyline.specs.declared.refusal.Refusal.{Refusal}
use Rattle.keyline.specs.declared.refusal.Refusal.TheVariants.{BadLength}
use Rattle.places.specs.declared.KeyPlace.{KeyPlace}
use Rattle.places.specs.declared.DelegationPlace.{DelegationPlace}
use Rattle.runs.specs.Bytes.{Bytes, run_at}
use Rattle.runs.specs.Members.{has, place}
use Rattle.runs.specs.Table.{runs}
use Rattle.runs.proofs.TableLaws.{found_at, runs_long}
use Rattle.runs.proofs.MemberLaws.{within_has}
use Rattle.tables.specs.Committed.{no_delegation, delegation_with}
use Rattle.tables.specs.Columns.{delegation_at}
use Rattle.store.specs.Store.{committed, GoodStore}
use Rattle.store.specs.declared.Store.{Store}
use Rattle.store.proofs.ViewLaws.{delegation_digests_lem, delegation_at_lem}
use Rattle.answers.specs.Answers as says
use Rattle.answers.specs.Answers.{LevelIs, PowerAnswer, Held, Absent}
use Rattle.answers.specs.Sought as found
use Rattle.answers.specs.Sought.{PairOf, DelegationOf}
use Rattle.power_levels.specs.declared.power.Power.{Power}
use Rattle.answers.specs.declared.sought.Pair.{Pair}
use Rattle.answers.specs.declared.sought.Pair.TheVariants as pair
use Rattle.std.specs.Prelude.{Result, Ok, Err, Some, None, Option as Maybe}

-- ## Bytes that say a level are at most 4
level_small : (b : ℕ) {l : ℕ} → level_of b ≡ some l → l ≤ Admin → b ≤ level_count
unfolding level_of
level_small zero e h = omega arith
level_small (suc m) {l} e h = let q : m ≡ l = cc in omega arith

none_small : (b : ℕ) → level_of b ≡ none → b ≤ level_count
unfolding level_of
none_small zero e = omega arith
none_small (suc m) e = let z : ◌≡◌ {A = ℕ} 0 1 = cc in absurd (omega arith)

module _ {W : Shape} {E : W.Del → Type 0} {N : W.Key → Type 0} {c : W.Del → ℕ} {r x : W.Key} (b : ℕ) where
  small : {o : Option ℕ} → level_of b ≡ o → Answer (Stands W E N c r x) o → b ≤ level_count
  small e (absent f) = none_small b e
  small e (level g) = level_small b e (stands_top g.holds)

  pub answer_small : Answer (Stands W E N c r x) (level_of b) → b ≤ level_count
  answer_small a = small refl a

pub conveyed_small : {W : Shape} (G : Graph W) {d : W.Del} (b : ℕ) → ConveyedIs G d (level_of b) → b ≤ level_count
conveyed_small {W} G {d} b a = go refl a.conveys
  where
    go : {o : Option ℕ} → level_of b ≡ o → Conveys G a.κ d o → b ≤ level_count
    go e (cap v) =
        let q = a.caps.equation d v in
        level_small b e (rw q.equation (capped_below {P = Avoiding G a.κ d} (W.power d) (λ l s. let t = stands_top s in omega arith) q.greatest))
    go e (plain l u g) = let t = stands_top g.holds in level_small b {l = min (W.power d) l} e (omega arith)
    go e (nothing n) = none_small b e

-- a refusal is one for one reason
pub same_why : {A : Type 0} {v w : Refusal} → ◌≡◌ {A = Result A Refusal} (Err v) (Err w) → v ≡ w
same_why e = cc

-- ## A pair of keys
module _ {t : Bytes} {n : ℕ} {s x : Bytes} (P : Option ℕ → Type 0) where
  pub pair_refused : {r : Result Pair Refusal} {why : Refusal} → PairOf t n s x r → r ≡ Err why → PowerAnswer P s x (Err why)
  pair_refused (found.subject-length h) e = subst (λ w. PowerAnswer P s x (Err w)) (same_why e) (says.subject-length h)
  pair_refused (found.audience-length h k) e = subst (λ w. PowerAnswer P s x (Err w)) (same_why e) (says.audience-length h k)
  pair_refused (found.same h k q) e = let z : ◌≡◌ {A = ℕ} 0 1 = cc in absurd (omega arith)
  pair_refused (found.no_subject h k m q) e = let z : ◌≡◌ {A = ℕ} 0 1 = cc in absurd (omega arith)
  pair_refused (found.no_audience h k m q) e = let z : ◌≡◌ {A = ℕ} 0 1 = cc in absurd (omega arith)
  pair_refused (found.held h k a b c d) e = let z : ◌≡◌ {A = ℕ} 0 1 = cc in absurd (omega arith)

  pub pair_same : {r : Result Pair Refusal} → (s ≡ x → P (some Admin)) → PairOf t n s x r → r ≡ (Ok pair.Same) → PowerAnswer P s x (Ok (Some power.Admin))
  pair_same f (found.subject-length h) e = let z : ◌≡◌ {A = ℕ} 0 1 = cc in absurd (omega arith)
  pair_same f (found.audience-length h k) e = let z : ◌≡◌ {A = ℕ} 0 1 = cc in absurd (omega arith)
  pair_same f (found.same h k q) e = says.answered h k (f q) (says.level power.Admin)
  pair_same f (found.no_subject h k m q) e = let z : ◌≡◌ {A = ℕ} 0 1 = cc in absurd (omega arith)
  pair_same f (found.no_audience h k m q) e = let z : ◌≡◌ {A = ℕ} 0 1 = cc in absurd (omega arith)
  pair_same f (found.held h k a b c d) e = let z : ◌≡◌ {A = ℕ} 0 1 = cc in absurd (omega arith)

  pub pair_unheld : {r : Result Pair Refusal} → (¬ (x ≡ s) → has (runs t n) s ≡ false → P none) → (¬ (x ≡ s) → has (runs t n) x ≡ false → P none)
      → PairOf t n s x r → r ≡ (Ok pair.Unheld) → PowerAnswer P s x (Ok None)
  pair_unheld f g (found.subject-length h) e = let z : ◌≡◌ {A = ℕ} 0 1 = cc in absurd (omega arith)
  pair_unheld f g (found.audience-length h k) e = let z : ◌≡◌ {A = ℕ} 0 1 = cc in absurd (omega arith)
  pair_unheld f g (found.same h k q) e = let z : ◌≡◌ {A = ℕ} 0 1 = cc in absurd (omega arith)
  pair_unheld f g (found.no_subject h k m q) e = says.answered h k (f m q) says.no_level
  pair_unheld f g (found.no_audience h k m q) e = says.answered h k (g m q) says.no_level
  pair_unheld f g (found.held h k a b c d) e = let z : ◌≡◌ {A = ℕ} 0 1 = cc in absurd (omega arith)

pub record AtPair (t : Bytes) (n : ℕ) (s x : Bytes) (i j : KeyPlace) : Type 0 where
  pub subject_long : length s ≡ key_length
  pub audience_long : length x ≡ key_length
  pub subject_in : i.0 < n
  pub subject_is : run_at t i.0 ≡ s
  pub audience_in : j.0 < n
  pub audience_is : run_at t j.0 ≡ x

pub pair_at_lem : {t : Bytes} {n : ℕ} {s x : Bytes} {r : Result Pair Refusal} {i j : KeyPlace} → PairOf t n s x r → r ≡ Ok (pair.At i j) → AtPair t n s x i j
pair_at_lem (found.subject-length h) e = let z : ◌≡◌ {A = ℕ} 0 1 = cc in absurd (omega arith)
pair_at_lem (found.audience-length h k) e = let z : ◌≡◌ {A = ℕ} 0 1 = cc in absurd (omega arith)
pair_at_lem (found.same h k q) e = let z : ◌≡◌ {A = ℕ} 0 1 = cc in absurd (omega arith)
pair_at_lem (found.no_subject h k m q) e = let z : ◌≡◌ {A = ℕ} 0 1 = cc in absurd (omega arith)
pair_at_lem (found.no_audience h k m q) e = let z : ◌≡◌ {A = ℕ} 0 1 = cc in absurd (omega arith)
pair_at_lem {t} {n} {s} {x} {i = i} {j} (found.held {i = a} {j = b} h k p q u v) e =
    let f : a ≡ i = cc in
    let g : b ≡ j = cc in
    record {
      subject_long = h;
      audience_long = k;
      subject_in = rw f at p;
      subject_is = rw f at q;
      audience_in = rw g at u;
      audience_is = rw g at v;
    }

module _ {t : Bytes} {n : ℕ} {s x : Bytes} {i j : KeyPlace} (P : Bytes → Bytes → Option ℕ → Type 0) where
  pub at_pair : {o : Option ℕ} {r : Maybe Power} → AtPair t n s x i j → P (run_at t i.0) (run_at t j.0) o → LevelIs o r → PowerAnswer (P s x) s x (Ok r)
  at_pair {o} a p l =
      let q : P s (run_at t j.0) o = subst (λ y. P y (run_at t j.0) o) a.subject_is p in
      says.answered a.subject_long a.audience_long (subst (λ y. P s y o) a.audience_is q) l

-- ## From one question about two keys to another: an answer that holds of both
module _ {P Q : Option ℕ → Type 0} {s x : Bytes} where
  -- a refusal is about lengths alone
  pub refused_too : {r : Result (Maybe Power) Refusal} {why : Refusal} → PowerAnswer P s x r → r ≡ Err why → PowerAnswer Q s x (Err why)
  refused_too (says.subject-length h) e = subst (λ w. PowerAnswer Q s x (Err w)) (same_why e) (says.subject-length h)
  refused_too (says.audience-length h k) e = subst (λ w. PowerAnswer Q s x (Err w)) (same_why e) (says.audience-length h k)
  refused_too (says.answered h k p (says.level l)) e = let z : ◌≡◌ {A = ℕ} 0 1 = cc in absurd (omega arith)
  refused_too (says.answered h k p says.no_level) e = let z : ◌≡◌ {A = ℕ} 0 1 = cc in absurd (omega arith)

  pub nothing_too : {r : Result (Maybe Power) Refusal} → (P none → Q none) → PowerAnswer P s x r → r ≡ (Ok None) → PowerAnswer Q s x (Ok None)
  nothing_too f (says.subject-length h) e = let z : ◌≡◌ {A = ℕ} 0 1 = cc in absurd (omega arith)
  nothing_too f (says.audience-length h k) e = let z : ◌≡◌ {A = ℕ} 0 1 = cc in absurd (omega arith)
  nothing_too f (says.answered h k p (says.level l)) e = let z : ◌≡◌ {A = ℕ} 0 1 = cc in absurd (omega arith)
  nothing_too f (says.answered h k p says.no_level) e = says.answered h k (f p) says.no_level

-- ## A delegation
pub record AtDelegation (t : Bytes) (n : ℕ) (x : Bytes) (d : DelegationPlace) : Type 0 where
  pub long : length x ≡ digest_length
  pub within : d.0 < n
  pub is : run_at t d.0 ≡ x

pub delegation_at_place : {t : Bytes} {n : ℕ} {x : Bytes} {r : Result (Maybe DelegationPlace) Refusal} {d : DelegationPlace} → DelegationOf t n x r → r ≡ Ok (Some d) → AtDelegation t n x d
delegation_at_place (found.wrong_length h) e = let z : ◌≡◌ {A = ℕ} 0 1 = cc in absurd (omega arith)
delegation_at_place (found.unheld h q) e = let z : ◌≡◌ {A = ℕ} 0 1 = cc in absurd (omega arith)
delegation_at_place {d = d} (found.held {d = c} h p q) e = let f : c ≡ d = cc in record { long = h; within = rw f at p; is = rw f at q }

pub record NotThere (t : Bytes) (n : ℕ) (x : Bytes) : Type 0 where
  pub long : length x ≡ digest_length
  pub absent : has (runs t n) x ≡ false

pub delegation_unheld : {t : Bytes} {n : ℕ} {x : Bytes} {r : Result (Maybe DelegationPlace) Refusal} → DelegationOf t n x r → r ≡ (Ok None) → NotThere t n x
delegation_unheld (found.wrong_length h) e = let z : ◌≡◌ {A = ℕ} 0 1 = cc in absurd (omega arith)
delegation_unheld (found.unheld h q) e = record { long = h; absent = q }
delegation_unheld (found.held h p q) e = let z : ◌≡◌ {A = ℕ} 0 1 = cc in absurd (omega arith)

-- a wrong length, in any statement that begins with it
pub delegation_refused : {t : Bytes} {n : ℕ} {x : Bytes} {r : Result (Maybe DelegationPlace) Refusal} {why : Refusal} (S : Refusal → Type 0) → (¬ (length x ≡ digest_length) → S (BadLength (length x)))
    → DelegationOf t n x r → r ≡ Err why → S why
delegation_refused S f (found.wrong_length h) e = subst S (same_why e) (f h)
delegation_refused S f (found.unheld h q) e = let z : ◌≡◌ {A = ℕ} 0 1 = cc in absurd (omega arith)
delegation_refused S f (found.held h p q) e = let z : ◌≡◌ {A = ℕ} 0 1 = cc in absurd (omega arith)

module _ (s : Store) (g : GoodStore s) (x : Bytes) where
  pub not_held : NotThere s.delegations.digests s.delegations.count x → Absent (committed s) x
  not_held n = rw (delegation_digests_lem s) n.absent

  module _ (d : DelegationPlace) (a : AtDelegation s.delegations.digests s.delegations.count x d) where
    place_is : d.0 ≡ place (runs s.delegations.digests s.delegations.count) x
    place_is = found_at delegation_limit s.delegations.digests s.delegations.count g.delegations.digests x d.0 a.within a.is

    pub is_held : Held (committed s) x
    is_held =
        let l = runs_long delegation_limit s.delegations.digests s.delegations.count g.delegations.digests in
        let h = a.within in
        rw (delegation_digests_lem s) (within_has (runs s.delegations.digests s.delegations.count) x (omega (arith, place_is)))

    -- the held one with that digest is the one at the place
    pub with_is : delegation_with (committed s) x ≡ delegation_at s.keys.table s.delegations d.0
    with_is = ap (λ l. get_or (committed s).delegations (place l x) no_delegation) (delegation_digests_lem s)
        ∙ (ap (λ i. get_or (committed s).delegations i no_delegation) (sym place_is) ∙ delegation_at_lem s d.0 a.within)

-- ## Standing and life
pub lives : {W : Shape} {G : Graph W} {d : W.Del} → StandingIs G d rules.live → rules.Live G d
lives (is_live v) = v

pub dies_revoked : {W : Shape} {G : Graph W} {d : W.Del} → StandingIs G d rules.revoked → ¬ rules.Live G d
dies_revoked (is_revoked k h n r) = n

pub dies_unsupported : {W : Shape} {G : Graph W} {d : W.Del} → StandingIs G d rules.unsupported → ¬ rules.Live G d
dies_unsupported (is_unsupported h n r) = n
