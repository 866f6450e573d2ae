-- From an answer at places to the statement over bytes, for every key and digest that can be asked about: held ones by the tables (Places),
-- and those that no table has by the rules' own answers.
use Prim.Native.Nat.{ℕ, ◌<◌}
use mathlib.Core.Path.{◌≡◌, refl, sym, ◌∙◌, subst}
use mathlib.Core.Bool.{Bool, true, false, cond}
use mathlib.Core.Logic.{◌⊎◌, inl, inr}
use mathlib.Core.List.Memᴰ
use mathlib.Core.List.{List, [], ◌∷◌, Memᴰ}
use mathlib.Core.Option.{Option, none, some}
use native.Mathlib.Omega.{arith}
use Rattle.rules.specs.Rules.{absent, Admin, PositiveIs, EffectiveIs, Caps}
use Rattle.rules.specs.Rows.{level_of}
use Rattle.rules.proofs.Derivations.Monotone.{reach}
use Rattle.rules.proofs.Derivations.Rows.{self_answer, no_subject, no_audience}
use Rattle.rules.proofs.Evaluation.LiveSet.{live_held}
use Rattle.rules.proofs.Stores.Places.{positive_bytes, effective_bytes, caps_bytes, pull, into, outof, seek_place}
use Rattle.runs.specs.Bytes.{Bytes, eq_bytes, run_at}
use Rattle.runs.specs.Members.{has}
use Rattle.runs.specs.Table.{runs}
use Rattle.runs.proofs.BoolLaws.{or, or_left, or_right}
use Rattle.runs.proofs.ByteLaws.{eq_refl}
use Rattle.runs.proofs.MemberLaws.{has-append}
use Rattle.tables.specs.Committed.{Delegation, Committed, delegation_keys, keys_of, keys_in}
use Rattle.store.specs.Store.{committed, GoodStore}
use Rattle.store.specs.declared.Store.{Store}
use Rattle.coverage.specs.Places.{places}
use Rattle.coverage.specs.declared.Facts.{Facts}
use Rattle.coverage.proofs.Laws.Seek.{answer_most}
use Rattle.answers.specs.Graph.{graph}
use Rattle.answers.specs.Facts.{FactsOf}
use Rattle.answers.proofs.Places.{table}

-- ## Keys of held delegations
key_in : (l : List Delegation) (d : Delegation) (k : Bytes) → Memᴰ d l → has (delegation_keys d) k ≡ true → has (keys_of delegation_keys l) k ≡ true
unfolding keys_of
key_in [] d k m h = absurd (Memᴰ.not-nil m)
key_in (e ∷ l) d k m h = rw has-append (go (Memᴰ.cases_cons m) (λ n. key_in l d k n h))
  where
    go : (d ≡ e) ⊎ Memᴰ d l → (Memᴰ d l → has (keys_of delegation_keys l) k ≡ true) → or (has (delegation_keys e) k) (has (keys_of delegation_keys l) k) ≡ true
    go (inl p) rest = or_left (has (delegation_keys e) k) (has (keys_of delegation_keys l) k) (subst (λ x. has (delegation_keys x) k ≡ true) p h)
    go (inr n) rest = or_right (has (delegation_keys e) k) (has (keys_of delegation_keys l) k) (rest n)

held_key : (c : Committed) (d : Delegation) (k : Bytes) → Memᴰ d c.delegations → has (delegation_keys d) k ≡ true → has (keys_in c) k ≡ true
unfolding keys_in
held_key c d k m h = rw has-append (or_left _ _ (key_in c.delegations d k m h))

subject_key : (d : Delegation) (k : Bytes) → d.subject ≡ k → has (delegation_keys d) k ≡ true
unfolding has
subject_key d k e = third (eq_bytes d.issuer k) (eq_bytes d.audience k) (rw (← e) (eq_refl d.subject))
  where
    third : (a b : Bool) → eq_bytes d.subject k ≡ true → cond a true (cond b true (cond (eq_bytes d.subject k) true false)) ≡ true
    third true b h = refl
    third false true h = refl
    third false false h = rw h

audience_key : (d : Delegation) (k : Bytes) → d.audience ≡ k → has (delegation_keys d) k ≡ true
unfolding has
audience_key d k e = second (eq_bytes d.issuer k) (rw (← e) (eq_refl d.audience))
  where
    second : (a : Bool) → eq_bytes d.audience k ≡ true → cond a true (cond (eq_bytes d.audience k) true (cond (eq_bytes d.subject k) true false)) ≡ true
    second true h = refl
    second false h = rw h

-- ## Powers
-- a key over itself
pub positive_self : (c : Committed) (k : Bytes) → PositiveIs (graph c) k k (some Admin)
positive_self c k = self_answer (λ z. z)

module _ (s : Store) (g : GoodStore s) where
  -- a key that is not held is no held delegation's
  pub not_subject : (k : Bytes) → has (runs s.keys.table s.keys.count) k ≡ false → (d : Delegation) → Memᴰ d (committed s).delegations → ¬ (d.subject ≡ k)
  not_subject k n d m e =
      let b : ◌≡◌ {A = Bool} false true = sym n ∙ (g.exact k ∙ held_key (committed s) d k m (subject_key d k e)) in let z : ◌≡◌ {A = ℕ} 0 1 = cc in omega arith

  not_audience : (k : Bytes) → has (runs s.keys.table s.keys.count) k ≡ false → (d : Delegation) → Memᴰ d (committed s).delegations → ¬ (d.audience ≡ k)
  not_audience k n d m e =
      let b : ◌≡◌ {A = Bool} false true = sym n ∙ (g.exact k ∙ held_key (committed s) d k m (audience_key d k e)) in let z : ◌≡◌ {A = ℕ} 0 1 = cc in omega arith

  -- a key that is a held delegation's audience is held
  pub audience_held : (k : Bytes) → (d : Delegation) × Memᴰ d (committed s).delegations × (d.audience ≡ k) → has (runs s.keys.table s.keys.count) k ≡ true
  audience_held k q = g.exact k ∙ held_key (committed s) q.0 k q.1 (audience_key q.0 k q.2)

  pub positive_no_subject : (k x : Bytes) → ¬ (x ≡ k) → has (runs s.keys.table s.keys.count) k ≡ false → PositiveIs (graph (committed s)) k x none
  positive_no_subject k x ne n = no_subject ne (not_subject k n)

  pub positive_no_audience : (k x : Bytes) → ¬ (x ≡ k) → has (runs s.keys.table s.keys.count) x ≡ false → PositiveIs (graph (committed s)) k x none
  positive_no_audience k x ne n = no_audience ne (not_audience x n)

  module _ (e : Facts) (f : FactsOf s e) where
    pub positive_held : {i j : ℕ} {o : Option ℕ} → i < s.keys.count → j < s.keys.count → PositiveIs (places e) i j o
        → PositiveIs (graph (committed s)) (run_at s.keys.table i) (run_at s.keys.table j) o
    positive_held p q = positive_bytes (table s g e f) p q

    pub effective_held : {i j : ℕ} {o : Option ℕ} → i < s.keys.count → j < s.keys.count → EffectiveIs (places e) i j o
        → EffectiveIs (graph (committed s)) (run_at s.keys.table i) (run_at s.keys.table j) o
    effective_held p q = effective_bytes (table s g e f) p q

    -- the caps at places give the caps over bytes, with which any key can be asked about
    module _ {κ : ℕ → ℕ} (caps : Caps (places e) κ) where
      abbrev pub bytes_caps : Delegation → ℕ
      bytes_caps = pull (into (table s g e f)) (outof (table s g e f)) (seek_place (table s g e f)) κ

      pub effective_self : (k : Bytes) → EffectiveIs (graph (committed s)) k k (some Admin)
      effective_self k = record { κ = bytes_caps; caps = caps_bytes (table s g e f) caps; answer = self_answer (λ z. z) }

      pub effective_no_subject : (k x : Bytes) → ¬ (x ≡ k) → has (runs s.keys.table s.keys.count) k ≡ false → EffectiveIs (graph (committed s)) k x none
      effective_no_subject k x ne n = record { κ = bytes_caps; caps = caps_bytes (table s g e f) caps; answer = no_subject ne (λ d v. not_subject k n d (live_held v)) }

      pub effective_no_audience : (k x : Bytes) → ¬ (x ≡ k) → has (runs s.keys.table s.keys.count) x ≡ false → EffectiveIs (graph (committed s)) k x none
      effective_no_audience k x ne n = record { κ = bytes_caps; caps = caps_bytes (table s g e f) caps; answer = no_audience ne (λ d v. not_audience x n d (live_held v)) }

      -- where nothing is held positively, nothing is held effectively
      pub effective_none : {k x : Bytes} → PositiveIs (graph (committed s)) k x none → EffectiveIs (graph (committed s)) k x none
      unfolding level_of
      effective_none p =
          record {
            κ = bytes_caps;
            caps = caps_bytes (table s g e f) caps;
            -- every live delegation is held, and whether a key stands at all does not depend on the caps
            answer = absent (λ l h. let a = reach (λ d v. live_held v) (λ n z. z) h in let m = answer_most 0 p a.level a.holds in omega arith);
          }
