-- From places to bytes: the evaluation computes on places in tables, and its answers are those of the bytes that the places stand for
-- (`positive_bytes`, `node_bytes`, `caps_bytes`, `effective_bytes`, `conveyed_bytes`, `live_bytes`, `standing_bytes`). `Table` lists what
-- tables have to show for it.
-- Idea: a table matches its bytes with everything in scope; caps are pulled back along it.
use Prim.Native.Nat.{ℕ}
use mathlib.Core.Logic.Dec
use mathlib.Core.Logic.{inr, ◌↔◌}
use mathlib.Core.Option.{Option}
use mathlib.Core.Path.{◌≡◌, refl, sym, ◌∙◌, ap}
use native.Mathlib.Omega.{arith}
use Rattle.rules.specs.Rules.{Shape, Graph, LiveUncovered, Live, PreFixed, Caps, PositiveIs, EffectiveIs, ConveyedIs, Standing, StandingIs, Node}
use Rattle.rules.proofs.Derivations.Answers.{answer_carry}
use Rattle.rules.proofs.Evaluation.LiveSet.{live_held}
use Rattle.rules.proofs.Stores.Match.{Match, positive_same, positive_under, live_same, standing_same, live_covered_match, live_uncovered_match, avoiding_match, effective_same, conveys_same}

abbrev pub Every : {A : Type 0} → A → Type 0
Every a = Unit {0}

-- Where all that is held is matched, levels of the one give levels of the other: those of the counterpart, or the power where there is none.
module _ {W W' : Shape} {G : Graph W} {G' : Graph W'} {K : W.Key → W'.Key → Type 0} {D : W.Del → W'.Del → Type 0}
    (a : Match G G' K D Every Every) (b : Match G' G (λ x y. K y x) (λ d e. D e d) Every Every)
    (seek' : (e : W'.Del) → Dec ((d : W.Del) × D d e)) (κ : W.Del → ℕ) where
  record Pulled (e : W'.Del) : Type 0 where
    level : ℕ
    at : {d : W.Del} → D d e → κ d ≡ level
    rest : ((d : W.Del) → LiveUncovered G d → κ d ≡ W.power d) → LiveUncovered G' e → level ≡ W'.power e

  pulled : (e : W'.Del) → Pulled e
  pulled e = elim (seek' e) [
    | yes f ↦ record {
      level = κ f.0;
      at = λ s. ap κ (a.alone s f.1);
      rest = λ h u. h f.0 (live_uncovered_match b a f.1 u) ∙ a.power f.1;
    }
    | no n ↦ record { level = W'.power e; at = λ {d} s. absurd (n (d, s)); rest = λ h u. refl }
  ]

  pub pull : W'.Del → ℕ
  pull e = (pulled e).level

  pull_at : (d : W.Del) (e : W'.Del) → D d e → κ d ≡ pull e
  unfolding pull
  pull_at d e s = (pulled e).at s

  pull_rest : ((d : W.Del) → LiveUncovered G d → κ d ≡ W.power d) → (e : W'.Del) → LiveUncovered G' e → pull e ≡ W'.power e
  unfolding pull
  pull_rest h e = (pulled e).rest h

  pre_carry : PreFixed G κ → PreFixed G' pull
  pre_carry p = record {
    rest = pull_rest p.rest;
    above = λ e v l t.
        let f = b.find (live_held (inr v)) tt in let s = f.1 in
        let i = avoiding_match b a {κ = pull} {κ' = κ} (λ e d s h. omega (arith, pull_at d e s)) s l t in
        omega (arith, p.above f.0 (live_covered_match b a s v) _ i.holds, pull_at f.0 e s, a.power s);
  }

module _ {W W' : Shape} {G : Graph W} {G' : Graph W'} {K : W.Key → W'.Key → Type 0} {D : W.Del → W'.Del → Type 0}
    (a : Match G G' K D Every Every) (b : Match G' G (λ x y. K y x) (λ d e. D e d) Every Every)
    (seek : (d : W.Del) → Dec ((e : W'.Del) × D d e)) (seek' : (e : W'.Del) → Dec ((d : W.Del) × D d e)) where
  -- So caps of the one give caps of the other.
  caps_carry : {κ : W.Del → ℕ} → Caps G κ → Caps G' (pull a b seek' κ)
  caps_carry {κ} k = record {
    rest = pull_rest a b seek' κ k.rest;
    equation = λ e v.
        let f = b.find (live_held (inr v)) tt in let s = f.1 in
        let q = k.equation f.0 (live_covered_match b a s v) in
        record {
          level = q.level;
          greatest = answer_carry (avoiding_match a b (λ d e s h. omega (arith, at d e s)) s) (avoiding_match b a (λ e d s h. omega (arith, at d e s)) s)
              q.greatest;
          equation = cc (at f.0 e s, q.equation, a.power s);
        };
    least = λ κ' p e v.
        let f = b.find (live_held (inr v)) tt in let s = f.1 in
        omega (arith, k.least _ (pre_carry b a seek κ' p) f.0 (live_covered_match b a s v), at f.0 e s, pull_at b a seek κ' e f.0 s);
  }
    where
      at : (d : W.Del) (e : W'.Del) → D d e → κ d ≡ pull a b seek' κ e
      at = pull_at a b seek' κ

-- A table of keys and one of delegations. Place x: the place x is in use.
pub record Table {W W' : Shape} (G : Graph W) (G' : Graph W') (Place : W.Key → Type 0) (key : W.Key → W'.Key) (del : W.Del → W'.Del) : Type 0 where
  pub apart : {x y : W.Key} → Place x → Place y → key x ≡ key y → x ≡ y
  pub distinct : {d e : W.Del} → G.Held d → G.Held e → del d ≡ del e → d ≡ e
  pub issuer : {d : W.Del} → G.Held d → Place (W.issuer d) × (key (W.issuer d) ≡ W'.issuer (del d))
  pub audience : {d : W.Del} → G.Held d → Place (W.audience d) × (key (W.audience d) ≡ W'.audience (del d))
  pub subject : {d : W.Del} → G.Held d → Place (W.subject d) × (key (W.subject d) ≡ W'.subject (del d))
  pub power : {d : W.Del} → G.Held d → W.power d ≡ W'.power (del d)
  pub held : {d : W.Del} → G.Held d → G'.Held (del d)
  pub all : {e : W'.Del} → G'.Held e → (d : W.Del) × G.Held d × (del d ≡ e)
  pub revokes : {k : W.Key} {d : W.Del} → G.Held d → G.Revokes k d → Place k × G'.Revokes (key k) (del d)
  pub revoked : {k : W'.Key} {d : W.Del} → G.Held d → G'.Revokes k (del d) → (x : W.Key) × (Place x × (key x ≡ k)) × G.Revokes x d
  pub decide : (d : W.Del) → Dec (G.Held d)
  pub seek : (e : W'.Del) → Dec (G'.Held e)

module _ {W W' : Shape} {G : Graph W} {G' : Graph W'} {Place : W.Key → Type 0} {key : W.Key → W'.Key} {del : W.Del → W'.Del}
    (t : Table G G' Place key del) where
  abbrev pub At : W.Key → W'.Key → Type 0
  At x y = Place x × (key x ≡ y)

  abbrev pub DelAt : W.Del → W'.Del → Type 0
  DelAt d e = G.Held d × (del d ≡ e)

  pub into : Match G G' At DelAt Every Every
  into = record {
    one = λ p q. t.apart p.0 q.0 (cc (p.1, q.1));
    alone = λ p q. t.distinct p.0 q.0 (cc (p.1, q.1));
    scope = λ ρ k. tt;
    grow = λ ρ s. tt;
    inside = λ p. tt;
    find = λ {d} h ρ. (del d, (h, refl));
    held = λ p. rw p.1 at (t.held p.0);
    issuer = λ p. rw p.1 at (t.issuer p.0);
    audience = λ p. rw p.1 at (t.audience p.0);
    subject = λ p. rw p.1 at (t.subject p.0);
    power = λ p. rw p.1 at (t.power p.0);
    revokes = λ {k} p r. let q = t.revokes p.0 r in (key k, (q.0, refl), rw p.1 at q.1);
  }

  pub outof : Match G' G (λ x y. At y x) (λ d e. DelAt e d) Every Every
  outof = record {
    one = λ p q. cc (p.1, q.1);
    alone = λ p q. cc (p.1, q.1);
    scope = λ ρ k. tt;
    grow = λ ρ s. tt;
    inside = λ p. tt;
    find = λ h ρ. let q = t.all h in (q.0, (q.1, q.2));
    held = λ p. p.0;
    issuer = into.issuer;
    audience = into.audience;
    subject = into.subject;
    power = λ p. sym (into.power p);
    revokes = λ p r. t.revoked p.0 (rw (← p.1) at r);
  }

  seek_del : (d : W.Del) → Dec ((e : W'.Del) × DelAt d e)
  seek_del d = Dec.of_iff (λ h. (del d, (h, refl)), λ f. f.1.0) (t.decide d)

  pub seek_place : (e : W'.Del) → Dec ((d : W.Del) × DelAt d e)
  seek_place e = Dec.of_iff (λ h. outof.find h tt, λ f. into.held f.1) (t.seek e)

  pub caps_bytes : {κ : W.Del → ℕ} → Caps G κ → Caps G' (pull into outof seek_place κ)
  caps_bytes = caps_carry into outof seek_del seek_place

  -- Of two keys in use.
  pub positive_bytes : {r x : W.Key} {o : Option ℕ} → Place r → Place x → PositiveIs G r x o → PositiveIs G' (key r) (key x) o
  positive_bytes p q = positive_same into outof tt (p, refl) (q, refl)

  pub effective_bytes : {r x : W.Key} {o : Option ℕ} → Place r → Place x → EffectiveIs G r x o → EffectiveIs G' (key r) (key x) o
  effective_bytes p q a = let k = caps_bytes a.caps in
      record { κ = _; caps = k; answer = effective_same into outof seek_del seek_place a.caps k tt (p, refl) (q, refl) a.answer }

  pub node_bytes : {r x : W.Key} → Place r → Place x → Node G r x ↔ Node G' (key r) (key x)
  node_bytes {r} {x} p q = (
    (λ n. let i = positive_under into outof {r' = key r} {x' = key x} tt (p, refl) (q, refl) _ n.stands in record { level = i.level; stands = i.holds }),
    (λ n. let i = positive_under outof into {r' = r} {x' = x} tt (p, refl) (q, refl) _ n.stands in record { level = i.level; stands = i.holds }),
  )

  -- Of a held delegation.
  pub live_bytes : {d : W.Del} → G.Held d → Live G d ↔ Live G' (del d)
  live_bytes h = live_same into outof (h, refl)

  pub standing_bytes : {d : W.Del} {o : Standing} → G.Held d → StandingIs G d o → StandingIs G' (del d) o
  standing_bytes h = standing_same into outof (h, refl)

  pub conveyed_bytes : {d : W.Del} {o : Option ℕ} → G.Held d → ConveyedIs G d o → ConveyedIs G' (del d) o
  conveyed_bytes h a = let k = caps_bytes a.caps in
      record { κ = _; caps = k; conveys = conveys_same into outof seek_del seek_place a.caps k (h, refl) a.conveys }
