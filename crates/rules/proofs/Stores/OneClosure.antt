-- Demand 3 on the definitions (`demand_3`): where the closures of s in two finite stores list the same certificates, every answer that
-- specs/OneClosure names coincides. And a store that holds just the closure of s has that closure (`closure_closed`).
-- Idea: D3 lets nodes reach nodes only (`node_grow`). So the two graphs match (Stores/Match) on the closure, with the nodes of s as scope.
use Prim.Native.Nat.{ℕ, min}
use mathlib.Core.HLevel.{×_discrete}
use mathlib.Core.List.{List-discrete}
use mathlib.Core.Logic.Dec
use mathlib.Core.Logic.Iff
use mathlib.Core.Logic.{◌↔◌, eq_comm}
use mathlib.Core.Option.{Option, discrete}
use mathlib.Core.Path.{◌≡◌, refl, sym, ◌∙◌, ap}
use native.Mathlib.Decide.{ℕ_discrete}
use native.Mathlib.Omega.{arith}
use Rattle.rules.specs.Rules.{Finite, Admin, Shape, Graph, d1, d3, Nobody, Positive, Answer, Caps, Effective, Member, level, DelegationTo, Node, Closure, Revocations, Store, graph, RevocationOf, RevokedBy}
use Rattle.rules.specs.OneClosure.{ListedIn, RestsOnClosure, JustClosure}
use Rattle.rules.proofs.Derivations.Answers.{answer_unique, greatest_of}
use Rattle.rules.proofs.Derivations.Simulate.{Sim, simulate_at}
use Rattle.rules.proofs.Evaluation.Listing.{lists_same}
use Rattle.rules.proofs.Evaluation.Settled.{conveyed_settled, standing_settled}
use Rattle.rules.proofs.Stores.Finite.{as_if_decided}
use Rattle.rules.proofs.Stores.Match.{Match, positive_same, live_same, standing_same, effective_same, conveys_same}

-- Nodes: s is one, and nodes reach nodes only.
module _ {W : Shape} {G : Graph W} {s : W.Key} where
  node_self : Node G s s
  node_self = record { level = Admin; stands = d1 (λ z. z) }

  node_grow : {r u : W.Key} {l : ℕ} → ((x y : W.Key) → Dec (x ≡ y)) → Node G s r → Positive G r u l → Node G s u
  node_grow {r} {l = l} same n p = elim (same r s) [
    | yes e ↦ record { level = l; stands = rw e at p }
    | no ne ↦ record { level = min n.level l; stands = d3 ne n.stands p }
  ]

-- So where H holds what is in G's closure of s, G's nodes of s are H's.
node_kept : {W : Shape} {G H : Graph W} {s n : W.Key} → ((x y : W.Key) → Dec (x ≡ y)) → ((d : W.Del) → Closure G s d → H.Held d)
    → Node G s n → Node H s n
node_kept {W} {G} {H} {s} same kept n = let i = simulate_at W W ◌≡◌ sim (λ y z p q. sym p ∙ q) node_self refl refl _ n.stands in record { level = i.level; stands = i.holds }
  where
    sim : Sim W W ◌≡◌ G.Held Nobody W.power H.Held Nobody W.power (Node G s)
    sim = record {
      one = λ p q. p ∙ sym q;
      grow = node_grow same;
      out = λ ρ k n z. z;
      edge = λ {d} h ρ α p q n. record { del = d; usable = kept d (record { held = h; node = ρ }); subject = p; issuer = q; audience = refl; level = omega arith };
    }

pub closure_closed : {W : Shape} {F : Revocations W} {A B : Store W F} {s : W.Key} → ((x y : W.Key) → Dec (x ≡ y)) → JustClosure A B s
    → ListedIn A B s × ListedIn B A s
closure_closed {W} {A = A} {B} {s} same j = (
  record {
    dels = stays;
    revs = λ c. record { del = c.del; closure = stays c.closure; of = record { held = j.revs.0 c; names = c.of.names } };
  },
  record { dels = λ c. j.dels.1 c.held; revs = λ c. j.revs.1 c.of.held },
)
  where
    stays : {d : W.Del} → Closure (graph A) s d → Closure (graph B) s d
    stays c = record { held = j.dels.0 c; node = node_kept same (λ d. j.dels.0) c.node }

-- What A lists, B lists: one way.
module _ {W : Shape} {F : Revocations W} {A B : Store W F} {s : W.Key} (h : ListedIn A B s) where
  revocation_there_lem : {d : W.Del} {v : F.Rev} → Closure (graph A) s d → RevocationOf A d v → RevocationOf B d v
  revocation_there_lem {d} c r = record { held = (h.revs (record { del = d; closure = c; of = r })).of.held; names = r.names }

  revokes_there : {d : W.Del} {k : W.Key} → Closure (graph A) s d → RevokedBy A k d → RevokedBy B k d
  revokes_there c r = record { revocation = r.revocation; of = revocation_there_lem c r.of; issuer = r.issuer }

  -- What was delegated to x over s is in the closure of s.
  delegation_there_lem : {x : W.Key} {d : W.Del} → DelegationTo (graph A) s x d → DelegationTo (graph B) s x d
  delegation_there_lem t = record {
    held = (h.dels (record { held = t.held; node = rw t.subject node_self })).held;
    subject = t.subject;
    audience = t.audience;
  }

  -- K is equality and D equality in the closure, in whichever order they are written.
  match : {K : W.Key → W.Key → Type 0} {D : W.Del → W.Del → Type 0} → ((x y : W.Key) → Dec (x ≡ y))
      → ((x y : W.Key) → K x y ↔ (x ≡ y)) → ((d e : W.Del) → D d e ↔ ((d ≡ e) × Closure (graph A) s d))
      → Match (graph A) (graph B) K D (Node (graph A) s) (Node (graph B) s)
  match same key del = record {
    one = λ p q. (key _ _).0 p ∙ sym ((key _ _).0 q);
    alone = λ p q. ((del _ _).0 p).0 ∙ sym ((del _ _).0 q).0;
    scope = λ ρ k. rw ((key _ _).0 k) at (node_kept {H = graph B} same (λ d c. (h.dels c).held) ρ);
    grow = node_grow same;
    find = λ {d} g ρ. (d, (del d d).1 (refl, record { held = g; node = ρ }));
    inside = λ p. ((del _ _).0 p).1.node;
    held = λ p. let q = (del _ _).0 p in rw q.0 at (h.dels q.1).held;
    issuer = λ p. (key _ _).1 (ap W.issuer ((del _ _).0 p).0);
    audience = λ p. (key _ _).1 (ap W.audience ((del _ _).0 p).0);
    subject = λ p. (key _ _).1 (ap W.subject ((del _ _).0 p).0);
    power = λ p. ap W.power ((del _ _).0 p).0;
    revokes = λ {k} p r. let q = (del _ _).0 p in (k, (key k k).1 refl, rw q.0 at (revokes_there q.1 r));
  }

-- Both ways.
module _ {W : Shape} {F : Revocations W} {A B : Store W F} {s : W.Key} (fin : Finite (graph A)) (h : ListedIn A B s) (g : ListedIn B A s) where
  abbrev In : W.Del → W.Del → Type 0
  In d e = (d ≡ e) × Closure (graph A) s d

  to : Match (graph A) (graph B) (λ x y. x ≡ y) In (Node (graph A) s) (Node (graph B) s)
  to = match h fin.keys (λ x y. Iff.rfl) (λ d e. Iff.rfl)

  from : Match (graph B) (graph A) (λ x y. y ≡ x) (λ d e. In e d) (Node (graph B) s) (Node (graph A) s)
  from = match g fin.keys (λ x y. eq_comm)
      (λ d e. (λ p. (sym p.0, rw p.0 at (h.dels p.1)), λ p. (sym p.0, rw p.0 at (g.dels p.1))))

  -- Caps are functions, and these want the closure decided; in a finite store what is decided may be proved as if it were.
  as_decided : {X : Type 0} → Dec X → (((d : W.Del) → Dec (Closure (graph A) s d)) → X) → X
  as_decided = as_if_decided fin (Closure (graph A) s) (λ d c. c.held)

  module _ (decide : (d : W.Del) → Dec (Closure (graph A) s d)) where
    seek : (d : W.Del) → Dec ((e : W.Del) × In d e)
    seek d = Dec.of_iff (λ c. (d, (refl, c)), λ f. f.1.1) (decide d)

    seek' : (e : W.Del) → Dec ((d : W.Del) × In d e)
    seek' e = Dec.of_iff (λ c. (e, (refl, c)), λ f. rw f.1.0 at f.1.1) (decide e)

    module _ {κ κ' : W.Del → ℕ} (k : Caps (graph A) κ) (k' : Caps (graph B) κ') where
      effective_both : {x : W.Key} {o : Option ℕ} → Answer (Effective (graph A) κ s x) o ↔ Answer (Effective (graph B) κ' s x) o
      effective_both = (effective_same to from seek seek' k k' node_self refl refl, effective_same from to seek' seek k' k node_self refl refl)

      member_both : (m : W.Key × ℕ) → Member (graph A) κ s m ↔ Member (graph B) κ' s m
      member_both m = (
        (λ h. record { other = h.other; effective = greatest_of (effective_both.0 (level h.effective)) }),
        (λ h. record { other = h.other; effective = greatest_of (effective_both.1 (level h.effective)) }),
      )

  rests : RestsOnClosure A B s
  rests = record {
    positive = λ a. answer_unique (positive_same to from node_self refl refl a);
    effective = λ {o = o} {p} a b. as_decided (discrete ℕ_discrete o p) (λ t. answer_unique ((effective_both t a.caps b.caps).0 a.answer) b.answer);
    members = λ {ms = ms} {ns} o a b. as_decided (List-discrete (×_discrete fin.keys ℕ_discrete) ms ns) (λ t.
        let e = member_both t a.caps b.caps in lists_same (λ m n. o m.0 n.0) (λ m. (e m).0) (λ m. (e m).1) a.lists b.lists);
    live = λ c. live_same to from (refl, c);
    conveyed = λ {o = o} {p} c a b. as_decided (discrete ℕ_discrete o p) (λ t.
        let q = conveys_same to from (seek t) (seek' t) a.caps b.caps (refl, c) a.conveys in
        conveyed_settled (record { κ = b.κ; caps = b.caps; conveys = q }) b);
    standing = λ c a. standing_settled (standing_same to from (refl, c) a);
    delegations = (delegation_there_lem h, delegation_there_lem g);
    revocations = λ c. (revocation_there_lem h c, revocation_there_lem g (h.dels c));
  }

pub demand_3 : {W : Shape} {F : Revocations W} {A B : Store W F} {s : W.Key} → Finite (graph A) → ListedIn A B s → ListedIn B A s → RestsOnClosure A B s
demand_3 = rests
