-- Document 01, "Derivation rules" and "Queries", as definitions. READ THIS FILE FIRST: everything that is proved of the kernel's
-- answers speaks of what is defined here, in the order of document 01 and with its words beside each definition.
-- Nothing is proved in this file. It rests on nothing but numbers, lists and Option (`none`, `some l`).
--
-- How to read it. `A → B` is "if A, then B", and "for every A, a B"; `¬ A` is "not A"; `A ⊎ B` is "A or B"; `(d : W.Del) → ..` is
-- "for every delegation d". A `data` lists the ways in which something can come to hold, and it holds in no other way; a `record`
-- lists what all has to hold. `W.issuer d` is the issuer of d. Braces hold what a reader can work out.
use Rattle.std.specs.Prelude.{ℕ, min, max, ◌≤◌, ◌≡◌, ◌⊎◌}
use Rattle.std.proofs.Math.Option.{Option, none, some}
use mathlib.Core.List.{List, [], ◌∷◌, Memᴰ}

-- ## Levels
-- "Relay rank 0, Read 1, Edit 2, Admin 3. Order is by rank, never by byte." A level is its rank.
abbrev pub Relay : ℕ
Relay = 0

abbrev pub Read : ℕ
Read = 1

abbrev pub Edit : ℕ
Edit = 2

abbrev pub Admin : ℕ
Admin = 3

-- ## What the rules speak of
-- Keys, delegations, and what a delegation says. They are left open here: the kernel's contracts take keys and digests as bytes,
-- its evaluation takes places in tables, and `Places` of proofs/Stores carries what holds of the one to the other.
pub record Shape : Type 1 where
  pub Key : Type 0
  pub Del : Type 0
  pub issuer : Del → Key
  pub audience : Del → Key
  pub subject : Del → Key
  pub power : Del → ℕ

-- What a store holds. `Revokes k d`: a held revocation whose issuer is k names d, be d held or not.
pub record Graph (W : Shape) : Type 1 where
  pub Held : W.Del → Type 0
  pub Revokes : W.Key → W.Del → Type 0

-- ## D1 to D3
-- "Given usable delegations E, excluded keys N and a level c(d) for each d in E".
-- `Stands W E N c r x l` is "x stands over r at l". It is a finite derivation; no search is run.
pub data Stands (W : Shape) (E : W.Del → Type 0) (N : W.Key → Type 0) (c : W.Del → ℕ) : W.Key → W.Key → ℕ → Type 0 where
  -- "D1. If r is not in N, r stands over r at Admin."
  d1 : {r : W.Key} → ¬ N r → Stands W E N c r r Admin
  -- "D2. If u stands over r at l, and d in E has subject r, issuer u and an audience a not in N, then a stands over r at min(l, c(d))."
  d2 : {r : W.Key} {l : ℕ} (d : W.Del) → E d → W.subject d ≡ r → ¬ N (W.audience d)
      → Stands W E N c r (W.issuer d) l → Stands W E N c r (W.audience d) (min l (c d))
  -- "D3. If u differs from r, u stands over r at l and x stands over u at m, then x stands over r at min(l, m)."
  d3 : {r u x : W.Key} {l m : ℕ} → ¬ (u ≡ r) → Stands W E N c r u l → Stands W E N c u x m → Stands W E N c r x (min l m)

-- "A key's level over r is the greatest derived; if none is, it has none."
pub record Greatest (P : ℕ → Type 0) (l : ℕ) : Type 0 where
  pub holds : P l
  pub most : (m : ℕ) → P m → m ≤ l

pub data Answer (P : ℕ → Type 0) : Option ℕ → Type 0 where
  absent : ((l : ℕ) → ¬ P l) → Answer P none
  level : {l : ℕ} → Greatest P l → Answer P (some l)

-- "nothing excluded", "N empty"
abbrev pub Nobody : {A : Type 0} → A → Type 0
Nobody a = ⊥

-- max(Relay, min(power, level)), and Relay where there is no level
unfoldable pub Capped : ℕ → Option ℕ → ℕ
Capped p none = Relay
Capped p (some l) = max Relay (min p l)

-- "for a held delegation, Live, Revoked or Unsupported"
pub data Standing : Type 0 where
  live revoked unsupported : Standing

-- ## Evaluation of what a store G holds
module _ {W : Shape} (G : Graph W) where
  -- "Positive: E all held, N empty, c the stated power."
  abbrev pub Positive : W.Key → W.Key → ℕ → Type 0
  Positive = Stands W G.Held Nobody W.power

  -- ### Coverage
  -- `Excluded d n`: n is in N(d). "N(d) is the revocations' issuers together with every subject n of some held delegation
  -- over which one of those issuers stands positively at exactly Admin."
  pub data Excluded (d : W.Del) (n : W.Key) : Type 0 where
    revoker : G.Revokes n d → Excluded d n
    administered : (e : W.Del) (k : W.Key) → G.Held e → W.subject e ≡ n → G.Revokes k d → Positive n k Admin → Excluded d n

  -- "d is covered when some key of N(d) stands positively over d's subject." A revocation whose target is not held covers nothing yet.
  pub record Covered (d : W.Del) : Type 0 where
    pub held : G.Held d
    pub key : W.Key
    pub excluded : Excluded d key
    pub level : ℕ
    pub stands : Positive (W.subject d) key level

  pub record Uncovered (d : W.Del) : Type 0 where
    pub held : G.Held d
    pub not : ¬ Covered d

  -- ### Live
  -- "neither issuer nor subject is in N(d), its audience has not revoked it"
  pub record Eligible (d : W.Del) : Type 0 where
    pub covered : Covered d
    pub issuer : ¬ Excluded d (W.issuer d)
    pub subject : ¬ Excluded d (W.subject d)
    pub audience : ¬ G.Revokes (W.audience d) d

  -- "its issuer stands over its subject with E .., exclusion N(d)"
  abbrev pub Reached : (W.Del → Type 0) → W.Del → ℕ → Type 0
  Reached E d = Stands W E (Excluded d) W.power (W.subject d) (W.issuer d)

  -- "The live covered delegations are the least set such that d belongs if ..": a set P that has every d that the rule puts there ..
  abbrev pub HasAll : (W.Del → Type 0) → Type 0
  HasAll P = (d : W.Del) (l : ℕ) → Eligible d → Reached (λ e. Uncovered e ⊎ P e) d l → P d

  -- .. and is contained in each set Q that has them.
  pub record LeastSet (P : W.Del → Type 0) : Type 1 where
    pub has_all : HasAll P
    pub least : (Q : W.Del → Type 0) → HasAll Q → (d : W.Del) → P d → Q d

  -- That set, built: d joins after the finitely many, es, that the derivation for its issuer uses. (`live_set` of
  -- proofs/Evaluation/LiveSet: this is the least set. `live_unique`: there is no other.)
  pub data LiveCovered : W.Del → Type 0 where
    joins : {d : W.Del} {l : ℕ} (es : List W.Del) → Eligible d → ((e : W.Del) → Memᴰ e es → LiveCovered e)
        → Reached (λ e. Uncovered e ⊎ Memᴰ e es) d l → LiveCovered d

  -- "E = all uncovered and the live covered ones"
  abbrev pub Usable : W.Del → Type 0
  Usable e = Uncovered e ⊎ LiveCovered e

  -- "An uncovered one is live when its issuer stands over its subject with that same E and nothing excluded."
  pub record LiveUncovered (d : W.Del) : Type 0 where
    pub uncovered : Uncovered d
    pub level : ℕ
    pub stands : Stands W Usable Nobody W.power (W.subject d) (W.issuer d) level

  abbrev pub Live : W.Del → Type 0
  Live d = LiveUncovered d ⊎ LiveCovered d

  -- ### Caps
  -- κ gives each live delegation its c(d): "c = cap for live covered ones, power for the rest".
  -- `Avoiding κ d l`: d's issuer stands at l over d's subject "with E = live, exclusion N(d), and c = κ".
  abbrev pub Avoiding : (W.Del → ℕ) → W.Del → ℕ → Type 0
  Avoiding κ d = Stands W Live (Excluded d) κ (W.subject d) (W.issuer d)

  -- "cap(d) = max(Relay, min(power, issuer's level over the subject ..))"
  pub record CapEquation (κ : W.Del → ℕ) (d : W.Del) : Type 0 where
    pub level : Option ℕ
    pub greatest : Answer (Avoiding κ d) level
    pub equation : κ d ≡ Capped (W.power d) level

  -- levels that are nowhere below the right-hand side of the equation
  pub record PreFixed (κ : W.Del → ℕ) : Type 0 where
    pub rest : (d : W.Del) → LiveUncovered d → κ d ≡ W.power d
    pub above : (d : W.Del) → LiveCovered d → (l : ℕ) → Avoiding κ d l → min (W.power d) l ≤ κ d

  -- "the least levels with cap(d) = ..": they solve the equation and are below all levels that are nowhere below its right-hand side.
  pub record Caps (κ : W.Del → ℕ) : Type 0 where
    pub rest : (d : W.Del) → LiveUncovered d → κ d ≡ W.power d
    pub equation : (d : W.Del) → LiveCovered d → CapEquation κ d
    pub least : (κ' : W.Del → ℕ) → PreFixed κ' → (d : W.Del) → LiveCovered d → κ d ≤ κ' d

  -- The same sentence read literally: below all levels that solve the equation. (proofs/Evaluation/Caps: `caps_least_fixed` and
  -- `least_fixed_caps`: where there are Caps, and on every finite store there are, both readings have the same one solution.)
  pub record LeastFixed (κ : W.Del → ℕ) : Type 0 where
    pub rest : (d : W.Del) → LiveUncovered d → κ d ≡ W.power d
    pub equation : (d : W.Del) → LiveCovered d → CapEquation κ d
    pub least : (κ' : W.Del → ℕ) → ((d : W.Del) → LiveUncovered d → κ' d ≡ W.power d)
        → ((d : W.Del) → LiveCovered d → CapEquation κ' d) → (d : W.Del) → LiveCovered d → κ d ≤ κ' d

  -- ### Effective and conveyed
  -- "Effective: E live, c as for caps, nothing excluded."
  abbrev pub Effective : (W.Del → ℕ) → W.Key → W.Key → ℕ → Type 0
  Effective κ = Stands W Live Nobody κ

  -- "Conveyed by a live d: its cap if covered, else min(power, issuer's effective level); otherwise none."
  pub data Conveys (κ : W.Del → ℕ) (d : W.Del) : Option ℕ → Type 0 where
    cap : LiveCovered d → Conveys κ d (some (κ d))
    plain : (l : ℕ) → LiveUncovered d → Greatest (Effective κ (W.subject d) (W.issuer d)) l → Conveys κ d (some (min (W.power d) l))
    nothing : ¬ Live d → Conveys κ d none

  -- ## Queries: what each answer has to be
  abbrev pub PositiveIs : W.Key → W.Key → Option ℕ → Type 0
  PositiveIs s x o = Answer (Positive s x) o

  pub record EffectiveIs (s x : W.Key) (o : Option ℕ) : Type 0 where
    pub κ : W.Del → ℕ
    pub caps : Caps κ
    pub answer : Answer (Effective κ s x) o

  pub record ConveyedIs (d : W.Del) (o : Option ℕ) : Type 0 where
    pub κ : W.Del → ℕ
    pub caps : Caps κ
    pub conveys : Conveys κ d o

  -- "members (effective, subject itself left out ..)": a member is a key with its level.
  pub record Member (κ : W.Del → ℕ) (s : W.Key) (m : W.Key × ℕ) : Type 0 where
    pub other : ¬ (m.0 ≡ s)
    pub effective : Greatest (Effective κ s m.0) m.1

  -- "subjects (those of held delegations)"
  pub record IsSubject (s : W.Key) : Type 0 where
    pub del : W.Del
    pub held : G.Held del
    pub subject : W.subject del ≡ s

  -- "delegations_to (.. the held delegations with that subject and audience)"
  pub record DelegationTo (s x : W.Key) (d : W.Del) : Type 0 where
    pub held : G.Held d
    pub subject : W.subject d ≡ s
    pub audience : W.audience d ≡ x

  -- "Closure of s: every held delegation, live or not, whose subject is s or stands positively as a key over s, .."
  -- (D1 has s stand over s.) The revocations of the closure are `ClosureRev`, below.
  pub record Node (s n : W.Key) : Type 0 where
    pub level : ℕ
    pub stands : Positive s n level

  pub record Closure (s : W.Key) (d : W.Del) : Type 0 where
    pub held : G.Held d
    pub node : Node s (W.subject d)

  -- "A dead one is Revoked if a held revocation names it, else Unsupported."
  pub data StandingIs (d : W.Del) : Standing → Type 0 where
    is_live : Live d → StandingIs d live
    is_revoked : (k : W.Key) → G.Held d → ¬ Live d → G.Revokes k d → StandingIs d revoked
    is_unsupported : G.Held d → ¬ Live d → ((k : W.Key) → ¬ G.Revokes k d) → StandingIs d unsupported

-- ## Lists
-- "Other lists ascend." `Lists Less P xs`: xs has all that are P and nothing else, each once, ascending by Less.
pub data Ascending {A : Type 0} (Less : A → A → Type 0) : List A → Type 0 where
  done : Ascending Less []
  before : {x : A} {xs : List A} → ((y : A) → Memᴰ y xs → Less x y) → Ascending Less xs → Ascending Less (x ∷ xs)

pub record Lists {A : Type 0} (Less : A → A → Type 0) (P : A → Type 0) (xs : List A) : Type 0 where
  pub ascending : Ascending Less xs
  pub sound : (x : A) → Memᴰ x xs → P x
  pub complete : (x : A) → P x → Memᴰ x xs

pub record MembersAre {W : Shape} (G : Graph W) (Less : W.Key → W.Key → Type 0) (s : W.Key) (ms : List (W.Key × ℕ)) : Type 0 where
  pub κ : W.Del → ℕ
  pub caps : Caps G κ
  pub lists : Lists (λ m n. Less m.0 n.0) (Member G κ s) ms

-- ## Revocations as certificates
-- A graph only says who revokes what. A store holds revocations: `Names v d` is "v revokes the digest of d".
pub record Revocations (W : Shape) : Type 1 where
  pub Rev : Type 0
  pub revoker : Rev → W.Key
  pub Names : Rev → W.Del → Type 0

pub record Store (W : Shape) (F : Revocations W) : Type 1 where
  pub HeldDel : W.Del → Type 0
  pub HeldRev : F.Rev → Type 0

module _ {W : Shape} {F : Revocations W} (S : Store W F) where
  -- "revocations_of (.. the held revocations that name the given delegation ..)"
  pub record RevocationOf (d : W.Del) (v : F.Rev) : Type 0 where
    pub held : S.HeldRev v
    pub names : F.Names v d

  pub record RevokedBy (k : W.Key) (d : W.Del) : Type 0 where
    pub revocation : F.Rev
    pub of : RevocationOf d revocation
    pub issuer : F.revoker revocation ≡ k

  -- the graph that a store is
  abbrev pub graph : Graph W
  graph = record { Held = S.HeldDel; Revokes = RevokedBy }

  -- ".. and every held revocation that names one of them."
  pub record ClosureRev (s : W.Key) (v : F.Rev) : Type 0 where
    pub del : W.Del
    pub closure : Closure graph s del
    pub of : RevocationOf del v

-- A store holds finitely many delegations, and it can be told whether two keys, or two delegations, are the same.
pub record Finite {W : Shape} (G : Graph W) : Type 0 where
  pub keys : (x y : W.Key) → Dec (x ≡ y)
  pub same : (d e : W.Del) → Dec (d ≡ e)
  pub all : List W.Del
  pub listed : {d : W.Del} → G.Held d → Memᴰ d all
