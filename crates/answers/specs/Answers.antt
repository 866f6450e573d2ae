-- What each call on an evaluated set has to answer, for every argument and every lent byte: c is the committed set.
-- Each relation lists the cases in document 01's order of checks: "Argument lengths (1) come before 9", "the first one's fit is tested
-- first", "A refusal leaves .. buffers unchanged". proofs/Settled: two answers that satisfy one of them coincide.
use Rattle.std.specs.Prelude.{ℕ, ◌+◌, ◌*◌, ◌≤◌, ◌<◌, true, false, ◌≡◌, List, ◌++◌, map, length, Result, Ok, Err, Some, None, Bool, Option as Maybe}
use Rattle.std.proofs.Math.Option.{Option, none, some}
use Rattle.rules.specs.Rules.{PositiveIs, EffectiveIs, ConveyedIs, MembersAre, StandingIs, Lists, Closure, ClosureRev}
use Rattle.rules.specs.Rules as rules
use Rattle.keyline.specs.Limits.{key_length, digest_length}
use Rattle.lent.specs.Bytes.{front}
use Rattle.power_levels.specs.Power.{rank_of, byte_of}
use Rattle.power_levels.specs.declared.power.Power.{Power}
use Rattle.keyline.specs.declared.refusal.Refusal.TheVariants.{BadLength, SmallBuffer}
use Rattle.runs.specs.Bytes.{Bytes, Less, joined}
use Rattle.runs.specs.Members.{has}
use Rattle.tables.specs.Columns.{power_of}
use Rattle.tables.specs.Committed.{Delegation, Revocation, Committed, delegation_digests, delegation_with}
use Rattle.answers.specs.Graph.{graph, store, ByDigest, RevByDigest}
use Rattle.keyline.specs.declared.refusal.Refusal.{Refusal}
use Rattle.keyline.specs.declared.standing.Standing.{Standing}
use Rattle.keyline.specs.declared.standing.Standing.TheVariants as stands
use Rattle.lists.specs.declared.write.Counts.{Counts}

-- ## Powers
-- the answer that a level is, and no level
pub data LevelIs : Option ℕ → Maybe Power → Type 0 where
  level : (p : Power) → LevelIs (some (rank_of p)) (Some p)
  no_level : LevelIs none None

-- subject s, then audience x; P is what the level over s has to be
pub data PowerAnswer (P : Option ℕ → Type 0) (s x : Bytes) : Result (Maybe Power) Refusal → Type 0 where
  subject-length : ¬ (length s ≡ key_length) → PowerAnswer P s x (Err (BadLength (length s)))
  audience-length : length s ≡ key_length → ¬ (length x ≡ key_length) → PowerAnswer P s x (Err (BadLength (length x)))
  answered : {o : Option ℕ} {p : Maybe Power} → length s ≡ key_length → length x ≡ key_length → P o → LevelIs o p → PowerAnswer P s x (Ok p)

abbrev pub PositivePower : Committed → Bytes → Bytes → Result (Maybe Power) Refusal → Type 0
PositivePower c s x = PowerAnswer (PositiveIs (graph c) s x) s x

abbrev pub EffectivePower : Committed → Bytes → Bytes → Result (Maybe Power) Refusal → Type 0
EffectivePower c s x = PowerAnswer (EffectiveIs (graph c) s x) s x

-- ## A delegation by its digest x
-- "A digest that no held certificate has .. give[s] the empty or absent answer"
abbrev pub Held : Committed → Bytes → Type 0
Held c x = has (delegation_digests c) x ≡ true

abbrev pub Absent : Committed → Bytes → Type 0
Absent c x = has (delegation_digests c) x ≡ false

pub data ConveyedPower (c : Committed) (x : Bytes) : Result (Maybe Power) Refusal → Type 0 where
  digest-length : ¬ (length x ≡ digest_length) → ConveyedPower c x (Err (BadLength (length x)))
  absent : length x ≡ digest_length → Absent c x → ConveyedPower c x (Ok None)
  answered : {o : Option ℕ} {p : Maybe Power} → length x ≡ digest_length → Held c x → ConveyedIs (graph c) (delegation_with c x) o → LevelIs o p
      → ConveyedPower c x (Ok p)

pub data IsLive (c : Committed) (x : Bytes) : Result Bool Refusal → Type 0 where
  digest-length : ¬ (length x ≡ digest_length) → IsLive c x (Err (BadLength (length x)))
  absent : length x ≡ digest_length → Absent c x → IsLive c x (Ok false)
  live : length x ≡ digest_length → Held c x → rules.Live (graph c) (delegation_with c x) → IsLive c x (Ok true)
  dead : length x ≡ digest_length → Held c x → ¬ rules.Live (graph c) (delegation_with c x) → IsLive c x (Ok false)

-- the answer that a standing is
pub data StandingSays : rules.Standing → Standing → Type 0 where
  live : StandingSays rules.live stands.Live
  revoked : StandingSays rules.revoked stands.Revoked
  unsupported : StandingSays rules.unsupported stands.Unsupported

pub data StandingAnswer (c : Committed) (x : Bytes) : Result (Maybe Standing) Refusal → Type 0 where
  digest-length : ¬ (length x ≡ digest_length) → StandingAnswer c x (Err (BadLength (length x)))
  absent : length x ≡ digest_length → Absent c x → StandingAnswer c x (Ok None)
  answered : {t : rules.Standing} {u : Standing} → length x ≡ digest_length → Held c x → StandingIs (graph c) (delegation_with c x) t → StandingSays t u
      → StandingAnswer c x (Ok (Some u))

-- ## Lists
-- the byte of the level of a rank
abbrev pub letter_of : ℕ → ℕ
letter_of l = byte_of (power_of l)

abbrev pub member_keys : List (Bytes × ℕ) → List Bytes
member_keys ms = map (λ m. m.0) ms

abbrev pub member_letters : List (Bytes × ℕ) → Bytes
member_letters ms = map (λ m. letter_of m.1) ms

-- members of s: "keys in one buffer, power bytes in another". keys and powers are the buffers before; then come answer and buffers after.
pub data MembersAnswer (c : Committed) (s keys powers : Bytes) : Result ℕ Refusal → Bytes → Bytes → Type 0 where
  subject-length : ¬ (length s ≡ key_length) → MembersAnswer c s keys powers (Err (BadLength (length s))) keys powers
  keys_room : {ms : List (Bytes × ℕ)} → length s ≡ key_length → MembersAre (graph c) Less s ms → length keys < key_length * length ms
      → MembersAnswer c s keys powers (Err (SmallBuffer (key_length * length ms))) keys powers
  powers_room : {ms : List (Bytes × ℕ)} → length s ≡ key_length → MembersAre (graph c) Less s ms → key_length * length ms ≤ length keys
      → length powers < length ms → MembersAnswer c s keys powers (Err (SmallBuffer (length ms))) keys powers
  answered : {ms : List (Bytes × ℕ)} → length s ≡ key_length → MembersAre (graph c) Less s ms → key_length * length ms ≤ length keys
      → length ms ≤ length powers
      → MembersAnswer c s keys powers (Ok (length ms)) (front (joined (member_keys ms)) keys) (front (member_letters ms) powers)

abbrev pub digests : List Delegation → List Bytes
digests ds = map (λ d. d.digest) ds

abbrev pub rev_digests : List Revocation → List Bytes
rev_digests vs = map (λ v. v.digest) vs

-- the closure's certificates: "delegations ascending, then revocations ascending, with a count for each kind"
pub record ClosureIs (c : Committed) (s : Bytes) (ds : List Delegation) (vs : List Revocation) : Type 0 where
  pub delegations : Lists ByDigest (Closure (graph c) s) ds
  pub revocations : Lists RevByDigest (ClosureRev (store c) s) vs

pub data ClosureAnswer (c : Committed) (s out : Bytes) : Result Counts Refusal → Bytes → Type 0 where
  subject-length : ¬ (length s ≡ key_length) → ClosureAnswer c s out (Err (BadLength (length s))) out
  room : {ds : List Delegation} {vs : List Revocation} → length s ≡ key_length → ClosureIs c s ds vs
      → length out < digest_length * length ds + digest_length * length vs
      → ClosureAnswer c s out (Err (SmallBuffer (digest_length * length ds + digest_length * length vs))) out
  answered : {ds : List Delegation} {vs : List Revocation} → length s ≡ key_length → ClosureIs c s ds vs
      → digest_length * length ds + digest_length * length vs ≤ length out
      → ClosureAnswer c s out (Ok (record { delegations = length ds; revocations = length vs })) (front (joined (digests ds) ++ joined (rev_digests vs)) out)
