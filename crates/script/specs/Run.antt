-- What a script answers. The set c is what was inserted so far, and the evaluated set e is c as it was at the last evaluation. Each request's
-- reply is what the call that it names answers on its arguments x, y, z and in its rooms p and q. proofs/Settled: two runs coincide.
use Rattle.std.specs.Prelude.{ℕ, ◌≤◌, ◌<◌, ◌≡◌, [], ◌++◌, eqb, length, take, drop, replicate, Result, Ok, Err, Option, Bool, Some}
use Rattle.keyline.specs.declared.refusal.Refusal.{Refusal}
use Rattle.keyline.specs.declared.refusal.Refusal.TheVariants.{BadLength, SmallBuffer}
use Rattle.runs.specs.Bytes.{Bytes}
use Rattle.tables.specs.Committed.{Committed, nothing, length_of, delegation_digests, revocation_digests, delegation_with, revocation_with, payload_of}
use Rattle.tables.specs.Insertion.{settled, delegation_answer, delegation_added, revocation_answer, revocation_added}
use Rattle.lookups.specs.Lookup.{contains_answer, part_buffer}
use Rattle.lookups.specs.Lookup as look
use Rattle.lists.specs.Lists.{both_answer, both_buffer, list_answer, list_buffer, length_first, certificate_delegations, certificate_revocations, subjects_of, revocations_of, delegations_to}
use Rattle.answers.specs.Answers.{PositivePower, EffectivePower, ConveyedPower, IsLive, StandingAnswer, MembersAnswer, ClosureAnswer}
use Rattle.wire.specs.Reply as reply
use Rattle.wire.specs.Reply.{head_length, head_of}
use Rattle.wire.specs.Request.{request_of, first_part, second_part, third_part, Whole, Script, Malformed}
use Rattle.wire.specs.Request as request
use Rattle.wire.specs.declared.operation.Operation.{Operation}
use Rattle.wire.specs.declared.operation.Operation.TheVariants as operation
use Rattle.wire.specs.declared.operation.Change.{Change}
use Rattle.wire.specs.declared.operation.Change.TheVariants as change
use Rattle.wire.specs.declared.operation.OfState.{OfState}
use Rattle.wire.specs.declared.operation.OfState.TheVariants as state
use Rattle.wire.specs.declared.operation.OfEvaluated.{OfEvaluated}
use Rattle.wire.specs.declared.operation.OfEvaluated.TheVariants as evaluated
use Rattle.wire.specs.declared.reply.Reply.{Reply}
use Rattle.lists.specs.declared.write.Counts.{Counts}
use Rattle.power_levels.specs.declared.power.Power.{Power}
use Rattle.keyline.specs.declared.standing.Standing.{Standing}

-- ## One request
-- the reply, and the set afterwards
pub data Changes (c : Committed) (x y z : Bytes) : Change → Reply → Committed → Type 0 where
  new : Changes c x y z change.New (reply.valued 0) nothing
  insert_delegation : Changes c x y z change.InsertDelegation (reply.inserted (delegation_answer c x y z)) (settled (delegation_answer c x y z) c (delegation_added c x y z))
  insert_revocation : Changes c x y z change.InsertRevocation (reply.inserted (revocation_answer c x y z)) (settled (revocation_answer c x y z) c (revocation_added c x y z))

-- the reply, and the rooms afterwards
pub data StateAnswers (c : Committed) (x y p q : Bytes) : OfState → Reply → Bytes → Bytes → Type 0 where
  version : StateAnswers c x y p q state.Version (reply.valued (length_of c)) p q
  len : StateAnswers c x y p q state.Len (reply.valued (length_of c)) p q
  is_empty : StateAnswers c x y p q state.IsEmpty (reply.flagged (eqb (length_of c) 0)) p q
  contains_delegation : StateAnswers c x y p q state.ContainsDelegation (reply.contained (contains_answer (delegation_digests c) x)) p q
  contains_revocation : StateAnswers c x y p q state.ContainsRevocation (reply.contained (contains_answer (revocation_digests c) x)) p q
  delegation : {r : Result (Option ℕ) Refusal} → r ≡ look.delegation_lookup c x (length p) (length q)
      → StateAnswers c x y p q state.Delegation (reply.looked r) (part_buffer r (delegation_with c x).issuer p) (part_buffer r (payload_of (delegation_with c x)) q)
  revocation : {r : Result (Option ℕ) Refusal} → r ≡ look.revocation_lookup c x (length p) (length q)
      → StateAnswers c x y p q state.Revocation (reply.looked r) (part_buffer r (revocation_with c x).issuer p) (part_buffer r (revocation_with c x).revoked q)
  subjects : {r : Result ℕ Refusal} → r ≡ list_answer (subjects_of c) (length p) → StateAnswers c x y p q state.Subjects (reply.listed r) (list_buffer r (subjects_of c) p) q
  lists_revocations : {r : Result ℕ Refusal} → r ≡ length_first x (list_answer (revocations_of c x) (length p))
      → StateAnswers c x y p q state.RevocationsOf (reply.listed r) (list_buffer r (revocations_of c x) p) q
  lists_delegations : {r : Result ℕ Refusal} → r ≡ length_first x (length_first y (list_answer (delegations_to c x y) (length p)))
      → StateAnswers c x y p q state.DelegationsTo (reply.listed r) (list_buffer r (delegations_to c x y) p) q
  certificates : {r : Result Counts Refusal} → r ≡ both_answer (certificate_delegations c) (certificate_revocations c) (length p)
      → StateAnswers c x y p q state.Certificates (reply.both_listed r) (both_buffer r (certificate_delegations c) (certificate_revocations c) p) q

pub data EvaluatedAnswers (e : Committed) (x y p q : Bytes) : OfEvaluated → Reply → Bytes → Bytes → Type 0 where
  positive_power : {r : Result (Option Power) Refusal} → PositivePower e x y r → EvaluatedAnswers e x y p q evaluated.PositivePower (reply.powered r) p q
  effective_power : {r : Result (Option Power) Refusal} → EffectivePower e x y r → EvaluatedAnswers e x y p q evaluated.EffectivePower (reply.powered r) p q
  members : {r : Result ℕ Refusal} {p' q' : Bytes} → MembersAnswer e x p q r p' q' → EvaluatedAnswers e x y p q evaluated.Members (reply.listed r) p' q'
  is_live : {r : Result Bool Refusal} → IsLive e x r → EvaluatedAnswers e x y p q evaluated.IsLive (reply.lived r) p q
  conveyed_power : {r : Result (Option Power) Refusal} → ConveyedPower e x r → EvaluatedAnswers e x y p q evaluated.ConveyedPower (reply.powered r) p q
  standing : {r : Result (Option Standing) Refusal} → StandingAnswer e x r → EvaluatedAnswers e x y p q evaluated.Standing (reply.stood r) p q
  closure : {r : Result Counts Refusal} {p' : Bytes} → ClosureAnswer e x p r p' → EvaluatedAnswers e x y p q evaluated.Closure (reply.both_listed r) p' q

-- ## In bytes
abbrev pub zeros : ℕ → Bytes
zeros n = replicate n 0

-- the first room of a reply in its part of the answers
abbrev pub room_in : ℕ → Bytes → Bytes
room_in n out = take n (drop head_length out)

-- a reply in its part of the answers: head, first room, second room
abbrev pub inPlace : Reply → Bytes → Bytes → Bytes
inPlace r p q = head_of r ++ p ++ q

-- a reply in its place, with its rooms as A says that they are afterwards
pub data Placed (A : Reply → Bytes → Bytes → Type 0) : Bytes → Type 0 where
  placed : {r : Reply} {p q : Bytes} → A r p q → Placed A (inPlace r p q)

pub data StateReplied (c : Committed) (x y p q : Bytes) (what : OfState) : Bytes → Type 0 where
  state_replied : {r : Reply} {p' q' : Bytes} → StateAnswers c x y p q what r p' q' → StateReplied c x y p q what (inPlace r p' q')

pub data EvaluatedReplied (e : Committed) (x y p q : Bytes) (what : OfEvaluated) : Bytes → Type 0 where
  evaluated_replied : {r : Reply} {p' q' : Bytes} → EvaluatedAnswers e x y p q what r p' q' → EvaluatedReplied e x y p q what (inPlace r p' q')

pub data ChangeReplied (c : Committed) (x y z p q : Bytes) (what : Change) : Committed → Bytes → Type 0 where
  change_replied : {r : Reply} {d : Committed} → Changes c x y z what r d → ChangeReplied c x y z p q what d (inPlace r p q)

-- One request: c, e, the operation, the arguments and the rooms; then the set and the evaluated set afterwards, and the reply's bytes. The
-- first room begins as the caller left it, the second as zeros.
pub data Replied (c e : Committed) (x y z p q : Bytes) : Option Operation → Committed → Committed → Bytes → Type 0 where
  changed : {w : Change} {d : Committed} {out : Bytes} → ChangeReplied c x y z p q w d out → Replied c e x y z p q (Some (operation.Change w)) d e out
  evaluate : Replied c e x y z p q (Some operation.Evaluate) c c (inPlace (reply.valued 0) p q)
  state_asked : {w : OfState} {out : Bytes} → StateReplied c x y p q w out → Replied c e x y z p q (Some (operation.OfState w)) c e out
  evaluated_asked : {w : OfEvaluated} {out : Bytes} → EvaluatedReplied e x y p q w out → Replied c e x y z p q (Some (operation.OfEvaluated w)) c e out

-- ## A script
-- from c and e, the script s turns the answers `out` into the last argument
pub data Runs : Committed → Committed → Bytes → Bytes → Bytes → Type 0 where
  ended : {c e : Committed} {out : Bytes} → Runs c e [] out out
  next : {c e d f : Committed} {s out here rest : Bytes} → Whole s
      → Replied c e (first_part s) (second_part s) (third_part s) (room_in (request_of s).room out) (zeros (request_of s).other) (request_of s).operation d f here
      → Runs d f (drop (request.length_of (request_of s)) s) (drop (request.needs (request_of s)) out) rest
      → Runs c e s out (here ++ rest)

-- ## The call
-- the longest script
abbrev pub script_limit : ℕ
script_limit = 16777216

pub data MeasuredAs (s : Bytes) : Result ℕ Refusal → Type 0 where
  needs : {n : ℕ} → Script s n → MeasuredAs s (Ok n)
  refused : {why : Refusal} → Malformed s why → MeasuredAs s (Err why)

-- the script s on the answers `out`: what it answers, and the answers afterwards. The checks in their order: the script's length (1), its
-- requests (2 or 4, at the first that is none), the room for all replies (9). Bytes behind the replies stay.
pub data RanAs (s out : Bytes) : Result ℕ Refusal → Bytes → Type 0 where
  too_long : script_limit < length s → RanAs s out (Err (BadLength (length s))) out
  malformed : {why : Refusal} → length s ≤ script_limit → Malformed s why → RanAs s out (Err why) out
  room : {n : ℕ} → length s ≤ script_limit → Script s n → length out < n → RanAs s out (Err (SmallBuffer n)) out
  answered : {n : ℕ} {here : Bytes} → length s ≤ script_limit → Script s n → n ≤ length out → Runs nothing nothing s (take n out) here
      → RanAs s out (Ok n) (here ++ drop n out)
