-- A request in bytes: one of operation, three lengths of two bytes each, the first room's size in two bytes and the second's in one, then
-- the arguments. And what a well-formed script is: requests one after the other, to the end.
use Rattle.std.specs.Prelude.{ℕ, ◌+◌, ◌-◌, ◌*◌, ◌≤◌, ◌<◌, ◌≡◌, true, false, [], length, get_or, take, drop, Result, Ok, Err}
use Rattle.keyline.specs.declared.refusal.Refusal.{Refusal}
use Rattle.keyline.specs.declared.refusal.Refusal.TheVariants.{UnexpectedEnd, InvalidTag}
use Rattle.runs.specs.Bytes.{Bytes}
use Rattle.wire.specs.Operation.{operation_of, is_known}
use Rattle.wire.specs.Reply.{head_length}
use Rattle.wire.specs.declared.request.Request.{Request}
use Rattle.wire.specs.declared.request.Sizes.{Sizes}

abbrev pub header_length : ℕ
header_length = 10

-- the longest argument, and the largest room
abbrev pub longest : ℕ
longest = 65535

-- the largest second room, whose size has one byte
abbrev pub other_limit : ℕ
other_limit = 255

abbrev pub pair_at : Bytes → ℕ → ℕ
pair_at s i = get_or s i 0 + 256 * get_or s (i + 1) 0

abbrev pub request_of : Bytes → Request
request_of s = record {
  operation = operation_of (get_or s 0 0);
  first = pair_at s 1;
  second = pair_at s 3;
  third = pair_at s 5;
  room = pair_at s 7;
  other = get_or s 9 0;
}

-- the bytes of a request, and the bytes of its reply
abbrev pub length_of : Request → ℕ
length_of q = header_length + q.first + q.second + q.third

abbrev pub needs : Request → ℕ
needs q = head_length + q.room + q.other

-- the three arguments of the request at the front
abbrev pub first_part : Bytes → Bytes
first_part s = take (request_of s).first (drop header_length s)

abbrev pub second_part : Bytes → Bytes
second_part s = take (request_of s).second (drop (header_length + (request_of s).first) s)

abbrev pub third_part : Bytes → Bytes
third_part s = take (request_of s).third (drop (header_length + (request_of s).first + (request_of s).second) s)

pub record Bounded (q : Request) : Type 0 where
  pub first : q.first ≤ longest
  pub second : q.second ≤ longest
  pub third : q.third ≤ longest
  pub room : q.room ≤ longest
  pub other : q.other ≤ other_limit

-- ## Well-formed
-- a whole request is at the front
pub record Whole (s : Bytes) : Type 0 where
  pub header : header_length ≤ length s
  pub known : is_known (request_of s).operation ≡ true
  pub all : length_of (request_of s) ≤ length s

-- s is whole requests to its end, and their replies take n bytes
pub data Script : Bytes → ℕ → Type 0 where
  ended : Script [] 0
  next : {s : Bytes} {n : ℕ} → Whole s → Script (drop (length_of (request_of s)) s) n → Script s (needs (request_of s) + n)

-- no request is at the front: it ends too soon, or its first byte says nothing
pub data NoRequest (s : Bytes) : Refusal → Type 0 where
  header : 0 < length s → length s < header_length → NoRequest s UnexpectedEnd
  unknown : header_length ≤ length s → is_known (request_of s).operation ≡ false → NoRequest s (InvalidTag (get_or s 0 0))
  arguments : header_length ≤ length s → is_known (request_of s).operation ≡ true → length s < length_of (request_of s) → NoRequest s UnexpectedEnd

-- the first fault of a script that is not well-formed
pub data Malformed : Bytes → Refusal → Type 0 where
  here : {s : Bytes} {why : Refusal} → NoRequest s why → Malformed s why
  later : {s : Bytes} {why : Refusal} → Whole s → Malformed (drop (length_of (request_of s)) s) why → Malformed s why

pub data StepOf (s : Bytes) : Result Sizes Refusal → Type 0 where
  whole : Whole s → Bounded (request_of s) → StepOf s (Ok (record { request = length_of (request_of s); reply = needs (request_of s) }))
  refused : {why : Refusal} → NoRequest s why → StepOf s (Err why)

-- what is read of the request at the front of s, and the replies' bytes that are left, n: internal, for the loop over a script
pub record NextOf (s : Bytes) (n : ℕ) (q : Request) : Type 0 where
  pub is : q ≡ request_of s
  pub whole : Whole s
  pub within : length_of q ≤ length s
  pub fits : needs q ≤ n
  pub other : q.other ≤ other_limit
  pub rest : Script (drop (length_of q) s) (n - needs q)

-- the request q at the front of s, and the part `out` of the answers that is its reply's
pub record Asked (q : Request) (s out : Bytes) : Type 0 where
  pub is : q ≡ request_of s
  pub within : length_of q ≤ length s
  pub long : length out ≡ needs q
  pub other : q.other ≤ other_limit
