-- Document 01's table of refusals: the column "No." and the column "Returned beside it". Rests on Limits.
use Rattle.std.specs.Prelude.{ℕ}
use Rattle.keyline.specs.Limits.{delegation_limit, revocation_limit}
use Rattle.keyline.specs.declared.refusal.Refusal.{Refusal}
use Rattle.keyline.specs.declared.refusal.Refusal.TheVariants.{BadLength, UnexpectedEnd, TrailingBytes, InvalidTag, Conflict, FullDelegations, FullRevocations, FullKeys, SmallBuffer}

-- "No."
abbrev pub number_of : Refusal → ℕ
number_of (BadLength n) = 1
number_of UnexpectedEnd = 2
number_of TrailingBytes = 3
number_of (InvalidTag b) = 4
number_of Conflict = 5
number_of FullDelegations = 6
number_of FullRevocations = 7
number_of (FullKeys n) = 8
number_of (SmallBuffer n) = 9

-- the number of refusals: numbers run from 1 to this
abbrev pub refusal_count : ℕ
refusal_count = 9

-- "Returned beside it": 1 "its length", 2, 3 and 5 "0", 4 "the byte", 6 "128", 7 "64", 8 "distinct new keys", 9 "bytes needed"
abbrev pub beside_of : Refusal → ℕ
beside_of (BadLength n) = n
beside_of UnexpectedEnd = 0
beside_of TrailingBytes = 0
beside_of (InvalidTag b) = b
beside_of Conflict = 0
beside_of FullDelegations = delegation_limit
beside_of FullRevocations = revocation_limit
beside_of (FullKeys n) = n
beside_of (SmallBuffer n) = n
