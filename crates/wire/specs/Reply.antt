-- A reply's number and values, for every case of every call's answer. The number is 0, or document 01's number of a refusal, and then the
-- first value is what is returned beside it. docs/SCRIPT.md has the same as a table.
use Rattle.std.specs.Prelude.{ℕ, ◌/◌, ◌%◌, Bool, cond, List, [], ◌∷◌, Result, Ok, Err, Option, Some, None, true, false}
use Rattle.power_levels.specs.Power.{byte_of}
use Rattle.keyline.specs.Refusal.{number_of, beside_of}
use Rattle.keyline.specs.declared.refusal.Refusal.{Refusal}
use Rattle.wire.specs.declared.reply.Reply.{Reply}
use Rattle.tables.specs.declared.answer.Outcome.{Outcome}
use Rattle.tables.specs.declared.answer.Outcome.TheVariants.{Added, NotAdded}
use Rattle.lists.specs.declared.write.Counts.{Counts}
use Rattle.power_levels.specs.declared.power.Power.{Power}
use Rattle.keyline.specs.declared.standing.Standing.{Standing}
use Rattle.keyline.specs.declared.standing.Standing.TheVariants as stands

abbrev pub valued : ℕ → Reply
valued n = record { number = 0; first = n; second = 0 }

abbrev pub refused : Refusal → Reply
refused why = record { number = number_of why; first = beside_of why; second = 0 }

abbrev pub flag_of : Bool → ℕ
flag_of is = cond is 1 0

abbrev pub flagged : Bool → Reply
flagged is = valued (flag_of is)

-- 1 for added, 0 for not added
abbrev pub inserted : Result Outcome Refusal → Reply
inserted (Ok Added) = valued 1
inserted (Ok NotAdded) = valued 0
inserted (Err why) = refused why

abbrev pub contained : Result Bool Refusal → Reply
contained (Ok is) = flagged is
contained (Err why) = refused why

-- 1 and the length of the second part for held, 0 for absent
abbrev pub looked : Result (Option ℕ) Refusal → Reply
looked (Ok (Some n)) = record { number = 0; first = 1; second = n }
looked (Ok None) = valued 0
looked (Err why) = refused why

-- the count
abbrev pub listed : Result ℕ Refusal → Reply
listed (Ok n) = valued n
listed (Err why) = refused why

-- the two counts
abbrev pub both_listed : Result Counts Refusal → Reply
both_listed (Ok n) = record { number = 0; first = n.delegations; second = n.revocations }
both_listed (Err why) = refused why

-- the power byte, 0 for none
abbrev pub powered : Result (Option Power) Refusal → Reply
powered (Ok (Some p)) = valued (byte_of p)
powered (Ok None) = valued 0
powered (Err why) = refused why

abbrev pub lived : Result Bool Refusal → Reply
lived (Ok true) = valued 1
lived (Ok false) = valued 0
lived (Err why) = refused why

abbrev pub stood : Result (Option Standing) Refusal → Reply
stood (Ok None) = valued 0
stood (Ok (Some stands.Live)) = valued 1
stood (Ok (Some stands.Revoked)) = valued 2
stood (Ok (Some stands.Unsupported)) = valued 3
stood (Err why) = refused why

-- ---- in bytes: the number, then each value in four bytes, the lowest first
abbrev pub head_length : ℕ
head_length = 9

unfoldable pub head_of : Reply → List ℕ
head_of r =
    r.number
    ∷ r.first % 256
    ∷ r.first / 256 % 256
    ∷ r.first / 65536 % 256
    ∷ r.first / 16777216 % 256
    ∷ r.second % 256
    ∷ r.second / 256 % 256
    ∷ r.second / 65536 % 256
    ∷ r.second / 16777216 % 256
    ∷ []
