-- What the writer's answer says: it writes exactly where the lengths are right, the power byte is a level's and the payload fits.
-- Callers use `Writes`, not the text of `encode_checked`.
use Prim.Native.Nat.{ℕ, ◌+◌, ◌≤◌}
use mathlib.Core.Path.{◌≡◌, refl, sym, ap, ◌∙◌}
use mathlib.Core.Bool.{Bool, true, false, cond, ◌||◌}
use mathlib.Core.List.{List}
use native.Mathlib.Omega.{arith}
use lib.ListN.{length}
use lib.Dec.{eqb, ltb}
use borrow.Author.Tests.{ltb-false, eqb-true, eq-eqb, le-ltb}
use Rattle.std.specs.Prelude.{Result, Ok, Err}
use Rattle.keyline.specs.Limits.{key_length, digest_length, payload_length}
use Rattle.power_levels.specs.Power.{level_of}
use Rattle.lent.specs.Bytes.{front}
use Rattle.codec.specs.Delegation.{encoded, citation_fits, encode_leveled, encode_checked, encode_answer, filled, after_encode, Room}
use Rattle.power_levels.specs.declared.power.Power.{Power}
use Rattle.power_levels.specs.declared.power.InvalidPower.{InvalidPower}
use Rattle.keyline.specs.declared.refusal.Refusal.{Refusal}
use Rattle.keyline.specs.declared.refusal.Refusal.TheVariants.{BadLength}
use Rattle.codec.proofs.Reading.{citation_with}

-- a citation of either length passes, and none of another
pub fits_with : (n : ℕ) (t : Bool) → n ≡ citation_with t → citation_fits n ≡ true
unfolding citation_fits
fits_with n true e = rw e
fits_with n false e = rw e

pub record Cites (n : ℕ) : Type 0 where
  pub cited : Bool
  pub long : n ≡ citation_with cited

pub with_fits : (n : ℕ) → citation_fits n ≡ true → Cites n
unfolding citation_fits
with_fits n e = go (eqb n 0) (eqb n digest_length) refl refl e
  where
    go : (absent present : Bool) → eqb n 0 ≡ absent → eqb n digest_length ≡ present → (absent || present) ≡ true → Cites n
    go true present ea ep e = record { cited = false; long = eqb-true _ _ ea }
    go false true ea ep e = record { cited = true; long = eqb-true _ _ ep }
    go false false ea ep e = cc

-- so a citation is never longer than a digest
pub fits_most : (n : ℕ) → citation_fits n ≡ true → n ≤ digest_length
fits_most n e = most (with_fits n e).cited (with_fits n e).long
  where
    most : (t : Bool) → n ≡ citation_with t → n ≤ digest_length
    most true e = omega arith
    most false e = omega arith

-- from lengths a, s and c, the power byte b and the room: n bytes are written, at the level p, with a citation where t says so
pub record Writes (a s b c room n : ℕ) (p : Power) (t : Bool) : Type 0 where
  pub audience : a ≡ key_length
  pub subject : s ≡ key_length
  pub citation : c ≡ citation_with t
  pub level : level_of b ≡ Ok p
  pub count : n ≡ payload_length + c
  pub fits : n ≤ room

pub record Written (a s b c room n : ℕ) : Type 0 where
  pub power : Power
  pub cited : Bool
  pub writes : Writes a s b c room n power cited

-- a refusal wrote nothing
pub refused_written : {r : Refusal} {n : ℕ} → Err r ≡ Ok n → ⊥
refused_written e = cc

-- The definition's tests, in its order: the power byte and the room, ..
level_writes : (l : Result Power InvalidPower) (a s b c room n : ℕ) (t small : Bool) → level_of b ≡ l → ltb room (payload_length + c) ≡ small
    → a ≡ key_length → s ≡ key_length → c ≡ citation_with t → encode_leveled l b c room ≡ Ok n → Written a s b c room n
level_writes (Err x) a s b c room n t small el er ea es ec e = absurd (refused_written e)
level_writes (Ok p) a s b c room n t true el er ea es ec e = absurd (refused_written (rw er at e))
level_writes (Ok p) a s b c room n t false el er ea es ec e =
    let k : n ≡ payload_length + c = cc in
    let h : payload_length + c ≤ room = ltb-false _ _ er in
    record { power = p; cited = t; writes = record { audience = ea; subject = es; citation = ec; level = el; count = k; fits = omega arith } }

-- .. and the three lengths.
length_cases : (a s b c room n : ℕ) (audience subject citation : Bool)
    → eqb a key_length ≡ audience → eqb s key_length ≡ subject → citation_fits c ≡ citation
    → cond audience (cond subject (cond citation (encode_leveled (level_of b) b c room) (Err (BadLength c))) (Err (BadLength s))) (Err (BadLength a))
    ≡ Ok n
    → Written a s b c room n
length_cases a s b c room n true true true ea es ec e =
    let f = with_fits c ec in
    level_writes (level_of b) a s b c room n f.cited (ltb room (payload_length + c)) refl refl (eqb-true _ _ ea) (eqb-true _ _ es) f.long e
length_cases a s b c room n true true false ea es ec e = absurd (refused_written e)
length_cases a s b c room n true false citation ea es ec e = absurd (refused_written e)
length_cases a s b c room n false subject citation ea es ec e = absurd (refused_written e)

pub written : (a s b c room n : ℕ) → encode_checked a s b c room ≡ Ok n → Written a s b c room n
unfolding encode_checked
written a s b c room n e = length_cases a s b c room n (eqb a key_length) (eqb s key_length) (citation_fits c) refl refl refl e

-- The other way each test is known: with right lengths the power byte is looked at, ..
pub checked : (a s b c room : ℕ) (l : Result Power InvalidPower) → a ≡ key_length → s ≡ key_length → citation_fits c ≡ true → level_of b ≡ l → encode_checked a s b c room ≡ encode_leveled l b c room
unfolding encode_checked
checked a s b c room l ea es ec el = simp (eq-eqb _ _ ea, eq-eqb _ _ es, ec, el)

-- .. and then the room.
pub writes : (a s b c room n : ℕ) (p : Power) (t : Bool) → Writes a s b c room n p t → encode_checked a s b c room ≡ Ok n
writes a s b c room n p t w =
    let h : payload_length + c ≤ room = omega arith in
    checked a s b c room (Ok p) w.audience w.subject (fits_with c t w.citation) w.level ∙ simp (le-ltb _ _ h) (rw w.count)

-- Of a call that answered r: what the function that writes the parts asks, ..
pub room_of : (a s c out : List ℕ) (b n : ℕ) {r : Result ℕ Refusal} → r ≡ encode_answer a s b c out → r ≡ Ok n → Room a s c out
room_of a s c out b n e f =
    let w = (written (length a) (length s) b (length c) (length out) n (sym e ∙ f)).writes in
    record { audience_long = w.audience; subject_long = w.subject; room = omega arith }

-- .. and the buffer afterwards, with the payload in front or as it was.
pub after_written : (a s c out : List ℕ) (b n : ℕ) {r : Result ℕ Refusal} → r ≡ encode_answer a s b c out → r ≡ Ok n → after_encode a s b c out ≡ front (encoded a s b c) out
unfolding after_encode
after_written a s c out b n e f = ap (λ r. filled r (encoded a s b c) out) (sym e ∙ f)

pub after_refused : (a s c out : List ℕ) (b : ℕ) (x : Refusal) {r : Result ℕ Refusal} → r ≡ encode_answer a s b c out → r ≡ Err x → after_encode a s b c out ≡ out
unfolding after_encode
after_refused a s c out b x e f = ap (λ r. filled r (encoded a s b c) out) (sym e ∙ f)
