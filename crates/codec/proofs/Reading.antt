-- What an accepted payload is: the reader accepts exactly the payloads whose power byte is a level's and whose length is the one that the tag asks for.
-- Callers use `Accepts`, not the text of `decoded`.
use Prim.Native.Nat.{ℕ, ◌+◌, ◌≤◌}
use mathlib.Core.Path.{◌≡◌, refl, ap, ◌∙◌}
use mathlib.Core.Bool.{Bool, true, false, cond}
use mathlib.Core.List.{List}
use native.Mathlib.Omega.{arith}
use native.Mathlib.Nat.{le_antisymm}
use lib.ListN.{length}
use lib.Dec.{eqb, ltb}
use borrow.Author.Tests.{ltb-false, eqb-true}
use Rattle.std.specs.Prelude.{Result, Ok, Err}
use Rattle.keyline.specs.Limits.{digest_length, payload_length, cited_length}
use Rattle.power_levels.specs.Power.{level_of}
use Rattle.codec.specs.Delegation.{found, power_byte_of, tag_byte_of, citation_absent, citation_present, tagged, leveled, decoded}
use Rattle.power_levels.specs.declared.power.Power.{Power}
use Rattle.power_levels.specs.declared.power.InvalidPower.{InvalidPower}
use Rattle.keyline.specs.declared.refusal.Refusal.{Refusal}
use Rattle.keyline.specs.declared.refusal.Refusal.TheVariants.{UnexpectedEnd, TrailingBytes, InvalidTag}

-- the tag byte that says t, and the lengths of the citation and of the payload that go with it
abbrev pub tagWith : Bool → ℕ
tagWith t = cond t citation_present citation_absent

abbrev pub citation_with : Bool → ℕ
citation_with t = cond t digest_length 0

abbrev pub lengthWith : Bool → ℕ
lengthWith t = cond t cited_length payload_length

-- s is a payload at the level p; t says whether a citation follows
pub record Accepts (s : List ℕ) (p : Power) (t : Bool) : Type 0 where
  pub level : level_of (power_byte_of s) ≡ Ok p
  pub long : length s ≡ lengthWith t
  pub tag : tag_byte_of s ≡ tagWith t

-- either length is enough for a power byte and a tag, and is theirs and the citation's together
pub at_least_base : (n : ℕ) (t : Bool) → n ≡ lengthWith t → payload_length ≤ n
at_least_base n true e = omega arith
at_least_base n false e = omega arith

pub length_sum : (t : Bool) → lengthWith t ≡ payload_length + citation_with t
length_sum true = refl
length_sum false = refl

-- a refusal is not an acceptance
pub refused_accepted : {r : Refusal} {p : Power} {t : Bool} → Err r ≡ Ok (found p t) → ⊥
refused_accepted e = cc

-- The definition's tests, in its order: the last, ..
record Fit (n tag : ℕ) (p q : Power) (t : Bool) : Type 0 where
  pub same : p ≡ q
  pub long : n ≡ lengthWith t
  pub tags : tag ≡ tagWith t

fit_cases : (n tag : ℕ) (p q : Power) (t absent long present short over : Bool)
    → payload_length ≤ n
    → eqb tag citation_absent ≡ absent → ltb payload_length n ≡ long → eqb tag citation_present ≡ present → ltb n cited_length ≡ short → ltb cited_length n ≡ over
    → cond absent (cond long (Err TrailingBytes) (Ok (found p false)))
    (cond present (cond short (Err UnexpectedEnd) (cond over (Err TrailingBytes) (Ok (found p true)))) (Err (InvalidTag tag)))
    ≡ Ok (found q t)
    → Fit n tag p q t
fit_cases n tag p q t true true _ _ _ h ea el ep es eo e = absurd (refused_accepted e)
fit_cases n tag p q t true false _ _ _ h ea el ep es eo e =
    let u : false ≡ t = cc in
    record { same = cc; long = le_antisymm (ltb-false _ _ el) h ∙ ap lengthWith u; tags = eqb-true _ _ ea ∙ ap tagWith u }
fit_cases n tag p q t false _ true true _ h ea el ep es eo e = absurd (refused_accepted e)
fit_cases n tag p q t false _ true false true h ea el ep es eo e = absurd (refused_accepted e)
fit_cases n tag p q t false _ true false false h ea el ep es eo e =
    let u : true ≡ t = cc in
    record { same = cc; long = le_antisymm (ltb-false _ _ eo) (ltb-false _ _ es) ∙ ap lengthWith u; tags = eqb-true _ _ ep ∙ ap tagWith u }
fit_cases n tag p q t false _ false _ _ h ea el ep es eo e = absurd (refused_accepted e)

fit : (n tag : ℕ) (p q : Power) (t : Bool) → payload_length ≤ n → tagged n p tag ≡ Ok (found q t) → Fit n tag p q t
unfolding tagged
fit n tag p q t h e =
    fit_cases n tag p q t (eqb tag citation_absent) (ltb payload_length n) (eqb tag citation_present) (ltb n cited_length) (ltb cited_length n) h refl refl refl refl refl e

-- .. the second, ..
leveled_accepts : (s : List ℕ) (l : Result Power InvalidPower) (p : Power) (t : Bool) → level_of (power_byte_of s) ≡ l → payload_length ≤ length s → leveled l s ≡ Ok (found p t) → Accepts s p t
leveled_accepts s (Err x) p t el h e = absurd (refused_accepted e)
leveled_accepts s (Ok q) p t el h e =
    let f = fit (length s) (tag_byte_of s) q p t h e in
    record { level = rw (← f.same) el; long = f.long; tag = f.tags }

-- .. and the first.
sound_cases : (s : List ℕ) (p : Power) (t short : Bool) → ltb (length s) payload_length ≡ short
    → cond short (Err UnexpectedEnd) (leveled (level_of (power_byte_of s)) s) ≡ Ok (found p t) → Accepts s p t
sound_cases s p t true es e = absurd (refused_accepted e)
sound_cases s p t false es e = leveled_accepts s (level_of (power_byte_of s)) p t refl (ltb-false _ _ es) e

pub sound : (s : List ℕ) (p : Power) (t : Bool) → decoded s ≡ Ok (found p t) → Accepts s p t
unfolding decoded
sound s p t e = sound_cases s p t (ltb (length s) payload_length) refl e

-- The other way all tests compute.
complete_cases : (p : Power) (t : Bool) → cond (ltb (lengthWith t) payload_length) (Err UnexpectedEnd) (tagged (lengthWith t) p (tagWith t)) ≡ Ok (found p t)
unfolding tagged
complete_cases p true = refl
complete_cases p false = refl

pub complete : (s : List ℕ) (p : Power) (t : Bool) → Accepts s p t → decoded s ≡ Ok (found p t)
unfolding decoded
complete s p t a = rw (a.level, a.long, a.tag) (complete_cases p t)
