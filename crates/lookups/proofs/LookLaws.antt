-- Laws of lookups: the payload that a held delegation came as, and each case of an answer. Rests on the payload writer's laws.
use mir.Val.{bool_byte}
use Prim.Native.Nat.{ℕ, ◌+◌, ◌-◌, ◌*◌, ◌≤◌, ◌<◌}
use mathlib.Core.Path.{◌≡◌, refl, ap, ◌∙◌}
use mathlib.Core.Bool.{Bool, true, false, cond}
use mathlib.Core.Logic.{inl, inr}
use mathlib.Core.List.{[]}
use native.Mathlib.Omega.{arith}
use lib.ListN.{length, take, drop, length-append}
use borrow.Author.Tests.{lt-ltb, le-ltb, eq-eqb, ne_eqb}
use Rattle.std.specs.Prelude.{Ok}
use Rattle.lent.specs.Bytes.{front}
use Rattle.power_levels.specs.Power.{level_of, byte_of, at_rank}
use Rattle.codec.specs.Delegation.{encoded, encode_answer, after_encode, filled}
use Rattle.power_levels.specs.declared.power.Power.{Power}
use Rattle.keyline.specs.declared.refusal.Refusal.TheVariants.{SmallBuffer, BadLength}
use Rattle.power_levels.proofs.Levels.{level_byte}
use Rattle.codec.proofs.Writing.{writes}
use Rattle.places.specs.declared.DelegationPlace.{DelegationPlace}
use Rattle.runs.specs.Bytes.{Bytes, run_length, run_at}
use Rattle.runs.proofs.ByteLaws.{length_run, run_part}
use Rattle.keyline.specs.Limits.{key_length, digest_length, payload_length}
use Rattle.tables.specs.Committed.{payload_of}
use Rattle.tables.specs.Columns.{power_of}
use Rattle.tables.specs.Look.{RowFits, row_there}
use Rattle.tables.specs.declared.delegations.DelegationRow.{DelegationRow}
use Rattle.tables.proofs.PayloadLaws.{Cited}
use Rattle.lookups.specs.Lookup.{parts_answer, look_answer}
use Rattle.keyline.specs.declared.refusal.Refusal.{Refusal}
use Rattle.std.specs.Prelude.{Result, Ok, Err, Option, Some, None}

-- ---- a payload
encoded_long : (a s c : Bytes) (b : ℕ) → length a ≡ key_length → length s ≡ key_length → length (encoded a s b c) ≡ payload_length + length c
unfolding encoded
encoded_long a s c b ha hs = simp length-append (omega arith)

answer_fits : (a s c o : Bytes) (b : ℕ) (p : Power) → length a ≡ key_length → length s ≡ key_length → Cited c → level_of b ≡ Ok p → payload_length + length c ≤ length o
    → encode_answer a s b c o ≡ Ok (payload_length + length c)
answer_fits a s c o b p ha hs (inl h) hb r =
    writes (length a) (length s) b (length c) (length o) (payload_length + length c) p false
    (record { audience = ha; subject = hs; citation = h; level = hb; count = refl; fits = r })
answer_fits a s c o b p ha hs (inr h) hb r =
    writes (length a) (length s) b (length c) (length o) (payload_length + length c) p true
    (record { audience = ha; subject = hs; citation = h; level = hb; count = refl; fits = r })

write_fits : (a s c o : Bytes) (p : Power) → length a ≡ key_length → length s ≡ key_length → Cited c → length (encoded a s (byte_of p) c) ≤ length o
    → after_encode a s (byte_of p) c o ≡ front (encoded a s (byte_of p) c) o
unfolding after_encode
write_fits a s c o p ha hs hc r =
    let e = encoded_long a s c (byte_of p) ha hs in
    ap (λ w. filled w (encoded a s (byte_of p) c) o) (answer_fits a s c o (byte_of p) p ha hs hc (level_byte p) (omega arith))

-- the level of a rank, in the columns' words
pub rank_power : (r : ℕ) → at_rank r ≡ power_of r
unfolding at_rank power_of
rank_power r = refl

-- a citation, or nothing
pub cited_part : (t : Bytes) (i n : ℕ) (b : Bool) → n ≡ bool_byte b → take (run_length * i + run_length * n - run_length * i) (drop (run_length * i) t) ≡ cond b (run_at t i) []
cited_part t i n true e = rw e (run_part t i)
cited_part t i n false e = let z : run_length * i + run_length * n - run_length * i ≡ 0 = omega arith in rw z

pub cited_le : (b : Bool) (n : ℕ) → n ≡ bool_byte b → run_length * n ≤ run_length
cited_le true n e = omega arith
cited_le false n e = omega arith

module _ (k c : Bytes) (at : DelegationPlace) (row : DelegationRow) (f : RowFits k c at row) where
  citation_long : (b : Bool) (n : ℕ) → n ≡ bool_byte b → length (cond b (run_at c at.0) []) ≡ run_length * n
  citation_long true n e = length_run c at.0 f.citation ∙ (let z : run_length ≡ run_length * n = omega arith in z)
  citation_long false n e = let z : 0 ≡ run_length * n = omega arith in z

  citation_is : (b : Bool) → Cited (cond b (run_at c at.0) [])
  citation_is true = inr (length_run c at.0 f.citation)
  citation_is false = inl refl

  pub payload_long : (n : ℕ) → n ≡ bool_byte row.cited → length (payload_of (row_there k c at row)) ≡ payload_length + run_length * n
  payload_long n e =
      encoded_long (run_at k row.audience.0) (run_at k row.subject.0) (cond row.cited (run_at c at.0) []) (byte_of (power_of row.power))
      (length_run k row.audience.0 f.audience) (length_run k row.subject.0 f.subject)
      ∙ rw (citation_long row.cited n e)

  pub payload_put : (o a s ci : Bytes) (b : ℕ) → a ≡ run_at k row.audience.0 → s ≡ run_at k row.subject.0 → b ≡ byte_of (power_of row.power) → ci ≡ cond row.cited (run_at c at.0) []
      → length (payload_of (row_there k c at row)) ≤ length o → after_encode a s b ci o ≡ front (payload_of (row_there k c at row)) o
  payload_put o a s ci b p q r t h =
      rw (p, q, r, t) (write_fits (run_at k row.audience.0) (run_at k row.subject.0) (cond row.cited (run_at c at.0) []) o (power_of row.power)
      (length_run k row.audience.0 f.audience) (length_run k row.subject.0 f.subject) (citation_is row.cited) h)

-- ---- answers
module _ (x y : Bytes) (n m a b : ℕ) (e : length x ≡ a) (f : length y ≡ b) where
  pub first_small : n < a → parts_answer x y n m ≡ Err (SmallBuffer a)
  unfolding parts_answer
  first_small h = rw (e, lt-ltb _ _ h)

  pub second_small : a ≤ n → m < b → parts_answer x y n m ≡ Err (SmallBuffer b)
  unfolding parts_answer
  second_small h q = rw (e, le-ltb _ _ h, f, lt-ltb _ _ q)

  pub both_fit : a ≤ n → b ≤ m → parts_answer x y n m ≡ Ok (Some b)
  unfolding parts_answer
  both_fit h q = rw (e, le-ltb _ _ h, f, le-ltb _ _ q)

module _ (d : Bytes) (t : Result (Option ℕ) Refusal) where
  pub look_bad : (held : Bool) → (length d ≡ digest_length → ⊥) → look_answer held d t ≡ Err (BadLength (length d))
  unfolding look_answer
  look_bad held h = rw (ne_eqb _ _ h)

  pub look_absent : length d ≡ digest_length → look_answer false d t ≡ (Ok None)
  unfolding look_answer
  look_absent h = rw (eq-eqb _ _ h)

  pub look_there : length d ≡ digest_length → look_answer true d t ≡ t
  unfolding look_answer
  look_there h = rw (eq-eqb _ _ h)
