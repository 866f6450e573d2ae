-- The two round trips, in the words of the contracts of `encode`, `decode` and `citation`. Rests on Parts and Writing.
use Prim.Native.Nat.{ℕ, ◌+◌, ◌≤◌}
use mathlib.Core.Path.{◌≡◌, refl, sym, ap, subst, ◌∙◌}
use mathlib.Core.Bool.{Bool}
use mathlib.Core.List.{List}
use lib.ListN.{length, take, drop}
use Rattle.std.specs.Prelude.{Ok}
use Rattle.keyline.specs.Limits.{payload_length}
use Rattle.lent.specs.Bytes.{front}
use Rattle.power_levels.specs.Power.{level_of, byte_of}
use Rattle.codec.specs.Delegation.{found, audience_of, subject_of, decoded, citation_of, encoded, encode_answer, after_encode}
use Rattle.power_levels.specs.declared.power.Power.{Power}
use Rattle.power_levels.proofs.Levels.{level_byte}
use Rattle.lent.proofs.Fronts.{take_front, drop_front}
use Rattle.codec.proofs.Reading.{length_sum, sound}
use Rattle.codec.proofs.Writing.{written, writes, after_written}
use Rattle.codec.proofs.Parts.{HasParts, has_parts, parts}

-- What was written reads back: the n bytes at the front are an accepted payload with the audience, subject, power byte and citation that the
-- writer was handed, and the bytes behind them are as they were.
pub record ReadsBack (audience subject : List ℕ) (power : ℕ) (citation out : List ℕ) (n : ℕ) : Type 0 where
  pub level : Power
  pub cited : Bool
  pub power_says : level_of power ≡ Ok level
  pub payload : HasParts (take n (after_encode audience subject power citation out)) audience subject power citation level cited
  pub later_bytes : drop n (after_encode audience subject power citation out) ≡ drop n out

pub reads_back : (a s c out : List ℕ) (b n : ℕ) → encode_answer a s b c out ≡ Ok n → ReadsBack a s b c out n
reads_back a s c out b n e =
    let w = written (length a) (length s) b (length c) (length out) n e in
    let k = w.writes in
    let has = has_parts a s b c w.power w.cited (record { audience_long = k.audience; subject_long = k.subject; citation_long = k.citation }) k.level in
    let long : length (encoded a s b c) ≡ n = has.long ∙ length_sum w.cited ∙ ap (λ m. payload_length + m) (sym k.citation) ∙ sym k.count in
    let after : after_encode a s b c out ≡ front (encoded a s b c) out = after_written a s c out b n refl e in
    let same : encoded a s b c ≡ take n (after_encode a s b c out) = rw (after, ← long) (sym (take_front (encoded a s b c) out)) in
    record {
      level = w.power;
      cited = w.cited;
      power_says = k.level;
      payload = subst (λ l. HasParts l a s b c w.power w.cited) same has;
      later_bytes = rw (after, ← long) (drop_front (encoded a s b c) out);
    }

-- An accepted payload writes back to the same bytes, wherever there is room for it.
pub record WritesBack (payload : List ℕ) (p : Power) (out : List ℕ) : Type 0 where
  pub count : encode_answer (audience_of payload) (subject_of payload) (byte_of p) (citation_of payload) out ≡ Ok (length payload)
  pub bytes : after_encode (audience_of payload) (subject_of payload) (byte_of p) (citation_of payload) out ≡ front payload out

pub writes_back : (payload : List ℕ) (p : Power) (t : Bool) (out : List ℕ) → decoded payload ≡ Ok (found p t) → length payload ≤ length out → WritesBack payload p out
writes_back payload p t out e h =
    let a = audience_of payload in
    let s = subject_of payload in
    let c = citation_of payload in
    let k = parts payload p t e in
    let n : length payload ≡ payload_length + length c = (sound payload p t e).long ∙ length_sum t ∙ ap (λ m. payload_length + m) (sym k.lengths.citation_long) in
    let answered : encode_answer a s (byte_of p) c out ≡ Ok (length payload) =
    writes (length a) (length s) (byte_of p) (length c) (length out) (length payload) p t
    (record { audience = k.lengths.audience_long; subject = k.lengths.subject_long; citation = k.lengths.citation_long; level = level_byte p; count = n; fits = h }) in
    record { count = answered; bytes = after_written a s c out (byte_of p) (length payload) refl answered ∙ ap (λ w. front w out) k.whole }
