-- What the marks of members and closures say. Internal: contracts of public calls speak of the lists.
use Rattle.std.specs.Prelude.{ℕ, pred, ◌<◌, ◌≡◌, Bool, true, false, cond, not, List, length, get_or, eqb, ltb}
use Rattle.keyset.specs.Word.{bit}
use Rattle.keyline.specs.Limits.{key_limit, delegation_limit, revocation_limit}
use Rattle.answers.specs.Answers.{letter_of}

-- a byte that says a level, of a key other than the subject
unfoldable pub isMember : ℕ → ℕ → ℕ → Bool
isMember byte x s = cond (eqb byte 0) false (not (eqb x s))

pub record MemberWord (row : List ℕ) (n s w : ℕ) : Type 0 where
  pub has : (x : ℕ) → x < n → isMember (get_or row x 0) x s ≡ true → bit w x ≡ 1
  pub only : (x : ℕ) → bit w x ≡ 1 → (x < n) × (isMember (get_or row x 0) x s ≡ true)

-- the first n of `limit` marks are P
pub record Marks (limit n : ℕ) (P : ℕ → Bool) (on : List Bool) : Type 0 where
  pub long : length on ≡ limit
  pub are : (x : ℕ) → x < n → get_or on x false ≡ P x

abbrev pub MemberMarks : List ℕ → ℕ → ℕ → List Bool → Type 0
MemberMarks row n s on = Marks key_limit n (λ x. isMember (get_or row x 0) x s) on

-- the letter of the level that a byte says; that of Relay where it says none
abbrev pub letter_at : ℕ → ℕ
letter_at byte = letter_of (pred byte)

pub record Letters (row out : List ℕ) : Type 0 where
  pub long : length out ≡ key_limit
  pub are : (x : ℕ) → x < key_limit → get_or out x 0 ≡ letter_at (get_or row x 0)

abbrev pub InNodes : List ℕ → ℕ → ℕ → List Bool → Type 0
InNodes subject n nodes on = Marks delegation_limit n (λ d. eqb (bit nodes (get_or subject d 0)) 1) on

abbrev pub Naming : List ℕ → ℕ → List Bool → ℕ → List Bool → Type 0
Naming target m on n marks = Marks revocation_limit m (λ j. cond (ltb (get_or target j 0) n) (get_or on (get_or target j 0) false) false) marks
