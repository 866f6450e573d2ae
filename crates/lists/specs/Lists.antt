-- The lists of document 01, "Queries", over what is committed: "Digest lists of both kinds hold delegations ascending, then revocations
-- ascending, with a count for each kind. Other lists ascend." And what a buffer holds then. That each is the ascending list of what it
-- should list, and the only one, is proved in proofs/AreLists. Rests on Committed.
use Rattle.std.specs.Prelude.{ℕ, ◌+◌, ◌*◌, ◌≡◌, Bool, true, false, cond, length, eqb, ltb, Result, Ok, Err}
use mathlib.Core.List.{List, [], ◌∷◌, ◌++◌, map, Memᴰ}
use Rattle.lent.specs.Bytes.{front}
use Rattle.keyline.specs.declared.refusal.Refusal.TheVariants.{SmallBuffer, BadLength}
use Rattle.runs.specs.Bytes.{Bytes, run_length, eq_bytes, joined}
use Rattle.runs.specs.Sorted.{sorted}
use Rattle.keyline.specs.Limits.{key_length}
use Rattle.tables.specs.Committed.{Delegation, Revocation, Committed}
use Rattle.keyline.specs.declared.refusal.Refusal.{Refusal}
use Rattle.lists.specs.declared.write.Counts.{Counts}

-- those of l that p holds of
unfoldable pub filtered : {A : Type 0} → (A → Bool) → List A → List A
filtered p [] = []
filtered p (a ∷ l) = cond (p a) (a ∷ filtered p l) (filtered p l)

-- v of those of l that p holds of, ascending, each once
abbrev pub listing : {A : Type 0} → (A → Bytes) → (A → Bool) → List A → List Bytes
listing v p l = sorted (map v (filtered p l))

abbrev pub all : {A : Type 0} → A → Bool
all a = true

-- ---- the lists
-- "the list of all certificates"
abbrev pub certificate_delegations : Committed → List Bytes
certificate_delegations c = listing (λ g. g.digest) all c.delegations

abbrev pub certificate_revocations : Committed → List Bytes
certificate_revocations c = listing (λ r. r.digest) all c.revocations

-- "`subjects` (those of held delegations)"
abbrev pub subjects_of : Committed → List Bytes
subjects_of c = listing (λ g. g.subject) all c.delegations

-- "`revocations_of` (digests of the held revocations that name the given delegation digest)"
abbrev pub names : Bytes → Revocation → Bool
names x r = eq_bytes r.revoked x

abbrev pub revocations_of : Committed → Bytes → List Bytes
revocations_of c x = listing (λ r. r.digest) (names x) c.revocations

-- "`delegations_to` (digests of the held delegations with that subject and audience)"
abbrev pub from_to : Bytes → Bytes → Delegation → Bool
from_to s a g = cond (eq_bytes g.subject s) (eq_bytes g.audience a) false

abbrev pub delegations_to : Committed → Bytes → Bytes → List Bytes
delegations_to c s a = listing (λ g. g.digest) (from_to s a) c.delegations

-- ---- in a buffer of n bytes: "a list or payload does not fit", and beside it the bytes needed
unfoldable pub list_answer : List Bytes → ℕ → Result ℕ Refusal
list_answer l n = cond (ltb n (run_length * length l)) (Err (SmallBuffer (run_length * length l))) (Ok (length l))

-- "A list that fits fills exactly its length from the front; later bytes stay."
abbrev pub list_buffer : Result ℕ Refusal → List Bytes → Bytes → Bytes
list_buffer (Ok n) l out = front (joined l) out
list_buffer (Err r) l out = out

-- "Argument lengths (1) come before 9."
unfoldable pub length_first : Bytes → Result ℕ Refusal → Result ℕ Refusal
length_first k a = cond (eqb (length k) key_length) a (Err (BadLength (length k)))

-- two lists, one behind the other
unfoldable pub both_answer : List Bytes → List Bytes → ℕ → Result Counts Refusal
both_answer l m n =
    cond (ltb n (run_length * length l + run_length * length m)) (Err (SmallBuffer (run_length * length l + run_length * length m)))
    (Ok (record { delegations = length l; revocations = length m }))

abbrev pub both_buffer : Result Counts Refusal → List Bytes → List Bytes → Bytes → Bytes
both_buffer (Ok n) l m out = front (joined l ++ joined m) out
both_buffer (Err r) l m out = out

-- ---- what a list's items are: x is v of an element of l that p holds of
pub record Item {A : Type 0} (v : A → Bytes) (p : A → Bool) (l : List A) (x : Bytes) : Type 0 where
  pub one : A
  pub held : Memᴰ one l
  pub fits : p one ≡ true
  pub is : v one ≡ x
