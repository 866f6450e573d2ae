-- Each list is the ascending list of what document 01 says, sound and complete, and the only one. Rests on the sorted lists of `runs` and
-- on `rules`, where two ascending lists of the same things are one.
use mathlib.Core.Path.{◌≡◌}
use mathlib.Core.Bool.{Bool}
use mathlib.Core.List.{List, map}
use Rattle.rules.specs.Rules.{Lists}
use Rattle.rules.proofs.Evaluation.Listing.{lists_same}
use Rattle.runs.specs.Bytes.{Bytes, Less}
use Rattle.runs.proofs.AscentLaws.{lt_not_both, sorted_lists}
use Rattle.tables.specs.Committed.{Committed}
use Rattle.lists.specs.Lists.{filtered, listing, all, names, from_to, certificate_delegations, certificate_revocations, subjects_of, revocations_of, delegations_to, Item}
use Rattle.lists.proofs.FilterLaws.{item_has, has_item}

module _ {A : Type 0} (v : A → Bytes) (p : A → Bool) (l : List A) where
  pub is_list : Lists Less (Item v p l) (listing v p l)
  is_list =
      let s = sorted_lists (map v (filtered p l)) in
      record { ascending = s.ascending; sound = λ x m. has_item v p l x (s.sound x m); complete = λ x i. s.complete x (item_has v p l x i) }

  -- whatever else is ascending, sound and complete is that list
  pub only_list : (xs : List Bytes) → Lists Less (Item v p l) xs → xs ≡ listing v p l
  only_list xs q = lists_same lt_not_both (λ x i. i) (λ x i. i) q is_list

-- ---- the digests of all held delegations, and of all held revocations
pub certificates_delegations : (c : Committed) → Lists Less (Item (λ g. g.digest) all c.delegations) (certificate_delegations c)
certificates_delegations c = is_list (λ g. g.digest) all c.delegations

pub certificates_revocations : (c : Committed) → Lists Less (Item (λ r. r.digest) all c.revocations) (certificate_revocations c)
certificates_revocations c = is_list (λ r. r.digest) all c.revocations

-- the subjects of held delegations
pub subjects_list : (c : Committed) → Lists Less (Item (λ g. g.subject) all c.delegations) (subjects_of c)
subjects_list c = is_list (λ g. g.subject) all c.delegations

-- the digests of the held revocations that name x, held or not
pub revocations_list : (c : Committed) (x : Bytes) → Lists Less (Item (λ r. r.digest) (names x) c.revocations) (revocations_of c x)
revocations_list c x = is_list (λ r. r.digest) (names x) c.revocations

-- the digests of the held delegations with the subject s and the audience a
pub delegations_list : (c : Committed) (s a : Bytes) → Lists Less (Item (λ g. g.digest) (from_to s a) c.delegations) (delegations_to c s a)
delegations_list c s a = is_list (λ g. g.digest) (from_to s a) c.delegations
