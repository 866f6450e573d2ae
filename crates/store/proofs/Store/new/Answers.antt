-- Every table is empty, and every column is zeros.
use Prim.Native.Nat.{ℕ}
use mathlib.Core.Path.{refl}
use native.Mathlib.Omega.{arith}
use lib.ListN.{replicate, length-replicate}
use Rattle.places.proofs.Repeated.{repeated}
use Rattle.runs.specs.Table.{tabulate}
use Rattle.runs.specs.Members.{has}
use Rattle.runs.proofs.TableLaws.{none_good}
use Rattle.keyline.specs.Limits.{key_limit, delegation_limit, revocation_limit}
use Rattle.tables.specs.Committed.{keys_of, keys_in}
use Rattle.tables.specs.Columns.{Places, Ranks}
use Rattle.store.specs.Store.{committed}
use Rattle.store.specs.Parts.{holds}
use Rattle.store.proofs.Store.new.Goals as goal

no_places : (limit m : ℕ) → Places limit 0 m (replicate limit 0)
no_places limit m = record { long = length-replicate limit 0; narrow = λ i. rw (repeated {A = ℕ} limit i 0) (omega arith); held = λ i h. absurd (omega (arith, h)) }

no_ranks : (limit : ℕ) → Ranks limit (replicate limit 0)
no_ranks limit = record { long = length-replicate limit 0; narrow = λ i. rw (repeated {A = ℕ} limit i 0) (omega arith) }

pub invariant_of-result : goal.invariant_of-result
unfolding holds tabulate keys_in keys_of has
invariant_of-result c =
    record {
      good = record {
        keys = none_good key_limit _ refl;
        exact = λ k. refl;
        delegations = record {
          digests = none_good delegation_limit _ refl;
          issuer = no_places delegation_limit 0;
          audience = no_places delegation_limit 0;
          subject = no_places delegation_limit 0;
          power = no_ranks delegation_limit;
          cited = refl;
          citation = refl;
        };
        revocations = record { digests = none_good revocation_limit _ refl; issuer = no_places revocation_limit 0; revoked = refl };
        version = refl;
      };
    }

pub returns : goal.returns
unfolding holds tabulate
returns c = refl
