-- What is committed, read at places, and that the checks see in the tables what they see in what is committed. Rests on the laws of runs.
use Prim.Native.Nat.{ℕ, ◌+◌, ◌*◌, ◌≤◌, ◌<◌}
use mathlib.Core.Path.{◌≡◌, sym, ◌∙◌}
use mathlib.Core.List.{List}
use native.Mathlib.Omega.{arith}
use lib.ListN.{length, get_or}
use lib.Dec.{ltb}
use Rattle.places.specs.declared.KeyPlace.{KeyPlace}
use Rattle.places.specs.declared.DelegationPlace.{DelegationPlace}
use Rattle.places.specs.declared.RevocationPlace.{RevocationPlace}
use Rattle.runs.specs.Bytes.{Bytes, run_length}
use Rattle.runs.specs.Members.{place, has, SameRuns, Distinct}
use Rattle.runs.specs.Table.{runs}
use Rattle.runs.proofs.PartLaws.{tabulate_long, tabulate_at, tabulate_map}
use Rattle.runs.proofs.FreshLaws.{fresh_same, count_same, all_has}
use Rattle.runs.proofs.TableLaws.{has_place, run_fits}
use Rattle.keyline.specs.Limits.{key_limit, delegation_limit, revocation_limit}
use Rattle.tables.specs.Committed.{Committed, no_delegation, no_revocation, delegation_digests, revocation_digests, delegation_with, revocation_with, keys_in, keys, length_of}
use Rattle.tables.specs.Insertion.{keys_answer}
use Rattle.tables.specs.Columns.{row_at, delegation_at, revocation_at}
use Rattle.tables.specs.Look.{RowFits, RevocationFits}
use Rattle.store.specs.Store.{committed, GoodStore}
use Rattle.store.specs.Parts.{holds}
use Rattle.store.specs.declared.Store.{Store}

-- ---- what stands at a place
module _ (s : Store) where
  pub delegations_long : length (committed s).delegations ≡ s.delegations.count
  unfolding holds
  delegations_long = tabulate_long (delegation_at s.keys.table s.delegations) s.delegations.count

  pub revocations_long : length (committed s).revocations ≡ s.revocations.count
  unfolding holds
  revocations_long = tabulate_long (revocation_at s.keys.table s.revocations) s.revocations.count

  pub length_is : length_of (committed s) ≡ s.delegations.count + s.revocations.count
  length_is = let a = delegations_long in let b = revocations_long in omega arith

  pub delegation_at_lem : (i : ℕ) → i < s.delegations.count → get_or (committed s).delegations i no_delegation ≡ delegation_at s.keys.table s.delegations i
  unfolding holds
  delegation_at_lem i h = tabulate_at (delegation_at s.keys.table s.delegations) s.delegations.count no_delegation i h

  pub revocation_at_lem : (i : ℕ) → i < s.revocations.count → get_or (committed s).revocations i no_revocation ≡ revocation_at s.keys.table s.revocations i
  unfolding holds
  revocation_at_lem i h = tabulate_at (revocation_at s.keys.table s.revocations) s.revocations.count no_revocation i h

  pub delegation_digests_lem : delegation_digests (committed s) ≡ runs s.delegations.digests s.delegations.count
  unfolding holds
  delegation_digests_lem = tabulate_map (λ g. g.digest) (delegation_at s.keys.table s.delegations) s.delegations.count

  pub revocation_digests_lem : revocation_digests (committed s) ≡ runs s.revocations.digests s.revocations.count
  unfolding holds
  revocation_digests_lem = tabulate_map (λ r. r.digest) (revocation_at s.keys.table s.revocations) s.revocations.count

-- ---- the held keys, as a table has them and as they are committed
pub keys_same : (l : List Bytes) (c : Committed) (ks : List Bytes) → Distinct l → SameRuns l (keys_in c) → keys_answer l ks ≡ keys_answer (keys c) ks
unfolding keys_answer
keys_same l c ks d f =
    rw (count_same l (keys_in c) d f, fresh_same l (keys c) ks (λ k. f k ∙ sym (all_has (keys_in c) k)))

-- ---- what a search finds is the one with that digest
module _ (s : Store) (g : GoodStore s) (d : Bytes) where
  pub delegation_found : (i : ℕ) → i ≡ place (runs s.delegations.digests s.delegations.count) d → ltb i s.delegations.count ≡ has (delegation_digests (committed s)) d
  delegation_found i e = rw (e, delegation_digests_lem s) (has_place delegation_limit s.delegations.digests s.delegations.count g.delegations.digests d)

  pub delegation_is : (i : ℕ) → i ≡ place (runs s.delegations.digests s.delegations.count) d → i < s.delegations.count
      → delegation_with (committed s) d ≡ delegation_at s.keys.table s.delegations i
  delegation_is i e h = rw (delegation_digests_lem s, ← e) (delegation_at_lem s i h)

  pub revocation_found : (i : ℕ) → i ≡ place (runs s.revocations.digests s.revocations.count) d → ltb i s.revocations.count ≡ has (revocation_digests (committed s)) d
  revocation_found i e = rw (e, revocation_digests_lem s) (has_place revocation_limit s.revocations.digests s.revocations.count g.revocations.digests d)

  pub revocation_is : (i : ℕ) → i ≡ place (runs s.revocations.digests s.revocations.count) d → i < s.revocations.count
      → revocation_with (committed s) d ≡ revocation_at s.keys.table s.revocations i
  revocation_is i e h = rw (revocation_digests_lem s, ← e) (revocation_at_lem s i h)

-- ---- what stands at a held place fits
module _ (s : Store) (g : GoodStore s) where
  key_fits : (i : ℕ) → i < s.keys.count → run_length * i + run_length ≤ length s.keys.table
  key_fits i h = run_fits key_limit s.keys.table s.keys.count g.keys i h

  pub row_fits : (at : DelegationPlace) → at.0 < s.delegations.count → RowFits s.keys.table s.delegations.citation at (row_at s.delegations at.0)
  row_fits at h =
      let a = g.delegations in
      let r = a.digests.room in
      let l = a.citation in
      record {
        issuer = key_fits _ (a.issuer.held at.0 h);
        audience = key_fits _ (a.audience.held at.0 h);
        subject = key_fits _ (a.subject.held at.0 h);
        power = a.power.narrow at.0;
        citation = omega arith;
      }

  pub revocation_fits : (at : RevocationPlace) (by : KeyPlace) → by.0 ≡ get_or s.revocations.issuer at.0 0 → at.0 < s.revocations.count → RevocationFits s.keys.table s.revocations.revoked at by
  revocation_fits at by e h =
      let a = g.revocations in
      let r = a.digests.room in
      let l = a.revoked in
      record { issuer = rw e (key_fits _ (a.issuer.held at.0 h)); revoked = omega arith }
