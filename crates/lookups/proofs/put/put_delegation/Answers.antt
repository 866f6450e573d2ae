-- Both fits are tested, and both parts written.
use Prim.Native.Nat.{◌+◌, ◌*◌}
use mathlib.Core.Path.{◌≡◌, refl, sym}
use native.Mathlib.Omega.{arith}
use lib.ListN.{length}
use Rattle.runs.specs.Bytes.{run_length, run_at}
use Rattle.runs.proofs.ByteLaws.{length_run}
use Rattle.keyline.specs.Limits.{key_length, payload_length}
use Rattle.tables.specs.Committed.{payload_of}
use Rattle.tables.specs.Look.{row_there}
use Rattle.lookups.proofs.LookLaws.{cited_le, payload_long, first_small, second_small, both_fit}
use Rattle.lookups.proofs.put.put_delegation.Goals as goal

pub returns-then-issuer-lt-KEY_LENGTH : goal.returns-then-issuer-lt-KEY_LENGTH
returns-then-issuer-lt-KEY_LENGTH c =
    let k = c.args.keys.now in
    let i = c.args.row.issuer.0 in
    record { answer = sym (first_small (run_at k i) (payload_of (row_there k c.args.citations.now c.args.at c.args.row)) (length c.args.issuer.now) (length c.args.payload.now) key_length _ (length_run k i c.requires.issuer) refl c.if-issuer-lt-KEY_LENGTH.true); issuer = refl; payload = refl }

pub overflow_add-n : goal.overflow_add-n
overflow_add-n c = let k = cited_le c.args.row.cited c.from.result c.from.ensures in omega arith

pub returns-then-payload-n : goal.returns-then-payload-n
returns-then-payload-n c =
    let k = c.args.keys.now in
    let i = c.args.row.issuer.0 in
    let p = payload_of (row_there k c.args.citations.now c.args.at c.args.row) in
    let l : length p ≡ payload_length + run_length * c.from.result = payload_long k c.args.citations.now c.args.at c.args.row c.requires c.from.result c.from.ensures in
    record { answer = sym (second_small (run_at k i) p (length c.args.issuer.now) (length c.args.payload.now) key_length _ (length_run k i c.requires.issuer) l c.if-issuer-lt-KEY_LENGTH.false c.if-payload-n.true); issuer = refl; payload = refl }

pub put_payload-requires : goal.put_payload-requires
put_payload-requires c =
    let k = c.args.keys.now in
    let l : length (payload_of (row_there k c.args.citations.now c.args.at c.args.row)) ≡ payload_length + run_length * c.from.result = payload_long k c.args.citations.now c.args.at c.args.row c.requires c.from.result c.from.ensures in
    let h = c.if-payload-n.false in
    (c.requires, omega arith)

pub returns : goal.returns
returns c =
    let k = c.args.keys.now in
    let i = c.args.row.issuer.0 in
    let p = payload_of (row_there k c.args.citations.now c.args.at c.args.row) in
    let l : length p ≡ payload_length + run_length * c.from.result = payload_long k c.args.citations.now c.args.at c.args.row c.requires c.from.result c.from.ensures in
    record { answer = sym (both_fit (run_at k i) p (length c.args.issuer.now) (length c.args.payload.now) key_length _ (length_run k i c.requires.issuer) l c.if-issuer-lt-KEY_LENGTH.false c.if-payload-n.false); issuer = c.put_run.ensures; payload = c.put_payload.ensures }
