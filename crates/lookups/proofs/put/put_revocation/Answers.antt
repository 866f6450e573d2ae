use mathlib.Core.Path.{refl, sym}
use lib.ListN.{length}
use Rattle.runs.specs.Bytes.{run_at}
use Rattle.runs.proofs.ByteLaws.{length_run}
use Rattle.keyline.specs.Limits.{key_length, digest_length}
use Rattle.lookups.proofs.LookLaws.{first_small, second_small, both_fit}
use Rattle.lookups.proofs.put.put_revocation.Goals as goal

pub returns-then-issuer-lt-KEY_LENGTH : goal.returns-then-issuer-lt-KEY_LENGTH
returns-then-issuer-lt-KEY_LENGTH c =
    let k = c.args.keys.now in
    let x = c.args.column.now in
    record { answer = sym (first_small (run_at k c.args.by.0) (run_at x c.args.at.0) (length c.args.issuer.now) (length c.args.revoked.now) key_length digest_length (length_run k c.args.by.0 c.requires.issuer) (length_run x c.args.at.0 c.requires.revoked) c.if-issuer-lt-KEY_LENGTH.true); issuer = refl; revoked = refl }

pub returns-then-revoked-lt-DIGEST_LENGTH : goal.returns-then-revoked-lt-DIGEST_LENGTH
returns-then-revoked-lt-DIGEST_LENGTH c =
    let k = c.args.keys.now in
    let x = c.args.column.now in
    record { answer = sym (second_small (run_at k c.args.by.0) (run_at x c.args.at.0) (length c.args.issuer.now) (length c.args.revoked.now) key_length digest_length (length_run k c.args.by.0 c.requires.issuer) (length_run x c.args.at.0 c.requires.revoked) c.if-issuer-lt-KEY_LENGTH.false c.if-revoked-lt-DIGEST_LENGTH.true); issuer = refl; revoked = refl }

pub returns : goal.returns
returns c =
    let k = c.args.keys.now in
    let x = c.args.column.now in
    record { answer = sym (both_fit (run_at k c.args.by.0) (run_at x c.args.at.0) (length c.args.issuer.now) (length c.args.revoked.now) key_length digest_length (length_run k c.args.by.0 c.requires.issuer) (length_run x c.args.at.0 c.requires.revoked) c.if-issuer-lt-KEY_LENGTH.false c.if-revoked-lt-DIGEST_LENGTH.false); issuer = c.put_run.ensures; revoked = c.put_run-2.ensures }
