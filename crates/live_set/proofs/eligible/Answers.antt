-- `live_set::eligible` meets its contract: three tests, each of which rules the delegation out.
use mathlib.Core.Logic.{inl, inr}
use native.Mathlib.Omega.{arith}
use borrow.Author.Tests.{not-true, not-false}
use Rattle.live_set.proofs.Laws.Live.{out}
use Rattle.live_set.proofs.eligible.Goals as goal

pub returns : goal.returns
returns c =
    let a = c.args in
    let n = c.excludes_an_endpoint.ensures.no c.if-excludes_an_endpoint.false in
    record {
      yes = λ e. record {
        covered = omega (arith, c.if-exclude-eq0.false);
        issuer_out = out a.exclude a.issuer (λ p. n (inl p));
        subject_out = out a.exclude a.subject (λ p. n (inr p));
        audience_out = out a.revokers a.audience (c.revoked_by_audience.ensures.no (not-true c.revoked_by_audience.result e));
      };
      no = λ e f. let p = c.revoked_by_audience.ensures.yes (not-false c.revoked_by_audience.result e) in omega (arith, f.audience_out);
    }
