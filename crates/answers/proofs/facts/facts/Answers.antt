-- `facts::facts` meets its contract: the columns are the tables' own, and those of a store fit.
use mathlib.Core.Path.{refl}
use native.Mathlib.Omega.{arith}
use Rattle.store.specs.declared.Store.{Store}
use Rattle.coverage.specs.Fits.{Fits}
use Rattle.answers.proofs.facts.facts.Goals as goal

-- the columns of a store fit
fits : (s : Store)
    → Fits s.delegations.issuer s.delegations.audience s.delegations.subject s.delegations.power s.delegations.count s.revocations.issuer s.revocations.count
fits s =
    let g = s.good in record {
      delegations_le = g.delegations.digests.room;
      revocations_le = g.revocations.digests.room;
      issuer_lt = g.delegations.issuer.narrow;
      audience_lt = g.delegations.audience.narrow;
      subject_lt = g.delegations.subject.narrow;
      power_le = λ d. omega (arith, g.delegations.power.narrow d);
      revoker_lt = g.revocations.issuer.narrow;
    }

pub invariant_of-result : goal.invariant_of-result
invariant_of-result c = record { fit = fits c.args.store.now }

pub returns : goal.returns
returns c = (
  fits c.args.store.now,
  record {
    issuer = refl;
    audience = refl;
    subject = refl;
    power = refl;
    delegations = refl;
    revoker = refl;
    revocations = refl;
    target_long = c.targets.ensures.0;
    target = c.targets.ensures.1;
  },
)
