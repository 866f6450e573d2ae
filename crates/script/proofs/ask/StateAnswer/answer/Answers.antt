-- Each question is the call that it names.
use Rattle.script.specs.Run as run
use Rattle.script.proofs.ask.StateAnswer.answer.Goals as goal

pub returns-in-Version : goal.returns-in-Version
returns-in-Version c = rw (c.in-Version.is, c.valued.ensures, c.version.ensures) run.version

pub returns-in-Len : goal.returns-in-Len
returns-in-Len c = rw (c.in-Len.is, c.valued-in-Len.ensures, c.len.ensures) run.len

pub returns-in-IsEmpty : goal.returns-in-IsEmpty
returns-in-IsEmpty c = rw (c.in-IsEmpty.is, c.flagged.ensures, c.is_empty.ensures) run.is_empty

pub returns-in-ContainsDelegation : goal.returns-in-ContainsDelegation
returns-in-ContainsDelegation c = rw (c.in-ContainsDelegation.is, c.from.ensures.0, c.contains_delegation.ensures) run.contains_delegation

pub returns-in-ContainsRevocation : goal.returns-in-ContainsRevocation
returns-in-ContainsRevocation c = rw (c.in-ContainsRevocation.is, c.from-in-ContainsRevocation.ensures.0, c.contains_revocation.ensures) run.contains_revocation

pub returns-in-Delegation : goal.returns-in-Delegation
returns-in-Delegation c = let e = c.delegation.ensures in rw (c.in-Delegation.is, c.from-in-Delegation.ensures, e.issuer, e.payload) (run.delegation e.answer)

pub returns-in-Revocation : goal.returns-in-Revocation
returns-in-Revocation c = let e = c.revocation.ensures in rw (c.in-Revocation.is, c.from-in-Revocation.ensures, e.issuer, e.revoked) (run.revocation e.answer)

pub returns-in-Subjects : goal.returns-in-Subjects
returns-in-Subjects c = let e = c.subjects.ensures in rw (c.in-Subjects.is, c.from-in-Subjects.ensures, e.out) (run.subjects e.answer)

pub returns-in-RevocationsOf : goal.returns-in-RevocationsOf
returns-in-RevocationsOf c = let e = c.revocations_of.ensures in rw (c.in-RevocationsOf.is, c.from-in-RevocationsOf.ensures, e.out) (run.lists_revocations e.answer)

pub returns-in-DelegationsTo : goal.returns-in-DelegationsTo
returns-in-DelegationsTo c = let e = c.delegations_to.ensures in rw (c.in-DelegationsTo.is, c.from-in-DelegationsTo.ensures, e.out) (run.lists_delegations e.answer)

pub returns-in-Certificates : goal.returns-in-Certificates
returns-in-Certificates c = let e = c.certificates.ensures in rw (c.in-Certificates.is, c.from-in-Certificates.ensures, e.out) (run.certificates e.answer)
