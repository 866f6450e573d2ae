-- `sought::seek_pair` meets its contract: each test settles the case.
use mathlib.Core.Path.{◌≡◌, sym, ◌∙◌}
use mathlib.Core.Bool.{Bool, true, false, false≢true}
use lib.ListN.{length}
use Rattle.keyline.specs.Limits.{key_limit, key_length}
use Rattle.runs.specs.Bytes.{Bytes, eq_bytes, run_at}
use Rattle.runs.proofs.ByteLaws.{eq_true, eq_same, run_whole}
use Rattle.answers.specs.Sought as says
use Rattle.answers.proofs.Standing.{stands_there, stands_nowhere}
use Rattle.answers.proofs.sought.seek_pair.Goals as goal

-- what the comparison says
same_runs : (s x : Bytes) {t : Bool} → length s ≡ key_length → t ≡ eq_bytes (run_at s 0) x → t ≡ true → s ≡ x
same_runs s x l e h = sym (run_whole s l) ∙ eq_true (run_at s 0) x (sym e ∙ h)

other_runs : (s x : Bytes) {t : Bool} → length s ≡ key_length → t ≡ eq_bytes (run_at s 0) x → t ≡ false → ¬ (x ≡ s)
other_runs s x l e h p = false≢true (sym h ∙ (e ∙ eq_same (run_at s 0) x (run_whole s l ∙ sym p)))

pub returns-then-subject-ne-KEY_LENGTH : goal.returns-then-subject-ne-KEY_LENGTH
returns-then-subject-ne-KEY_LENGTH c = says.subject-length c.if-subject-ne-KEY_LENGTH.true

pub returns-then-audience-ne-KEY_LENGTH : goal.returns-then-audience-ne-KEY_LENGTH
returns-then-audience-ne-KEY_LENGTH c = says.audience-length c.if-subject-ne-KEY_LENGTH.false c.if-audience-ne-KEY_LENGTH.true

pub returns-then-same_at : goal.returns-then-same_at
returns-then-same_at c =
    let s = c.args in
    says.same c.if-subject-ne-KEY_LENGTH.false c.if-audience-ne-KEY_LENGTH.false (same_runs s.subject.now s.audience.now c.if-subject-ne-KEY_LENGTH.false c.same_at.ensures c.if-same_at.true)

pub returns-then-n-s : goal.returns-then-n-s
returns-then-n-s c =
    says.no_subject c.if-subject-ne-KEY_LENGTH.false c.if-audience-ne-KEY_LENGTH.false
    (other_runs c.args.subject.now c.args.audience.now c.if-subject-ne-KEY_LENGTH.false c.same_at.ensures c.if-same_at.false)
    (stands_nowhere key_limit c.args.table.now c.args.n c.requires c.args.subject.now c.find-s.result.0 c.find-s.ensures c.if-n-s.true)

pub returns-then-n-x : goal.returns-then-n-x
returns-then-n-x c =
    says.no_audience c.if-subject-ne-KEY_LENGTH.false c.if-audience-ne-KEY_LENGTH.false
    (other_runs c.args.subject.now c.args.audience.now c.if-subject-ne-KEY_LENGTH.false c.same_at.ensures c.if-same_at.false)
    (stands_nowhere key_limit c.args.table.now c.args.n c.requires c.args.audience.now c.find-x.result.0 c.find-x.ensures c.if-n-x.true)

pub returns : goal.returns
returns c =
    says.held c.if-subject-ne-KEY_LENGTH.false c.if-audience-ne-KEY_LENGTH.false
    c.if-n-s.false (stands_there key_limit c.args.table.now c.args.n c.requires c.args.subject.now c.find-s.result.0 c.find-s.ensures c.if-n-s.false)
    c.if-n-x.false (stands_there key_limit c.args.table.now c.args.n c.requires c.args.audience.now c.find-x.result.0 c.find-x.ensures c.if-n-x.false)
