-- `members` meets its contract: what was sought settles the case, the marked keys are the members, and the ones are their number.
use mathlib.Core.Path.{sym, ap, ◌∙◌}
use native.Mathlib.Omega.{arith}
use Rattle.keyset.specs.Word.{width}
use Rattle.lent.specs.Bytes.{front}
use Rattle.runs.specs.Bytes.{joined}
use Rattle.store.specs.Store.{committed}
use Rattle.answers.specs.Answers as says
use Rattle.answers.specs.Answers.{MembersAnswer}
use Rattle.answers.proofs.Members.{no_members}
use Rattle.keyline.proofs.HandedOn.{handed_on}
use Rattle.answers.proofs.Seeking.{key_refused, key_unheld, key_at}
use Rattle.answers.proofs.Counting.{size_le}
use Rattle.answers.proofs.MembersAnswered.{listable, valued, keys_small, powers_small, members_answered}
use Rattle.gathered.proofs.members.members.Goals as goal
use Rattle.std.specs.Prelude.{Ok, Err}

pub slice_bounds-seek_key-end : goal.slice_bounds-seek_key-end
slice_bounds-seek_key-end c = sym c.requires.store.keys.long

pub levels-row-requires : goal.levels-row-requires
levels-row-requires c =
    let s = c.args in
    let g = c.requires in
    let a = key_at c.seek_key.ensures (c.in_ok-seek_key.was ∙ ap Ok c.in-Some.is) in
    let h = a.within in
    let r = g.store.keys.room in
    (g.evaluation, omega arith)

pub slice_bounds-choose-end : goal.slice_bounds-choose-end
slice_bounds-choose-end c = sym c.requires.store.keys.long

pub member_word-requires : goal.member_word-requires
member_word-requires c =
    let g = c.requires in
    let r = g.store.keys.room in
    (omega arith, omega arith)

pub overflow_mul-need : goal.overflow_mul-need
overflow_mul-need c =
    let n = size_le width c.member_word.result in
    let e = c.count-k.ensures in
    record { fits = omega arith }

pub returns-then-keys-need : goal.returns-then-keys-need
returns-then-keys-need c =
    let s = c.args in
    let g = c.requires in
    let a = key_at c.seek_key.ensures (c.in_ok-seek_key.was ∙ ap Ok c.in-Some.is) in
    keys_small s.store.now g.store s.evaluation.now.facts g.facts g.evaluation.grades.caps c.in-Some.s.0 a.within
    c.levels-row.result c.levels-row.ensures c.member_marks-on.result c.member_marks-on.ensures c.member_word.result c.member_word.ensures
    c.choose-c.result c.choose-c.ensures c.count-k.result c.count-k.ensures a.long a.is (omega arith)

pub returns-then-powers-k : goal.returns-then-powers-k
returns-then-powers-k c =
    let s = c.args in
    let g = c.requires in
    let a = key_at c.seek_key.ensures (c.in_ok-seek_key.was ∙ ap Ok c.in-Some.is) in
    powers_small s.store.now g.store s.evaluation.now.facts g.facts g.evaluation.grades.caps c.in-Some.s.0 a.within
    c.levels-row.result c.levels-row.ensures c.member_marks-on.result c.member_marks-on.ensures c.member_word.result c.member_word.ensures
    c.choose-c.result c.choose-c.ensures c.count-k.result c.count-k.ensures a.long a.is (omega arith) (omega arith)

pub slice_bounds-put_runs-end : goal.slice_bounds-put_runs-end
slice_bounds-put_runs-end c = sym c.requires.store.keys.long

pub put_runs-requires : goal.put_runs-requires
put_runs-requires c =
    let s = c.args in
    let g = c.requires in
    let a = key_at c.seek_key.ensures (c.in_ok-seek_key.was ∙ ap Ok c.in-Some.is) in
    listable s.store.now g.store s.evaluation.now.facts g.facts g.evaluation.grades.caps c.in-Some.s.0 a.within
    c.levels-row.result c.levels-row.ensures c.member_marks-on.result c.member_marks-on.ensures c.member_word.result c.member_word.ensures
    c.choose-c.result c.choose-c.ensures c.count-k.result c.count-k.ensures s.keys.now (omega arith)

pub put_values-requires : goal.put_values-requires
put_values-requires c =
    let s = c.args in
    let g = c.requires in
    let a = key_at c.seek_key.ensures (c.in_ok-seek_key.was ∙ ap Ok c.in-Some.is) in
    valued s.store.now g.store s.evaluation.now.facts g.facts g.evaluation.grades.caps c.in-Some.s.0 a.within
    c.levels-row.result c.levels-row.ensures c.member_marks-on.result c.member_marks-on.ensures c.member_word.result c.member_word.ensures
    c.choose-c.result c.choose-c.ensures c.count-k.result c.count-k.ensures c.letters-letters.result c.letters-letters.ensures s.powers.now (omega arith)

pub returns-in_err-seek_key : goal.returns-in_err-seek_key
returns-in_err-seek_key c =
    let s = c.args in
    rw (handed_on c.from_residual.result c.in_err-seek_key.field-0.0 c.from_residual.ensures.1)
    (key_refused (λ w. MembersAnswer (committed s.store.now) s.subject.now s.keys.now s.powers.now (Err w) s.keys.now s.powers.now) (λ h. says.subject-length h) c.seek_key.ensures c.in_err-seek_key.was)

pub returns-in-None : goal.returns-in-None
unfolding front joined
returns-in-None c =
    let s = c.args in
    let g = c.requires in
    let a = key_unheld c.seek_key.ensures (c.in_ok-seek_key.was ∙ ap Ok c.in-None.is) in
    says.answered a.long (no_members s.store.now g.store s.evaluation.now.facts g.facts g.evaluation.grades.caps s.subject.now a.absent) (omega arith) (omega arith)

pub returns-else-powers-k : goal.returns-else-powers-k
returns-else-powers-k c =
    let s = c.args in
    let g = c.requires in
    let a = key_at c.seek_key.ensures (c.in_ok-seek_key.was ∙ ap Ok c.in-Some.is) in
    members_answered s.store.now g.store s.evaluation.now.facts g.facts g.evaluation.grades.caps c.in-Some.s.0 a.within
    c.levels-row.result c.levels-row.ensures c.member_marks-on.result c.member_marks-on.ensures c.member_word.result c.member_word.ensures
    c.choose-c.result c.choose-c.ensures c.count-k.result c.count-k.ensures a.long a.is c.letters-letters.result c.letters-letters.ensures (omega arith) (omega arith) c.put_runs.ensures c.put_values.ensures
