-- `Evaluation::positive_power` meets its contract: a subject's was found, and is none where its lowest word lacks the key; over another
-- key only the key itself stands.
use Prim.Native.Nat.{ℕ}
use mathlib.Core.Path.{sym, ap, ◌∙◌, subst}
use lib.ListN.{get_or}
use Rattle.keyset.specs.Word.{bit}
use Rattle.rules.specs.Rules.{PositiveIs}
use Rattle.rules.specs.Rows.{level_of}
use Rattle.search.proofs.Laws.Sets.{is_in, not_in}
use Rattle.coverage.specs.Places.{places}
use Rattle.evaluation.proofs.Laws.Ask.{alone_itself, alone_other, unreached}
use borrow.Author.Rules.{rules}
use Rattle.evaluation.proofs.Evaluation.positive_power.Goals as goal

-- the key is not in the subject's lowest word, so it stands nowhere over it
pub returns-then-not-has : goal.returns-then-not-has
returns-then-not-has c =
    let v = c.args.self.now in
    let s = c.args.subject.0 in
    let x = c.args.key.0 in
    let z = not_in (get_or v.reach s 0) x c.has-then-has.result c.has-then-has.ensures c.if-not-has.true in
    unreached c.requires.0 (is_in v.subjects s c.has.result c.has.ensures c.if-has.true)
    (ap (λ (w : ℕ). bit w x) (sym (c.requires.0.reach s c.requires.1)) ∙ z)

pub returns-then-has : goal.returns-then-has
returns-then-has c =
    subst (λ v. PositiveIs (places c.args.self.now.facts) c.args.subject.0 c.args.key.0 (level_of v)) (sym c.level.ensures)
    (c.requires.0.found.answer c.args.subject.0 c.args.key.0 (is_in c.args.self.now.subjects c.args.subject.0 c.has.result c.has.ensures c.if-has.true))

pub returns-then-key-s : goal.returns-then-key-s
returns-then-key-s c =
    alone_itself c.requires.0 (not_in c.args.self.now.subjects c.args.subject.0 c.has.result c.has.ensures c.if-has.false) (search rules)

pub returns-else-key-s : goal.returns-else-key-s
returns-else-key-s c =
    alone_other c.requires.0 (not_in c.args.self.now.subjects c.args.subject.0 c.has.result c.has.ensures c.if-has.false) (search rules)
