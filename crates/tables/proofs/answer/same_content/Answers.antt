-- The first part that differs settles it.
use mathlib.Core.Path.{sym, ◌∙◌}
use borrow.Author.Tests.{eq-eqb, ne_eqb}
use Rattle.runs.proofs.ByteLaws.{eq_nil}
use Rattle.tables.specs.Committed.{same_parts}
use Rattle.tables.proofs.ContentLaws.{rank_power}
use Rattle.tables.proofs.answer.same_content.Goals as goal

pub returns-then-not-same_at : goal.returns-then-not-same_at
unfolding same_parts
returns-then-not-same_at c = rw (sym c.same_at.ensures ∙ c.if-not-same_at.true)

pub returns-then-not-same_at-2 : goal.returns-then-not-same_at-2
unfolding same_parts
returns-then-not-same_at-2 c = rw (sym c.same_at.ensures ∙ c.if-not-same_at.false, sym c.same_at-2.ensures ∙ c.if-not-same_at-2.true)

pub returns-then-not-same_at-3 : goal.returns-then-not-same_at-3
unfolding same_parts
returns-then-not-same_at-3 c =
    rw (sym c.same_at.ensures ∙ c.if-not-same_at.false, sym c.same_at-2.ensures ∙ c.if-not-same_at-2.false, sym c.same_at-3.ensures ∙ c.if-not-same_at-3.true)

pub returns-then-row-rank : goal.returns-then-row-rank
unfolding same_parts
returns-then-row-rank c =
    rw (
      sym c.same_at.ensures ∙ c.if-not-same_at.false,
      sym c.same_at-2.ensures ∙ c.if-not-same_at-2.false,
      sym c.same_at-3.ensures ∙ c.if-not-same_at-3.false,
      rank_power c.args.row.power c.requires.power,
      ← c.rank.ensures,
      ne_eqb _ _ c.if-row-rank.true,
    )

pub returns-then-row : goal.returns-then-row
unfolding same_parts
returns-then-row c =
    rw (
      sym c.same_at.ensures ∙ c.if-not-same_at.false,
      sym c.same_at-2.ensures ∙ c.if-not-same_at-2.false,
      sym c.same_at-3.ensures ∙ c.if-not-same_at-3.false,
      rank_power c.args.row.power c.requires.power,
      ← c.rank.ensures,
      eq-eqb _ _ c.if-row-rank.false,
      c.if-row.true,
    )
    c.same_at-then-row.ensures

pub returns : goal.returns
unfolding same_parts
returns c =
    rw (
      sym c.same_at.ensures ∙ c.if-not-same_at.false,
      sym c.same_at-2.ensures ∙ c.if-not-same_at-2.false,
      sym c.same_at-3.ensures ∙ c.if-not-same_at-3.false,
      rank_power c.args.row.power c.requires.power,
      ← c.rank.ensures,
      eq-eqb _ _ c.if-row-rank.false,
      c.if-row.false,
    )
    (eq_nil c.args.citation.now)
