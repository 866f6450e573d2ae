-- `coverage::covered::exclusion` meets its contract: the revokers and what they administer, if one of these keys was found over s.
use Rattle.coverage.proofs.Laws.Cover.{exclusion_nobody, exclusion_covers, exclusion_none}
use Rattle.coverage.proofs.covered.exclusion.Goals as goal

pub returns-then-w-eq0 : goal.returns-then-w-eq0
returns-then-w-eq0 c = exclusion_nobody c.args.w c.args.s c.args.subjects c.args.found.now c.if-w-eq0.true

pub returns-then-share : goal.returns-then-share
returns-then-share c =
    let a = c.args in
    exclusion_covers a.w a.s a.subjects a.found.now c.administered.result c.union-all.result c.holders.result
    c.administered.ensures c.union-all.ensures c.holders.ensures (c.share.ensures.yes c.if-share.true)

pub returns-else-share : goal.returns-else-share
returns-else-share c =
    let a = c.args in
    exclusion_none a.w a.s a.subjects a.found.now c.administered.result c.union-all.result c.holders.result
    c.administered.ensures c.union-all.ensures c.holders.ensures (c.share.ensures.no c.if-share.false)
