use Rattle.std.proofs.Common.{refl, sym, ◌∙◌}
use Rattle.cell_merge.proofs.RangeLaws.{joined_first, joined_second}
use Rattle.cell_merge.proofs.ranges.joined.Goals as goal

pub returns-then-reaches : goal.returns-then-reaches
returns-then-reaches c =
    joined_second c.args.wide.now c.args.first c.args.second _ c.index-wide-second.result c.index-wide-first.result c.requires.wide c.requires.first c.requires.second refl refl c.index-wide-second.is c.index-wide-first.is
    (sym c.reaches_to_end-reaches.ensures ∙ c.if-reaches.true)

pub returns-else-reaches : goal.returns-else-reaches
returns-else-reaches c =
    joined_first c.args.wide.now c.args.first c.args.second _ c.index-wide-second.result c.index-wide-first.result c.requires.wide c.requires.first c.requires.second refl refl c.index-wide-second.is c.index-wide-first.is
    (sym c.reaches_to_end-reaches.ensures ∙ c.if-reaches.false)
