use Rattle.std.proofs.Common.{arith}
use Rattle.partition_content.specs.Slots.{helds_in, IsNewlyOutranked}
use Rattle.partition_content.proofs.ContentLemmas.{lost_most}
use Rattle.partition_content.proofs.LossLemmas.{lost_in_range}
use Rattle.partition_content.proofs.losing.lost_in_range.Goals as goal

pub overflow_add-result : goal.overflow_add-result
overflow_add-result c =
    let both = lost_in_range c.args.others.now c.args.x.now c.args.own.now c.args.from.now c.args.upto.now (helds_in c.args.slots.now.entries) c.lost_wide-wide.result c.lost_between-rows.result c.requires.keys c.requires.span c.requires.good.filed c.lost_wide-wide.ensures c.lost_between-rows.ensures in
    let most = lost_most (IsNewlyOutranked c.args.others.now c.args.x.now) (helds_in c.args.slots.now.entries) _ both in
    let fits = c.requires.fits in omega (arith, most, fits)

pub returns : goal.returns
returns c =
    lost_in_range c.args.others.now c.args.x.now c.args.own.now c.args.from.now c.args.upto.now (helds_in c.args.slots.now.entries) c.lost_wide-wide.result c.lost_between-rows.result c.requires.keys c.requires.span c.requires.good.filed c.lost_wide-wide.ensures c.lost_between-rows.ensures
