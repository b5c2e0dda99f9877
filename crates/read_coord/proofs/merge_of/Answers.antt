use Rattle.std.proofs.Common.{rules}
use Rattle.cell_merge.specs.Settled.{IsSettled}
use Rattle.read_coord.proofs.merge_of.Goals as goal

pub returns : goal.returns
returns c =
    let settled : IsSettled c.in_ok-merge.merge = search rules in
    (c.in_ok-merge.ensures, settled.ordered)
