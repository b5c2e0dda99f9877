use Rattle.std.proofs.Common.{refl}
use Rattle.row_values.proofs.Parts.{added, whole_left, whole_values}
use Rattle.row_values.proofs.key.push_whole.Goals as goal

pub returns : goal.returns
returns c =
    let key = c.args.key.now in
    let columns = c.args.columns.now in
    added (whole_left key) c.args.values.now.items c.loop-column.values.items _ (whole_left key columns) columns c.loop-column.column-index refl
    c.loop-column-test.false c.loop-column.invariant (whole_values columns key c.requires)
