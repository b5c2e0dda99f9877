use Rattle.std.proofs.Common.{refl}
use Rattle.row_values.proofs.Parts.{added, parts_left, parts_values}
use Rattle.row_values.proofs.key.push_parts.Goals as goal

pub returns : goal.returns
returns c =
    let key = c.args.key.now in
    let columns = c.args.columns.now in
    added (parts_left c.loop-column.rest.now) c.args.values.now.items c.loop-column.values.items _ (parts_left key columns) columns c.loop-column.column-index refl
    c.loop-column-test.false c.loop-column.invariant (parts_values columns key c.requires)
