use Rattle.std.proofs.Common.{◌++◌}
use Rattle.row_values.specs.Values.{other_values}
use Rattle.row_values.proofs.TextLaws.{row_of, line_of}
use Rattle.row_values.proofs.lines.push_line.Goals as goal

pub push_shown-requires : goal.push_shown-requires
push_shown-requires c =
    let columns = c.args.columns.now in
    let row = c.args.row.now in
    let keys = c.requires.0 in
    let r = row_of columns row c.as_slice.result.now c.as_slice-2.result.now keys c.args.mark c.args.literals.now c.back_to.new.self c.push_clustering_literals.new.literals
    c.push_other_literals.new.literals c.as_slice.ensures c.as_slice-2.ensures c.back_to.ensures.text c.back_to.ensures.spans c.in_ok-push_clustering_literals.ensures
    c.in_ok-push_other_literals.ensures c.requires.1 in
    (keys ++ (r.clustering ++ other_values columns row.cells), r.are)

pub returns : goal.returns
returns c keys begins =
    let columns = c.args.columns.now in
    let row = c.args.row.now in
    let r = row_of columns row c.as_slice.result.now c.as_slice-2.result.now keys c.args.mark c.args.literals.now c.back_to.new.self c.push_clustering_literals.new.literals
    c.push_other_literals.new.literals c.as_slice.ensures c.as_slice-2.ensures c.back_to.ensures.text c.back_to.ensures.spans c.in_ok-push_clustering_literals.ensures
    c.in_ok-push_other_literals.ensures begins in
    line_of columns row c.args.shown.now keys c.args.mark c.push_other_literals.new.literals c.args.out.now.items c.push.new.self.items c.push_shown.new.out.items c.push-2.new.self.items
    c.in_ok-push.ensures.items c.in_ok-push_shown.ensures c.in_ok-push-2.ensures.items r
