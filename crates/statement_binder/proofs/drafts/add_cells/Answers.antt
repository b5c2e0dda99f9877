use Rattle.std.proofs.Common.{◌++◌, ◌∙◌, List, ap, map-id, sym}
use Rattle.std.specs.Vec.Iter.{into_iter_items, into_iter_len}
use Rattle.std.proofs.lemmas.Iterator.Adapters.{YieldsList-from_vec}
use Rattle.std.proofs.lemmas.Iterator.Consumers.{YieldsList-end}
use Rattle.statement_binder.specs.declared.filled.CellValue.{CellValue}
use Rattle.statement_binder.specs.Changes.{cell_drafts}
use Rattle.statement_binder.proofs.drafts.add_cells.Goals as goal

pub returns : goal.returns
returns c =
    let same = c.into_iter-cell-iterator.ensures.into_iter_gives in
    let gives = YieldsList-from_vec {s = c.into_iter-cell-iterator.result} (into_iter_items c.args.cells) (ap into_iter_items same) (ap into_iter_len same ∙ c.args.cells.rest.ok.0) in
    let all = YieldsList-end gives c.loop-cell.yielded c.loop-cell.cell-iterator c.loop-cell.yielded_by c.next.result c.next.new.self c.in-None.is c.next.ensures.steps in
    c.loop-cell.invariant ∙ ap (λ (cs : List CellValue). c.args.drafts.now.items ++ cell_drafts c.args.timestamp c.args.row.now cs) (sym (map-id _) ∙ all.0)
