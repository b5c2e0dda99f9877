use Rattle.std.proofs.Common.{sym, subst}
use Rattle.std.specs.Prelude.{IfOk}
use Rattle.row_change.specs.declared.entry.LogItem.{LogItem}
use Rattle.node_core.specs.Moving.{IsBehindItem}
use Rattle.node_core.proofs.hearing.behind_item.Goals as goal

pub returns-in-Data : goal.returns-in-Data
returns-in-Data c = subst (λ (i : LogItem). IfOk c.behind.result (λ all. IsBehindItem i c.args.query.now c.args.part all)) (sym c.in-Data.is) c.behind.ensures
