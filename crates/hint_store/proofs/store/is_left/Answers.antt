use Rattle.std.proofs.Common.{◌∙◌, sym}
use Rattle.hint_store.proofs.Staging.{none_left}
use Rattle.hint_store.proofs.Keeping.{left_told}
use Rattle.hint_store.proofs.store.is_left.Goals as goal

pub returns-then-is_among : goal.returns-then-is_among
returns-then-is_among c = sym (none_left c.args.gone.now.keys c.args.peer c.args.number c.args.table.now.entries (sym c.is_among.ensures ∙ c.if-is_among.true))

pub returns : goal.returns
returns c = left_told c.args.table.now.entries c.args.gone.now.keys c.args.peer c.args.number c.count.result (sym c.is_among.ensures ∙ c.if-is_among.false) c.count.ensures
