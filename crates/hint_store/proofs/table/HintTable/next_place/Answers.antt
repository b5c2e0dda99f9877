use Rattle.std.proofs.Common.{subst}
use Rattle.hint_store.specs.Tables.{Filed, IsVacant}
use Rattle.hint_store.proofs.Places.{next_is_free}
use Rattle.hint_store.proofs.table.HintTable.next_place.Goals as goal

pub returns-clause-vacant : goal.returns-clause-vacant
returns-clause-vacant c =
    subst (λ (v : Filed). IsVacant (c.args.peer, v.next) v.entries) c.self.view_is (next_is_free c.self.inside.next c.args.peer c.self.inside.by_place.entries c.self.invariant.filed)
