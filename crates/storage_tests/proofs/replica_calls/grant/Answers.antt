use Rattle.std.proofs.Common.{sym, subst}
use Rattle.durable_state.specs.State.{Durable}
use Rattle.replica.specs.Kept.{IsKeptAfter, IsKeptOf}
use Rattle.storage_tests.proofs.Beside.{on_ok, stays}
use Rattle.storage_tests.proofs.replica_calls.grant.Goals as goal

-- room changes nothing of what is kept
pub returns-clause-after : goal.returns-clause-after
returns-clause-after g c =
    on_ok c.match-room.result (g.R.Disk.Store.is_honest → IsKeptAfter c.args.entry.now.items (g.R.Replica.durable c.room.new.self) c.args.kept.now)
    (λ honest after made. stays c.args.entry.now.items (g.R.Replica.durable c.room.new.self) after c.args.kept.now
    (c.are_data.ensures.0 c.if-not-are_data.false)
    (subst (λ (d : Durable). IsKeptOf d c.args.kept.now) (sym (c.room.ensures.looked honest).same) (c.requires.kept honest))
    made)
