use Rattle.list_replica.proofs.Looking.{away}
use Rattle.list_replica.proofs.Replaying.{row_shows}
use Rattle.list_replica.proofs.replay.Replay.set_row.Goals as goal

pub returns-clause-shows : goal.returns-clause-shows
returns-clause-shows c =
    let updates = c.in_ok-insert.ensures.updates in
    row_shows c.args.self.now c.insert.new.self c.args.partition c.args.row updates.1 (λ q other. updates.2 q (away c.args.partition q other))
