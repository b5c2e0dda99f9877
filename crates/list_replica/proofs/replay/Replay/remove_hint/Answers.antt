use Rattle.list_replica.proofs.Replaying.{gone_shows}
use Rattle.list_replica.proofs.replay.Replay.remove_hint.Goals as goal

pub returns-clause-shows : goal.returns-clause-shows
returns-clause-shows c = gone_shows c.args.self.now c.raise_last.new.numbers c.remove_hint.new.hints c.args.peer c.args.number c.in_ok-raise_last.ensures c.remove_hint.ensures
