use Rattle.list_replica.proofs.Replaying.{hint_shows}
use Rattle.list_replica.proofs.replay.Replay.add_hint.Goals as goal

pub returns-clause-shows : goal.returns-clause-shows
returns-clause-shows c = hint_shows c.args.self.now c.set_last.new.numbers c.push.new.self c.args.hint c.in_ok-set_last.ensures c.in_ok-push.ensures.items
