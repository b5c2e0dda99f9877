use Rattle.list_replica.proofs.Replaying.{mark_shows}
use Rattle.list_replica.proofs.replay.Replay.add_mark.Goals as goal

pub returns-clause-shows : goal.returns-clause-shows
returns-clause-shows c = mark_shows c.args.self.now c.push.new.self c.args.mark c.in_ok-push.ensures.items
