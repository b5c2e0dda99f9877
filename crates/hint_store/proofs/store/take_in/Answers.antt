use Rattle.hint_store.proofs.Staging.{pushed_own}
use Rattle.hint_store.proofs.store.take_in.Goals as goal

pub returns-clause-hints : goal.returns-clause-hints
returns-clause-hints c = pushed_own c.args.table.now.entries c.push.new.self.entries (c.args.hint.peer, c.args.table.now.next) c.args.hint c.in_ok-push.ensures.ok
