use Rattle.std.proofs.Common.{refl}
use Rattle.chronicle_print.proofs.RequestLaws.{moves}
use Rattle.chronicle_print.proofs.requests.Requests.move_newest.Goals as goal

pub returns-in_ok-push : goal.returns-in_ok-push
returns-in_ok-push c = moves c.args.self.now _ c.in-Some.newest c.in-Some.is refl refl refl refl c.in_ok-push.ensures.items
