use Rattle.std.proofs.Common.{refl}
use Rattle.chronicle_print.proofs.RequestLaws.{counts_named}
use Rattle.chronicle_print.proofs.requests.Requests.enter.Goals as goal

pub returns : goal.returns
returns c = counts_named c.args.self.now c.move_newest.new.self _ c.args.id c.args.number c.in_ok-move_newest.ensures c.requires refl refl refl refl refl
