use Rattle.chronicle_print.proofs.RequestLaws.{begins_older}
use Rattle.chronicle_print.proofs.requests.Requests.begin_older.Goals as goal

pub returns : goal.returns
returns c =
    let put = c.in_ok-put_place.ensures in
    begins_older c.args.self.now c.settle.new.self c.put_place.new.self c.args.id c.args.place c.requires c.in_ok-settle.ensures put.asked put.newest put.recent put.numbers put.places
