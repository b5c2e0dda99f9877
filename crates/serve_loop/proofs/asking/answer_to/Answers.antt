use Rattle.serve_loop.proofs.AskLaws.{awaited, answered_later, answered_now}
use Rattle.serve_loop.proofs.asking.answer_to.Goals as goal

pub collect-requires-clause-request : goal.collect-requires-clause-request
collect-requires-clause-request g c = awaited (g.D.Desk.asks c.args.desk.now) (g.D.Desk.asks c.submit.new.self) c.args.ask c.in-Ok.request c.in-Ok.ensures.submits

pub returns-in-Ok-clause-asks : goal.returns-in-Ok-clause-asks
returns-in-Ok-clause-asks g c =
    answered_later (g.D.Desk.asks c.args.desk.now) (g.D.Desk.asks c.submit.new.self) (g.D.Desk.asks c.collect.new.desk) c.args.ask c.in-Ok.request c.collect.result c.in-Ok.ensures.submits c.collect.ensures.collects

pub returns-in-Err-clause-asks : goal.returns-in-Err-clause-asks
returns-in-Err-clause-asks g c = answered_now (g.D.Desk.asks c.args.desk.now) (g.D.Desk.asks c.submit.new.self) c.args.ask c.in-Err.answer c.in-Err.ensures.submits
