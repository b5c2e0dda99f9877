use Rattle.session_v4.specs.Sessions.{state_in}
use Rattle.serve_loop.proofs.ExchangeLaws.{idle_served, end_served}
use Rattle.serve_loop.proofs.serving.serve_input.Goals as goal

pub returns-in-Idle-clause-served : goal.returns-in-Idle-clause-served
returns-in-Idle-clause-served g c =
    idle_served c.then_some.result c.raised.result (g.Q.StopSign.has_answered c.raised.new.self) c.args.input.now (state_in c.args.session.now) (g.D.Desk.asks c.args.desk.now) (g.L.Link.written c.args.link.now)
    c.in-Idle.is c.then_some.ensures c.raised.ensures.answer

pub returns-in-End-clause-served : goal.returns-in-End-clause-served
returns-in-End-clause-served g c =
    end_served (g.Q.StopSign.has_answered c.args.stop.now) c.args.input.now (state_in c.args.session.now) (g.D.Desk.asks c.args.desk.now) (g.L.Link.written c.args.link.now) c.in-End.is
