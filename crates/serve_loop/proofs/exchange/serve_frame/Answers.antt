use Rattle.std.proofs.Common.{sym, ◌∙◌}
use Rattle.session_v4.specs.Sessions.{state_in}
use Rattle.serve_loop.proofs.ExchangeLaws.{stopped, told, cut_before_answer}
use Rattle.serve_loop.proofs.exchange.serve_frame.Goals as goal

pub returns-then-raised-clause-served : goal.returns-then-raised-clause-served
returns-then-raised-clause-served g c =
    stopped (g.Q.StopSign.has_answered c.raised.new.self) (state_in c.args.session.now) (state_in c.args.session.now) c.args.frame.now (g.D.Desk.asks c.args.desk.now) (g.L.Link.written c.args.link.now)
    (sym c.raised.ensures.answer ∙ c.if-raised.true)

pub returns-in-Ok-clause-served : goal.returns-in-Ok-clause-served
returns-in-Ok-clause-served g c =
    told c.tell.result (g.Q.StopSign.has_answered c.response_to.new.stop) c.in-Ok.found (state_in c.args.session.now) (state_in c.response_to.new.session) c.args.frame.now (g.D.Desk.asks c.args.desk.now) (g.D.Desk.asks c.response_to.new.desk)
    (g.L.Link.written c.args.link.now) (g.L.Link.written c.tell.new.link) c.in-Ok.ensures.finds c.tell.ensures.told

pub returns-in-Err-clause-served : goal.returns-in-Err-clause-served
returns-in-Err-clause-served g c =
    cut_before_answer (state_in c.args.session.now) (state_in c.response_to.new.session) c.args.frame.now (g.Q.StopSign.has_answered c.response_to.new.stop) _ (g.D.Desk.asks c.args.desk.now) (g.D.Desk.asks c.response_to.new.desk) (g.L.Link.written c.args.link.now) c.in-Err.ensures.finds
