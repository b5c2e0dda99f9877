use Rattle.std.proofs.Common.{subst}
use Rattle.session_v4.specs.Sessions.{state_in, IsDue}
use Rattle.session_v4.specs.declared.act.Act.{Act}
use Rattle.serve_loop.proofs.AskLaws.{found_by_desk}
use Rattle.serve_loop.proofs.exchange.response_to.Goals as goal

pub returns-in-Submit-clause-finds : goal.returns-in-Submit-clause-finds
returns-in-Submit-clause-finds g c =
    let P : Act → Type 0 = λ a. IsDue (state_in c.args.session.now) c.args.frame.now a (state_in c.step.new.self) in
    found_by_desk (g.D.Desk.asks c.args.desk.now) (g.D.Desk.asks c.ask_for.new.desk) (state_in c.args.session.now) c.args.frame.now c.in-Submit.ask (g.Q.StopSign.has_answered c.ask_for.new.stop) (state_in c.step.new.self) (state_in c.ask_for.new.session) c.ask_for.result
    (subst P c.in-Submit.is c.in_ok-response.ensures.due) c.ask_for.ensures.asks
