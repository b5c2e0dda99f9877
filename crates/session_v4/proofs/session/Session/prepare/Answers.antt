use Rattle.session_v4.proofs.Comings.{due_prepare}
use Rattle.session_v4.specs.Sessions.{state_in}
use Rattle.session_v4.proofs.session.Session.prepare.Goals as goal

pub returns-clause-due : goal.returns-clause-due
returns-clause-due c =
    due_prepare c.prepare_read-act.result (state_in c.args.self.now) (state_in c.prepare_read-act.new.self) c.args.text.now c.parse-read.result
    c.parse-read.ensures.found c.parse-read.ensures.refused c.prepare_read-act.ensures.due c.prepare_read-act.ensures.cause
