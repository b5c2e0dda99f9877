use Rattle.session_v4.proofs.Comings.{due_query}
use Rattle.session_v4.specs.Sessions.{state_in}
use Rattle.session_v4.proofs.session.Session.query.Goals as goal

pub returns-clause-due : goal.returns-clause-due
returns-clause-due c =
    due_query c.query_read-act.result (state_in c.args.self.now) (state_in c.query_read-act.new.self) c.args.stream c.args.query c.parse-read.result
    c.as_str.result.now c.as_str-2.result.now c.ranges.stream c.as_str.ensures c.as_str-2.ensures c.parse-read.ensures.found c.parse-read.ensures.refused
    c.query_read-act.ensures.due c.query_read-act.ensures.cause
