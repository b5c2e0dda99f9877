use Rattle.session_v4.proofs.Comings.{statement_comes}
use Rattle.session_v4.proofs.session.statement_outcome.Goals as goal

pub returns : goal.returns
returns c =
    statement_comes c.filled_outcome.result c.args.parameters c.args.prepared.now c.in_ok-params.params c.named_state.result c.named_state.ensures
    c.in_ok-params.ensures c.filled_outcome.ensures
