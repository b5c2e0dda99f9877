use Rattle.script_program.proofs.RunLaws.{if_ok_more}
use Rattle.script_program.proofs.requests.cql_event.Goals as goal

pub returns : goal.returns
returns c = if_ok_more c.ask_for.result c.ask_for.ensures (λ e asked. (c.args.request.now.statement, c.requires, asked))
