use Rattle.std.proofs.Common.{None, option_copied, subst, ap}
use Rattle.statement_binder.specs.Meanings.{Answers, meaning_of}
use Rattle.statement_values.specs.declared.params.Params.{Params}
use Rattle.statement_values.specs.declared.params.Params.TheVariants.{ByPlace}
use Rattle.script_program.proofs.KvLaws.{asks}
use Rattle.script_program.proofs.RunLaws.{if_ok_more}
use Rattle.script_program.proofs.requests.ask_for.Goals as goal

pub returns : goal.returns
returns c =
    let keyspace = option_copied c.args.keyspace in
    let bound = c.bind-bound.result in
    if_ok_more c.ask_by.result c.ask_by.ensures (λ e asked. asks c.args.schema.now keyspace c.args.statement.now bound c.args.node c.args.level e
    (subst (λ (values : Params). Answers bound (meaning_of c.args.schema.now keyspace values None c.args.statement.now)) (ap ByPlace c.new.ensures) c.bind-bound.ensures)
    asked)
