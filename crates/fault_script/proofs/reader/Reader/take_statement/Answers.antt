use Rattle.std.proofs.Common.{subst, sym, List, ℕ}
use Rattle.fault_script.specs.Script.{IsRefusedAt}
use Rattle.fault_script.specs.Reads.{IsRefusal}
use Rattle.fault_script.specs.declared.statements.StatementError.{StatementError}
use Rattle.fault_script.proofs.Readers.{fails_too}
use Rattle.fault_script.proofs.reader.Reader.take_statement.Goals as goal

pub returns-in-Err-At-clause-err : goal.returns-in-Err-At-clause-err
returns-in-Err-At-clause-err c =
    let read = subst (λ (e : StatementError). IsRefusal c.as_str.result.now e) c.in-Err-At.field-0-is c.in-Err-At.ensures in
    let refused = subst (λ (text : List ℕ). IsRefusedAt text c.in-Err-At.at) c.as_str.ensures read in
    fails_too _ _ c.refuse.result c.refuse.ensures (λ e is. (_, subst (IsRefusedAt c.args.text) (sym c.in-Err-At.at-is) refused, is))
