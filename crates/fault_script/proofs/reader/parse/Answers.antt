use Rattle.std.proofs.Common.{List, ℕ, Result, Err, subst, sym}
use Rattle.std.proofs.lemmas.Result.{err_from_is_err_and}
use Rattle.fault_script.specs.declared.script.Script.{Script}
use Rattle.fault_script.specs.declared.error.ParseError.{ParseError}
use Rattle.fault_script.specs.Script.{IsRead, Reads}
use Rattle.fault_script.specs.Reads.{Fails, IsReadAs}
use Rattle.fault_script.proofs.Readers.{fails_too, read_short, stops_there}
use Rattle.fault_script.proofs.reader.parse.Goals as goal

pub returns-in_err-take_line : goal.returns-in_err-take_line
returns-in_err-take_line c =
    let text = c.args.text.now in
    let reader = c.loop-rest.reader in
    let line = c.first_line.result.0.now in
    let failed = fails_too _ _ c.in_err-take_line.field-0.0 c.in_err-take_line.ensures.err
    (λ e stops. read_short text (Err e) c.if-text-gt-LONGEST_SCRIPT.false
    (c.loop-rest.invariant.gives (Err e) (subst (λ (lines : List (List ℕ)). Reads reader lines (Err e)) (sym c.first_line.ensures.lines) (stops_there reader line _ e stops)))) in
    let given = err_from_is_err_and c.from_residual.result c.from_residual.ensures.1 in
    subst (λ (r : Result Script ParseError). IsReadAs text r) (sym given.1) (subst (λ (e : ParseError). Fails (λ f. IsRead text (Err f)) e) (sym given.2) failed)
