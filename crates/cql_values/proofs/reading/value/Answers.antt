-- Each type by its own reader.
use Rattle.std.proofs.Common.{Result, Err, ℕ, false, sym, ap, ◌∙◌, subst, arith}
use Rattle.cql_values.specs.Scan.{IsEscapedType}
use Rattle.std.proofs.lemmas.Result.{err_from_is_err_and}
use Rattle.cql_values.specs.Order.{ascending_bytes, IsOrderWord, Reads}
use Rattle.cql_values.specs.declared.error.OrderError.{OrderError}
use Rattle.cql_values.specs.declared.value.CqlValue.{CqlValue}
use Rattle.cql_values.specs.declared.value.CqlType.{CqlType}
use Rattle.cql_values.specs.declared.value.CqlType.TheVariants as types
use Rattle.cql_values.proofs.Columns.{small_ascending}
use Rattle.cql_values.proofs.ReadingLaws.{number_reads, boolean_reads, number_type, text_refused}
use Rattle.cql_values.proofs.reading.value.Goals as goal

pub returns-in-Boolean : goal.returns-in-Boolean
returns-in-Boolean c =
    let all = ascending_bytes c.args.desc c.args.bytes.now in
    subst (λ (ty : CqlType). Reads (IsOrderWord ty false) all c.boolean.result) (sym c.in-Boolean.is)
    (subst (λ (r : Result (CqlValue × ℕ) OrderError). Reads (IsOrderWord types.Boolean false) all r) (sym c.boolean.ensures) (boolean_reads all))

pub returns-in-Bigint : goal.returns-in-Bigint
returns-in-Bigint c =
    let bytes = c.args.bytes.now in
    let all = ascending_bytes c.args.desc bytes in
    subst (λ (r : Result (CqlValue × ℕ) OrderError). Reads (IsOrderWord c.args.ty false) all r) (sym c.number.ensures)
    (number_reads c.args.ty all (number_type c.args.ty c.in-Bigint.is) (small_ascending c.args.desc bytes (λ i. omega (arith, c.type_inv.bytes i))))

pub returns-in_err-text-in-Ascii : goal.returns-in_err-text-in-Ascii
returns-in_err-text-in-Ascii c =
    let all = ascending_bytes c.args.desc c.args.bytes.now in
    let p = err_from_is_err_and c.from_residual.result c.from_residual.ensures.1 in
    subst (λ (r : Result (CqlValue × ℕ) OrderError). Reads (IsOrderWord c.args.ty false) all r) (sym (p.1 ∙ ap Err p.2))
    (text_refused c.args.ty all c.in_err-text-in-Ascii.field-0.0 (subst IsEscapedType (sym c.in-Ascii.is) tt) c.in_err-text-in-Ascii.ensures)

pub returns-in_err-content-in-Blob : goal.returns-in_err-content-in-Blob
returns-in_err-content-in-Blob c =
    let all = ascending_bytes c.args.desc c.args.bytes.now in
    let p = err_from_is_err_and c.from_residual-in_err-content-in-Blob.result c.from_residual-in_err-content-in-Blob.ensures.1 in
    subst (λ (r : Result (CqlValue × ℕ) OrderError). Reads (IsOrderWord c.args.ty false) all r) (sym (p.1 ∙ ap Err p.2))
    (text_refused c.args.ty all c.in_err-content-in-Blob.field-0.0 (subst IsEscapedType (sym c.in-Blob.is) tt) c.in_err-content-in-Blob.ensures)

pub returns-in_err-text-in-Text : goal.returns-in_err-text-in-Text
returns-in_err-text-in-Text c =
    let all = ascending_bytes c.args.desc c.args.bytes.now in
    let p = err_from_is_err_and c.from_residual-in_err-text-in-Text.result c.from_residual-in_err-text-in-Text.ensures.1 in
    subst (λ (r : Result (CqlValue × ℕ) OrderError). Reads (IsOrderWord c.args.ty false) all r) (sym (p.1 ∙ ap Err p.2))
    (text_refused c.args.ty all c.in_err-text-in-Text.field-0.0 (subst IsEscapedType (sym c.in-Text.is) tt) c.in_err-text-in-Text.ensures)
