use Rattle.std.proofs.Common.{subst, Err, ◌<◌, length}
use Rattle.std.proofs.lemmas.Option.{slice_get_within}
use Rattle.schema_book.specs.Books.{Answers, book_of}
use Rattle.fault_script.specs.Written.{WrittenSchema}
use Rattle.fault_script.proofs.schema_lines.SchemaLines.schema.Goals as goal

pub line_of-requires : goal.line_of-requires
line_of-requires c =
    let nodes = c.nodes-nodes.result in
    let settings = c.args.settings.now in
    let statements = c.self.inside.statements in
    let refused = subst (λ e. Answers (Err e) (book_of nodes settings.factor settings.grace statements)) c.in-Err-Refused.field-0-is c.in-Err-Refused.ensures in
    let first = c.refusals_are_first.ensures nodes settings.factor settings.grace statements c.in-Err-Refused.field-0-0 refused in
    let within = slice_get_within statements c.in-Err-Refused.field-0-0.statement first.statement first.stands in
    subst (λ (written : WrittenSchema). c.in-Err-Refused.field-0-0.statement < length written.statements) c.self.view_is within
