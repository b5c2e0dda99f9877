-- The content of a text is a text.
use Rattle.std.proofs.Common.{◌∙◌, sym, ap}
use Rattle.std.specs.Prelude.{option_map}
use Rattle.std.proofs.lemmas.Bool.{false≢true}
use Rattle.cql_values.specs.Literals.{unquoted}
use Rattle.cql_values.proofs.LiteralWords.{utf8_content}
use Rattle.cql_values.proofs.literal.string.Goals as goal

pub unreachable-requires : goal.unreachable-requires
unreachable-requires c =
    false≢true (c.in-Err.ensures.succeeds (utf8_content c.args.text.now c.in-Some.content.items c.utf8.text
    (sym (ap unquoted c.as_bytes.ensures.value) ∙ sym c.in_ok-content.ensures ∙ ap (option_map (λ v. v.items)) c.in-Some.is)))
