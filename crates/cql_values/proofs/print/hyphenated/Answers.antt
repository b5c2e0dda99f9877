-- The text of the uuid's sixteen bytes.
use Rattle.std.proofs.Common.{◌∙◌, ap}
use Rattle.std.proofs.lemmas.Result.{IfOk-weaker}
use Rattle.uuid.specs.Text.{hyphenated_text, lower}
use Rattle.cql_values.proofs.print.hyphenated.Goals as goal

pub returns : goal.returns
returns c =
    IfOk-weaker c.from_str.result _ _ (λ x p. p ∙ c.encode_lower-text.ensures.text ∙ ap (hyphenated_text lower) (c.hyphenated.ensures ∙ c.from_u128.ensures)) c.from_str.ensures.ok
