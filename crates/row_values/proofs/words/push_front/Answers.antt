use Rattle.std.proofs.Common.{◌++◌, List, ℕ, Some, take, sym, ap, ◌∙◌}
use Rattle.cql_values.specs.declared.value.CqlValue.TheVariants as values
use Rattle.row_values.proofs.words.push_front.Goals as goal

pub returns-in-Some : goal.returns-in-Some
returns-in-Some c =
    let plain = c.in-Some.ensures in
    (Some (values.Text (take c.in-Some.len c.args.bytes.now)), plain.front, c.in_ok-push_plain.ensures ∙ ap (λ (text : List ℕ). c.args.out.now.items ++ text) (sym plain.literal))
