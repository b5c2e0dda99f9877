use Rattle.std.proofs.Common.{◌==◌, option_copied, ap, sym, ◌∙◌}
use Rattle.std.specs.List.{find}
use Rattle.std.specs.Option.{option_map}
use Rattle.condition_test.specs.Conditions.{value_in}
use Rattle.condition_test.proofs.condition.value_in.Goals as goal

pub returns-in-Some : goal.returns-in-Some
returns-in-Some c =
    c.value_at.ensures
    ∙ ap (λ cells. option_map (λ cell. cell.value) (find (λ cell. cell.column == c.args.column) cells)) c.as_slice.ensures
    ∙ sym (ap (λ row. value_in c.args.column (option_copied row)) c.in-Some.is)
