use Rattle.std.proofs.lemmas.List.Elements.{All-from_recursion, recursion_from_All}
use Rattle.body_notations.proofs.notation.all_have_word.Goals as goal

pub returns : goal.returns
returns g c = rw (← c.as_slice.ensures) (λ t. recursion_from_All _ _ (c.each_has_word.ensures.0 t), λ r. c.each_has_word.ensures.1 (All-from_recursion _ _ r))
