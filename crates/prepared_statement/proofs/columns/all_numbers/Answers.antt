use Rattle.std.proofs.Common.{ℕ, List, [], ◌∷◌, ◌++◌, sym, ap₂, ◌∙◌, arith}
use Rattle.std.proofs.lemmas.List.FromFn.{map-range_with_len_more}
use Rattle.prepared_statement.specs.Names.{column_number}
use Rattle.prepared_statement.proofs.columns.all_numbers.Goals as goal

pub loop-place-preserved : goal.loop-place-preserved
loop-place-preserved c =
    c.in_ok-push.ensures.ok
    ∙ (ap₂ (λ (ns : List ℕ) (n : ℕ). ns ++ n ∷ []) c.loop-place.invariant c.column_number.ensures
    ∙ sym (map-range_with_len_more column_number 0 c.loop-place.place c.loop-place.place (omega arith)))
