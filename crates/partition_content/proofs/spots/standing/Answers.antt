use Rattle.std.proofs.Common.{sym, ◌∙◌, ap, subst, List, ℕ, Some}
use Rattle.std.proofs.lemmas.Bool.{both_ways}
use Rattle.changes.specs.Order.{bound_signs, row_signs, StandsBelow}
use Rattle.partition_content.proofs.SpotLemmas.{edge_stands, edge_behind}
use Rattle.partition_content.proofs.spots.standing.Goals as goal

pub returns-then-is_before : goal.returns-then-is_before
returns-then-is_before c =
    let below = subst (λ (r : List ℕ). StandsBelow (bound_signs c.args.bound.now) (row_signs r)) c.as_slice.ensures (c.is_before.ensures.0 c.if-is_before.true) in
    sym (edge_stands c.args.bound.now c.args.place.now c.in-Some.row.now (sym c.in-Some.ensures) ∙ below)

pub returns-else-is_before : goal.returns-else-is_before
returns-else-is_before c =
    let behind = edge_behind c.args.bound.now c.as_slice.result.now (λ h. both_ways c.is_before.result c.if-is_before.false (c.is_before.ensures.1 h)) in
    sym (edge_stands c.args.bound.now c.args.place.now c.as_slice.result.now (sym c.in-Some.ensures ∙ ap (λ (r : List ℕ). Some r) (sym c.as_slice.ensures)) ∙ behind)
