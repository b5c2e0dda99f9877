use Rattle.std.proofs.lemmas.Bool.{both_ways, not-true, not_from_false, false_from_ne_true}
use Rattle.changes.specs.Order.{bound_signs, row_signs}
use Rattle.changes.proofs.Signs.{row_behind, not_both_below}
use Rattle.changes.proofs.Bound.is_before.Goals as goal

pub returns : goal.returns
returns c =
    let behind = c.is_behind.result in (
      λ t. row_behind c.args.self.now c.args.row.now (λ s. both_ways behind (not-true behind t) (c.is_behind.ensures.1 s)),
      λ before. not_from_false behind (false_from_ne_true behind (λ t. not_both_below (bound_signs c.args.self.now) (row_signs c.args.row.now) before (c.is_behind.ensures.0 t))),
    )
