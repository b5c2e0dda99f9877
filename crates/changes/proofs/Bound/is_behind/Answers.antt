use Rattle.std.proofs.Common.{refl, sym, ap, ◌∙◌}
use Rattle.std.specs.Cmp.Lexicographic.{slice_cmp}
use Rattle.std.specs.Ordering.{nat_cmp}
use Rattle.changes.proofs.Signs.{row_below_bytes, row_below_after, after_from_below, row_below_past, past_from_below}
use Rattle.changes.proofs.Bound.is_behind.Goals as goal

pub returns-in-Less : goal.returns-in-Less
returns-in-Less c =
    let bytes = sym (c.in-Less.ensures ∙ ap (slice_cmp nat_cmp c.args.row.now) c.as_slice.ensures) in
    (λ t. row_below_bytes c.args.row.now c.args.self.now bytes, λ s. refl)

pub returns-in-Equal : goal.returns-in-Equal
returns-in-Equal c =
    let bytes = sym (c.in-Equal.ensures ∙ ap (slice_cmp nat_cmp c.args.row.now) c.as_slice.ensures) in
    (λ t. row_below_after c.args.row.now c.args.self.now bytes t, λ s. after_from_below c.args.row.now c.args.self.now bytes s)

pub returns-in-Greater : goal.returns-in-Greater
returns-in-Greater c =
    let bytes = sym (c.in-Greater.ensures ∙ ap (slice_cmp nat_cmp c.args.row.now) c.as_slice.ensures) in (
      λ t. row_below_past c.args.row.now c.args.self.now bytes (sym c.is_past.ensures ∙ t),
      λ s. c.is_past.ensures ∙ past_from_below c.args.row.now c.args.self.now bytes s,
    )
