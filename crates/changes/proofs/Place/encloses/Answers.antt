use Rattle.std.proofs.Common.{sym, ◌∙◌}
use Rattle.std.proofs.lemmas.Bool.{false≢true, not-true, not-false, iff_false}
use Rattle.changes.proofs.Places.{same_place_iff, range_encloses, same_encloses_not}
use Rattle.changes.specs.Places.{place_cmp}
use Rattle.std.specs.Ordering.{is_eq}
use Rattle.changes.proofs.Place.encloses.Goals as goal

pub returns-then-ne : goal.returns-then-ne
returns-then-ne c =
    let arm = c.in-RangeGone-RangeGone in
    let apart = iff_false (same_place_iff c.args.self.now c.args.inner.now) (not-true (is_eq (place_cmp c.args.self.now c.args.inner.now)) (sym c.ne.ensures ∙ c.if-ne.true)) in
    range_encloses c.args.self.now c.args.inner.now arm.from arm.upto arm.start arm.end c.spans.result arm.is-0 arm.is-1 apart c.spans.ensures

pub returns-else-ne : goal.returns-else-ne
returns-else-ne c =
    let same = (same_place_iff c.args.self.now c.args.inner.now).0 (not-false (is_eq (place_cmp c.args.self.now c.args.inner.now)) (sym c.ne.ensures ∙ c.if-ne.false)) in
    (λ t. absurd (false≢true (sym c.if-ne.false ∙ t)), λ e. absurd (same_encloses_not c.args.self.now c.args.inner.now same e))
