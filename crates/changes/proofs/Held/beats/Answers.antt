use Rattle.std.proofs.Common.{sym, ap, ◌∙◌}
use Rattle.std.specs.Ordering.{is_gt}
use Rattle.std.proofs.lemmas.Bool.{false≢true, iff_false}
use Rattle.changes.proofs.Places.{same_place_iff}
use Rattle.changes.proofs.Ranks.{beats_by}
use Rattle.changes.proofs.Held.beats.Goals as goal

pub returns-then-eq : goal.returns-then-eq
returns-then-eq c =
    let same = (same_place_iff c.args.self.now.place c.args.other.now.place).0 (sym c.eq.ensures ∙ c.if-eq.true) in
    beats_by c.args.self.now c.args.other.now c.is_gt.result same (c.is_gt.ensures ∙ ap is_gt c.rank.ensures)

pub returns-else-eq : goal.returns-else-eq
returns-else-eq c =
    let apart = iff_false (same_place_iff c.args.self.now.place c.args.other.now.place) (sym c.eq.ensures ∙ c.if-eq.false) in
    (λ t. absurd (false≢true (sym c.if-eq.false ∙ t)), λ beats. absurd (apart beats.0))
