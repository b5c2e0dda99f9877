use Rattle.std.proofs.Common.{sym, ap, ◌∙◌, arith}
use Rattle.std.specs.Prelude.{◌≤ℤ◌}
use Rattle.std.specs.Ordering.{is_gt}
use Rattle.std.proofs.lemmas.Bool.{iff_false}
use Rattle.std.proofs.lemmas.Int.{ints}
use Rattle.changes.proofs.Places.{same_place_iff}
use Rattle.changes.proofs.Ranks.{outranks_at, outranks_over}
use Rattle.changes.proofs.Held.outranks.Goals as goal

pub returns-then-eq : goal.returns-then-eq
returns-then-eq c =
    let same = (same_place_iff c.args.self.now.place c.args.other.now.place).0 (sym c.eq.ensures ∙ c.if-eq.true) in
    outranks_at c.args.self.now c.args.other.now c.is_gt.result same (c.is_gt.ensures ∙ ap is_gt c.rank.ensures)

pub returns-then-other-self : goal.returns-then-other-self
returns-then-other-self c =
    let apart = iff_false (same_place_iff c.args.self.now.place c.args.other.now.place) (sym c.eq.ensures ∙ c.if-eq.false) in
    let late : c.args.other.now.timestamp ≤ℤ c.args.self.now.timestamp = omega (arith, ints) in
    outranks_over c.args.self.now c.args.other.now c.encloses.result apart late c.encloses.ensures
