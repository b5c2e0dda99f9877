use Rattle.std.proofs.Common.{inl, inr, sym, ◌∙◌}
use Rattle.std.proofs.lemmas.Bool.{iff_false}
use Rattle.changes.proofs.Places.{same_place_iff}
use Rattle.changes.proofs.winning.lies_in.Goals as goal

pub returns-then-eq : goal.returns-then-eq
returns-then-eq c = (λ t. inl ((same_place_iff c.args.outer.now c.args.inner.now).0 (sym c.eq.ensures ∙ c.if-eq.true)), λ lies. c.if-eq.true)

pub returns-else-eq : goal.returns-else-eq
returns-else-eq c =
    let apart = iff_false (same_place_iff c.args.outer.now c.args.inner.now) (sym c.eq.ensures ∙ c.if-eq.false) in
    (λ t. inr (c.encloses.ensures.0 t), λ lies. elim lies [ inl same ↦ absurd (apart same) | inr e ↦ c.encloses.ensures.1 e ])
