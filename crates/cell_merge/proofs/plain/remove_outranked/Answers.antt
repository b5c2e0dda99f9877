use Rattle.std.proofs.Common.{rules, subst}
use Rattle.std.specs.Prelude.{MatchBool}
use Rattle.changes.specs.declared.Held.{Held}
use Rattle.changes.specs.Order.{Outranks}
use Rattle.cell_merge.proofs.Parts.{retained}
use Rattle.cell_merge.proofs.plain.remove_outranked.Goals as goal

pub returns-clause-items : goal.returns-clause-items
returns-clause-items c =
    retained (λ y. Outranks c.args.x.now y → ⊥) (λ y. Outranks c.args.x.now y) _ _
    (λ y b f' k. (subst (λ (z : Held). MatchBool b (Outranks c.args.x.now z → ⊥) (Outranks c.args.x.now z)) k.shows (search rules), search rules)) _ _ c.retain.ensures.filtered
