use Rattle.std.proofs.Common.{◌∙◌, sym, inl, inr}
use Rattle.std.specs.declared.cmp.Ordering.TheVariants.{Equal, Greater}
use Rattle.partition_content.proofs.ReadLemmas.{adds_no_rows}
use Rattle.partition_content.specs.Slots.{helds_in}
use Rattle.partition_content.proofs.reading.copy_rows.Goals as goal

pub returns-in-Equal : goal.returns-in-Equal
returns-in-Equal c =
    elim c.in-Equal.is [
      | inl e ↦ adds_no_rows c.args.from.now c.args.upto.now (helds_in c.args.slots.now.entries) Equal c.args.onto.now.items (sym e ∙ c.cmp.ensures) (λ l. cc)
      | inr g ↦ adds_no_rows c.args.from.now c.args.upto.now (helds_in c.args.slots.now.entries) Greater c.args.onto.now.items (sym g ∙ c.cmp.ensures) (λ l. cc)
    ]
