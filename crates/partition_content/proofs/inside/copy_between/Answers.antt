use Rattle.std.proofs.Common.{◌∙◌, sym, inl, inr}
use Rattle.std.specs.declared.cmp.Ordering.TheVariants.{Equal, Greater}
use Rattle.partition_content.specs.Slots.{helds_in}
use Rattle.partition_content.proofs.SweepLemmas.{no_keys}
use Rattle.partition_content.proofs.inside.copy_between.Goals as goal

pub returns-in-Equal : goal.returns-in-Equal
returns-in-Equal c =
    elim c.in-Equal.is [
      | inl e ↦ no_keys c.args.from.now c.args.upto.now (helds_in c.args.slots.now.entries) c.args.onto.now.items Equal (sym e ∙ c.cmp.ensures) (λ l. cc)
      | inr g ↦ no_keys c.args.from.now c.args.upto.now (helds_in c.args.slots.now.entries) c.args.onto.now.items Greater (sym g ∙ c.cmp.ensures) (λ l. cc)
    ]
