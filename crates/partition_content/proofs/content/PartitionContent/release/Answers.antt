use Rattle.std.proofs.Common.{◌∙◌, sym, ap, subst}
use Rattle.changes.specs.Lengths.{changes_length}
use Rattle.partition_content.specs.Partition.{AreBare, AreTaken}
use Rattle.partition_content.specs.Slots.{helds_of}
use Rattle.partition_content.proofs.HeldLemmas.{changes_still}
use Rattle.partition_content.proofs.content.PartitionContent.release.Goals as goal

pub invariant_of-self : goal.invariant_of-self
invariant_of-self c = record {
  good = c.give_back.ensures.good;
  long = c.self.invariant.long ∙ ap changes_length (sym (changes_still c.self.inside.slots.entries c.give_back.new.slots.entries c.give_back.ensures.stored));
  taken = subst (AreTaken (helds_of c.give_back.new.slots)) (sym c.take.ensures.after) tt;
  bare = λ t. subst AreBare (sym (changes_still c.self.inside.slots.entries c.give_back.new.slots.entries c.give_back.ensures.stored)) (c.self.invariant.bare t);
}
