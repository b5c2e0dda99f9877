use Rattle.std.proofs.Common.{◌≡◌, ◌↔◌, ◌==◌, IsTrue, [], ◌∙◌, sym, ap, subst, List}
use Rattle.partition_content.specs.Partition.{changes_in}
use Rattle.partition_content.specs.Slots.{changes_of, helds_in}
use Rattle.changes.specs.declared.Held.{Held}
use Rattle.partition_content.proofs.HeldLemmas.{stored_changes}
use Rattle.partition_content.proofs.ReadLemmas.{empty_iff}
use Rattle.partition_content.proofs.content.PartitionContent.is_empty.Goals as goal

pub returns : goal.returns
returns c =
    subst (λ (l : List Held). IsTrue (c.self.inside.length == c.encoded_length.result) ↔ (l ≡ [])) (sym (stored_changes c.self.inside.slots.entries) ∙ ap changes_in c.self.view_is)
    (empty_iff c.self.inside.length c.encoded_length.result (changes_of (helds_in c.self.inside.slots.entries)) c.self.invariant.long c.encoded_length.ensures)
