use Rattle.std.proofs.Common.{◌∙◌, sym, ap, subst, List}
use Rattle.changes.specs.Queries.{IsSlice}
use Rattle.partition_content.specs.Partition.{changes_in}
use Rattle.partition_content.specs.Slots.{changes_of, helds_in}
use Rattle.changes.specs.declared.Held.{Held}
use Rattle.partition_content.proofs.HeldLemmas.{stored_changes}
use Rattle.partition_content.proofs.SliceLemmas.{slice_apart}
use Rattle.partition_content.proofs.content.PartitionContent.slice.Goals as goal

pub from_settled-requires-clause-apart : goal.from_settled-requires-clause-apart
from_settled-requires-clause-apart c =
    slice_apart c.args.from.now c.args.upto.now (changes_of (helds_in c.self.inside.slots.entries)) c.in_ok-changes.changes.items c.self.invariant.good.apart c.in_ok-changes.ensures.met

pub returns : goal.returns
returns c =
    subst (λ (l : List Held). IsSlice c.args.from.now c.args.upto.now l c.from_settled.result) (sym (stored_changes c.self.inside.slots.entries) ∙ ap changes_in c.self.view_is)
    (subst (λ (l : List Held). IsSlice c.args.from.now c.args.upto.now (changes_of (helds_in c.self.inside.slots.entries)) l) (sym c.from_settled.ensures) c.in_ok-changes.ensures.met)
