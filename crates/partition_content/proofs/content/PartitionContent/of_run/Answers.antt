use Rattle.std.proofs.Common.{◌≡◌, ◌∙◌, ap, sym, subst, map, List}
use Rattle.changes.specs.Lengths.{changes_length}
use Rattle.partition_content.specs.declared.Arrived.{Arrived}
use Rattle.partition_content.specs.Arrivals.{held_of}
use Rattle.partition_content.specs.Partition.{AreBare}
use Rattle.partition_content.specs.Slots.{stored_of, changes_of, helds_in, IsGood}
use Rattle.partition_content.proofs.RunLemmas.{Entries, run_stored, run_changes, run_good}
use Rattle.partition_content.proofs.content.PartitionContent.of_run.Goals as goal

pub returns : goal.returns
returns c = ap stored_of c.in_ok-slots.ensures ∙ run_stored c.args.run.items

pub invariant_of-result : goal.invariant_of-result
invariant_of-result c =
    let made : c.in_ok-slots.slots.entries ≡ _ = c.in_ok-slots.ensures in
    let changes : changes_of (helds_in c.in_ok-slots.slots.entries) ≡ map held_of c.args.run.items = ap (λ (l : Entries). changes_of (helds_in l)) made ∙ run_changes c.args.run.items in
    record {
      good = subst (λ (l : Entries). IsGood (record { entries = helds_in l })) (sym made) (run_good c.args.run.items c.requires.ordered c.requires.bare);
      long = c.in-Some.ensures ∙ ap (λ (l : List Arrived). changes_length (map held_of l)) c.deref.ensures.value ∙ ap changes_length (sym changes);
      taken = tt;
      bare = λ t. subst AreBare (sym changes) c.requires.bare;
    }
