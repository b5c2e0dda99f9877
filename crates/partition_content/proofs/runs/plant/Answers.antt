use Rattle.std.proofs.Common.{◌∙◌, subst, sym}
use Rattle.std.specs.List.Sorted.{IsStrictlySortedBy}
use Rattle.std.specs.Map.{keys_of}
use Rattle.partition_content.specs.Spots.{spot_cmp}
use Rattle.partition_content.proofs.RunLemmas.{Entries, if_ok_weaker, run_sorted, tree_of}
use Rattle.partition_content.proofs.runs.plant.Goals as goal

pub returns : goal.returns
returns c =
    if_ok_weaker c.collect.result _ _
    (λ n made. tree_of c.in_ok-entries.entries.items n made (subst (λ (l : Entries). IsStrictlySortedBy spot_cmp (keys_of l)) (sym c.in_ok-entries.ensures) (run_sorted c.args.run.items c.requires)) ∙ c.in_ok-entries.ensures)
    c.collect.ensures
