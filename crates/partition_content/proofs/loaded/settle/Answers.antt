use Rattle.std.proofs.Common.{ap, sym, subst, map, List}
use Rattle.partition_content.specs.declared.Arrived.{Arrived}
use Rattle.partition_content.specs.Arrivals.{held_of}
use Rattle.partition_content.specs.Partition.{AreBare}
use Rattle.partition_content.proofs.loaded.settle.Goals as goal

pub of_run-requires-clause-bare : goal.of_run-requires-clause-bare
of_run-requires-clause-bare c = subst (λ (l : List Arrived). AreBare (map held_of l)) (sym (ap (λ v. v.items) c.replace-changes.ensures.value)) c.requires.bare
