use Rattle.std.proofs.Common.{vec_items}
use Rattle.std.specs.List.{AllByRecursion}
use Rattle.std.specs.Vec.Iter.{into_iter_items}
use Rattle.item_groups.proofs.ZipLaws.{MakesBoth}
use Rattle.served_run.specs.Crews.{IsOpened}
use Rattle.served_run.specs.Runs.{HasJobs}
use Rattle.served_run.proofs.opened.open_all.Given as goal

-- the nodes so far are open, and those that are left can be opened
abbrev pub invariant-loop-node : goal.invariant-loop-node
invariant-loop-node g l = record {
  made : MakesBoth (IsOpened l.fn.jobs) (vec_items l.fn.nodes) (into_iter_items l.node-iterator) (vec_items l.locks) (vec_items l.crews);
  count : AllByRecursion (HasJobs l.fn.jobs) (into_iter_items l.node-iterator);
}
