use Rattle.std.proofs.Common.{drop, vec_items}
use Rattle.std.specs.List.{AllZip}
use Rattle.std.specs.Vec.Iter.{into_iter_items}
use Rattle.item_groups.proofs.ZipLaws.{Makes3}
use Rattle.served_run.specs.Crews.{IsDeskOf, IsManned}
use Rattle.served_run.proofs.WorkLaws.{AreTasksSoFar}
use Rattle.served_run.proofs.assigning.assign.Given as goal

-- the jobs and the console's parts so far, and the crews that are left stand beside the sites that are left
abbrev pub invariant-loop-site : goal.invariant-loop-site
invariant-loop-site g l = record {
  jobs : AreTasksSoFar l.fn.sites (vec_items l.fn.crews) (drop l.site-index l.fn.sites) (into_iter_items l.crews) (vec_items l.assigned.jobs);
  operated : Makes3 IsDeskOf l.fn.sites (vec_items l.fn.crews) (drop l.site-index l.fn.sites) (into_iter_items l.crews) (vec_items l.assigned.operated);
  manned : AllZip IsManned (drop l.site-index l.fn.sites) (into_iter_items l.crews);
}
