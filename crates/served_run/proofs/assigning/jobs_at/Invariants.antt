use Rattle.std.proofs.Common.{◌≡◌, length, vec_items}
use Rattle.std.specs.List.{All}
use Rattle.std.specs.Vec.Iter.{into_iter_items}
use Rattle.node_lock.specs.Passes.{IsPassOf}
use Rattle.item_groups.proofs.ZipLaws.{Makes3}
use Rattle.served_run.specs.Crews.{IsJobAt}
use Rattle.served_run.proofs.assigning.jobs_at.Given as goal

-- the jobs so far, and as many duties are left as passes
abbrev pub invariant-loop-pass : goal.invariant-loop-pass
invariant-loop-pass g l = record {
  made : Makes3 (IsJobAt l.fn.site) (vec_items l.fn.passes) (vec_items l.fn.duties) (into_iter_items l.pass-iterator) (into_iter_items l.duties) (vec_items l.jobs);
  same : length (into_iter_items l.duties) ≡ length (into_iter_items l.pass-iterator);
  of_lock : All (IsPassOf l.fn.site.lock.now) (into_iter_items l.pass-iterator);
}
