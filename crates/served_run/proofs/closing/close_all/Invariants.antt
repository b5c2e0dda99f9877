use Rattle.std.proofs.Common.{vec_items}
use Rattle.std.specs.List.{AllZip}
use Rattle.std.specs.Vec.Iter.{into_iter_items}
use Rattle.item_groups.proofs.ZipLaws.{Makes3}
use Rattle.served_run.specs.Crews.{IsBack, IsClosed}
use Rattle.served_run.proofs.closing.close_all.Given as goal

-- the locks so far are closed, and of those that are left the passes are back
abbrev pub invariant-loop-lock : goal.invariant-loop-lock
invariant-loop-lock g l = record {
  made : Makes3 (IsClosed g.N.Stepper.steps) (vec_items l.fn.locks) (vec_items l.fn.backs) (into_iter_items l.lock-iterator) (into_iter_items l.backs) (vec_items l.left);
  back : AllZip IsBack (into_iter_items l.lock-iterator) (into_iter_items l.backs);
}
