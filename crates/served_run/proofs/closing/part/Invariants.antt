use Rattle.std.proofs.Common.{◌≡◌, ◌++◌, map, vec_items}
use Rattle.std.specs.Vec.Iter.{into_iter_items}
use Rattle.served_run.specs.Crews.{left_of, pass_of}
use Rattle.served_run.proofs.closing.part.Given as goal

-- what each list has so far, with what the rest will give it
abbrev pub invariant-loop-done : goal.invariant-loop-done
invariant-loop-done g l = record {
  passes : vec_items l.passes ++ map pass_of (into_iter_items l.done-iterator) ≡ map pass_of (vec_items l.fn.dones);
  jobs : vec_items l.jobs ++ map left_of (into_iter_items l.done-iterator) ≡ map left_of (vec_items l.fn.dones);
}
