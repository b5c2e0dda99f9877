use Rattle.std.proofs.Common.{◌≡◌, take}
use Rattle.cs_store.specs.Mem.{IsSameDisk, is_stopped, plan_of}
use Rattle.cluster_model.specs.Faults.{all_planned}
use Rattle.cluster_model.proofs.told.tell_all.Given as goal

abbrev pub invariant-loop-fault : goal.invariant-loop-fault
invariant-loop-fault l =
    (plan_of l.store ≡ all_planned (take l.fault-index l.told) (plan_of l.fn.store)) × IsSameDisk l.fn.store l.store × (is_stopped l.store ≡ is_stopped l.fn.store)
