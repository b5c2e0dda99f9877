use Rattle.std.proofs.Common.{◌≡◌, ◌+◌, ◌++◌, length, map, vec_len}
use Rattle.std.specs.Prelude.{vec_capacity}
use Rattle.std.specs.Vec.Iter.{into_iter_items}
use Rattle.served_jobs.specs.declared.duty.Duty.TheVariants as duty
use Rattle.served_assembly.specs.Assembling.{duties_of}
use Rattle.served_assembly.proofs.assembling.duties_for.Given as goal

-- the duties so far, with those of the doors that are left, and the room for these
abbrev pub invariant-loop-door : goal.invariant-loop-door
invariant-loop-door g l = record {
  made : l.duties.items ++ map duty.Connections (into_iter_items l.door-iterator) ≡ duties_of l.fn.receivers l.fn.doors.items;
  room : vec_len l.duties + length (into_iter_items l.door-iterator) ≡ vec_capacity l.duties;
}
