use Rattle.std.proofs.Common.{◌≡◌, length, drop, vec_items, vec_len}
use Rattle.std.specs.Prelude.{vec_capacity}
use Rattle.item_groups.proofs.ZipLaws.{Makes2}
use Rattle.served_run.specs.Crews.{IsSiteOf}
use Rattle.served_run.proofs.assigning.sites_of.Given as goal

-- the sites so far, the number of the next one, and the room for all
abbrev pub invariant-loop-lock : goal.invariant-loop-lock
invariant-loop-lock g l = record {
  made : Makes2 (IsSiteOf l.fn.host) l.fn.locks (drop l.lock-index l.fn.locks) (vec_items l.sites);
  number : l.number ≡ l.lock-index;
  long : vec_len l.sites ≡ l.lock-index;
  room : vec_capacity l.sites ≡ length l.fn.locks;
}
