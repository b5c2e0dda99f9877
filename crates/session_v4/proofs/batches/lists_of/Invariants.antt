use Rattle.std.proofs.Common.{◌≡◌, map}
use Rattle.session_v4.specs.Sessions.{list_of}
use Rattle.session_v4.proofs.batches.lists_of.Given as goal

abbrev pub invariant-loop-entry : goal.invariant-loop-entry
invariant-loop-entry l = l.lists.items ≡ map list_of l.yielded
