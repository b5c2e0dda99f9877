use Rattle.std.proofs.Common.{◌≡◌, take}
use Rattle.paxos_acceptor.proofs.copies.copy_changes.Given as goal

abbrev pub invariant-loop-held : goal.invariant-loop-held
invariant-loop-held l = l.copy.items ≡ take l.held-index l.changes
