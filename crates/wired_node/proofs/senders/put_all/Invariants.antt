use Rattle.std.proofs.Common.{◌≡◌, map}
use Rattle.wired_node.specs.Sending.{AreDistinct, AreLostUnlinked, ArePut, message_in}
use Rattle.wired_node.proofs.senders.put_all.Given as goal

abbrev pub invariant-loop-message : goal.invariant-loop-message
invariant-loop-message l = record {
  sent : map message_in l.sent.items ≡ l.yielded;
  put : ArePut l.sent.items l.fn.senders l.senders;
  unlinked : AreLostUnlinked l.sent.items l.fn.senders;
  distinct : AreDistinct l.senders;
}
