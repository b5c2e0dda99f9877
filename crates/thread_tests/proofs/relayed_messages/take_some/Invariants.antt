use Rattle.node_links.specs.Ends.{IsSameReceiver}
use Rattle.thread_tests.proofs.relayed_messages.take_some.Given as goal

abbrev pub invariant-loop : goal.invariant-loop
invariant-loop l = IsSameReceiver l.initial.receiver l.receiver
