use Rattle.node_links.specs.Ends.{IsSameSender}
use Rattle.thread_tests.proofs.relayed_messages.put_numbers.Given as goal

abbrev pub invariant-loop-number : goal.invariant-loop-number
invariant-loop-number l = IsSameSender l.initial.sender l.sender
