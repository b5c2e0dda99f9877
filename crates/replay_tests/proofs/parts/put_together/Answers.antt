use Rattle.wired_node.specs.Sending.{AreDistinct}
use Rattle.served_links.specs.Nodes.{NodeEnds, ends_of}
use Rattle.replay_tests.proofs.Loaded.{all_of_map}
use Rattle.replay_tests.proofs.parts.put_together.Goals as goal

pub assemble-requires-clause-distinct : goal.assemble-requires-clause-distinct
assemble-requires-clause-distinct g c = all_of_map ends_of (λ (a : NodeEnds). AreDistinct a.senders) c.in_ok-links.links.items c.in_ok-links.ensures.distinct
