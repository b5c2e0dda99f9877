use Rattle.std.proofs.Common.{ℕ, map, subst, ◌∙◌}
use Rattle.wired_node.specs.Sending.{AreDistinct}
use Rattle.served_links.specs.Ends.{LeadToOthers}
use Rattle.served_links.specs.Nodes.{NodeEnds, ends_of, upto_of}
use Rattle.served_cluster.proofs.Lists.{all_of_map}
use Rattle.served_cluster.proofs.Moves.{wired_told}
use Rattle.served_cluster.proofs.wiring.put_together.Goals as goal

pub assemble-requires-clause-distinct : goal.assemble-requires-clause-distinct
assemble-requires-clause-distinct g c = all_of_map ends_of (λ (a : NodeEnds). AreDistinct a.senders) c.in_ok-links.links.items c.in_ok-links.ensures.distinct

pub returns : goal.returns
returns g c = wired_told c.args.nodes.items c.args.doors.items c.in_ok-links.links.items c.assemble.result
    (subst (λ (n : ℕ). LeadToOthers upto_of n (map ends_of c.in_ok-links.links.items)) (c.len.ensures ∙ c.args.nodes.ok.0) c.in_ok-links.ensures.all)
    c.in_ok-links.ensures.fresh c.assemble.ensures
