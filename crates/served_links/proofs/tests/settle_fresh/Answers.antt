use Rattle.std.proofs.Common.{map}
use Rattle.served_links.specs.Nodes.{ends_of, upto_of}
use Rattle.served_links.proofs.Linked.{each_linked}
use Rattle.served_links.proofs.Rows.{are_even}
use Rattle.served_links.proofs.tests.settle_fresh.Goals as goal

pub settle-requires-clause-even : goal.settle-requires-clause-even
settle-requires-clause-even c = (c.args.nodes, are_even upto_of c.args.nodes (map ends_of c.in_ok-all.all.items) c.in_ok-all.ensures.all)

pub settle-requires-clause-links : goal.settle-requires-clause-links
settle-requires-clause-links c = each_linked (map ends_of c.in_ok-all.all.items) c.in_ok-all.ensures.fresh
