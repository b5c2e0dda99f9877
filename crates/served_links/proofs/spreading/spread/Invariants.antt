use Rattle.std.proofs.Common.{map}
use Rattle.served_links.specs.Ends.{EachLink, LeadToOthers}
use Rattle.served_links.specs.Nodes.{AreFreshEnds, ends_of, upto_of}
use Rattle.served_links.proofs.spreading.spread.Given as goal

abbrev pub invariant-loop-node : goal.invariant-loop-node
invariant-loop-node l = record { all : LeadToOthers upto_of l.node (map ends_of l.all.items); fresh : EachLink AreFreshEnds (map ends_of l.all.items) }
