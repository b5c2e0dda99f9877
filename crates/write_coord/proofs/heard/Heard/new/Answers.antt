use Rattle.std.proofs.Common.{refl, arith}
use Rattle.write_coord.proofs.Nodes.{no_nodes}
use Rattle.write_coord.proofs.heard.Heard.new.Goals as goal

pub invariant_of-result-2 : goal.invariant_of-result-2
invariant_of-result-2 c = (refl, omega arith, no_nodes)
