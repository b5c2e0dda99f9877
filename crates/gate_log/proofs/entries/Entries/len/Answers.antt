use Rattle.std.proofs.Common.{arith}
use Rattle.gate_log.proofs.Ends.{count_is}
use Rattle.gate_log.proofs.entries.Entries.len.Goals as goal

pub returns : goal.returns
returns c = let count = count_is _ _ _ c.self.view_is in omega (arith, count, c.len.ensures, c.self.inside.ends.ok.0)
