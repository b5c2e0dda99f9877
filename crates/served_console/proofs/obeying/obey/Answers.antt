use Rattle.std.proofs.Common.{arith, vec_len}
use Rattle.served_console.proofs.NameLaws.{said_names}
use Rattle.served_console.proofs.obeying.obey.Goals as goal

pub ask_by-told-requires : goal.ask_by-told-requires
ask_by-told-requires g c = said_names c.read_line-said.result (vec_len c.args.nodes.now) _ c.args.line.now c.read_line-said.ensures (omega arith) (omega arith)
