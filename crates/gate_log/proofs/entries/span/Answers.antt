use Rattle.std.proofs.Common.{arith}
use Rattle.gate_log.proofs.Ends.{end_within}
use Rattle.gate_log.proofs.entries.span.Goals as goal

pub returns-clause-order : goal.returns-clause-order
returns-clause-order c =
    let there = end_within 0 c.args.bytes.now c.args.ends.now c.args.i c.requires.split c.requires.inside in
    let order = there.0 in
    let place = c.gate_of.ensures.place in
    omega (arith, order, place)

pub returns-clause-within : goal.returns-clause-within
returns-clause-within c = (end_within 0 c.args.bytes.now c.args.ends.now c.args.i c.requires.split c.requires.inside).1
