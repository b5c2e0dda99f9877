use Rattle.std.proofs.Common.{refl, arith}
use Rattle.gate_log.proofs.Ends.{gate_at, gate_within}
use Rattle.gate_log.proofs.entries.gate_of.Goals as goal

pub returns-else-i-eq0-clause-place : goal.returns-else-i-eq0-clause-place
returns-else-i-eq0-clause-place c = gate_at c.args.ends.now c.args.i _ (omega arith) c.requires.inside refl

pub returns-else-i-eq0-clause-within : goal.returns-else-i-eq0-clause-within
returns-else-i-eq0-clause-within c =
    let is = gate_at c.args.ends.now c.args.i _ (omega arith) c.requires.inside refl in
    let within = gate_within c.args._bytes.now c.args.ends.now c.args.i c.requires.split c.requires.inside in
    omega (arith, is, within)
