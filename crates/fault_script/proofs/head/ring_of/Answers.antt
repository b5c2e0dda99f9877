use Rattle.std.proofs.Common.{refl}
use Rattle.fault_script.proofs.Apart.{refused_fails, ring_passes}
use Rattle.fault_script.proofs.head.ring_of.Goals as goal

pub returns-in-Ok : goal.returns-in-Ok
returns-in-Ok c = (c.in-Ok.ensures.ok, ring_passes c.args.tokens.now c.new.result c.in-Ok.ring c.in-Ok.is c.new.ensures.refused)

pub returns-in-Err : goal.returns-in-Err
returns-in-Err c = (refl, refused_fails c.args.tokens.now c.in-Err.field-0 c.requires.some c.requires.few ((c.in-Err.ensures.refused c.in-Err.field-0).0 refl))
