use Rattle.std.proofs.Common.{take}
use Rattle.serve_loop.proofs.HearLaws.{heard_bytes}
use Rattle.serve_loop.proofs.hearing.hear.Goals as goal

pub returns-in-Ok-Bytes-clause-input : goal.returns-in-Ok-Bytes-clause-input
returns-in-Ok-Bytes-clause-input g c =
    let before = g.L.Link.remaining c.args.link.now in
    let after = g.L.Link.remaining c.read.new.self in (
      take c.in-Ok-Bytes.count c.read.new.buffer,
      c.input_of.ensures.bytes,
      heard_bytes c.in-Ok-Bytes.field-0 c.in-Ok-Bytes.count before after c.args.buffer.now c.read.new.buffer c.in-Ok-Bytes.field-0-is c.in-Ok-Bytes.ensures.heard,
      c.input_of.ensures.input before after,
    )
