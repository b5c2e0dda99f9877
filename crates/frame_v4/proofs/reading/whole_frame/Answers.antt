use Rattle.std.proofs.Common.{◌-◌, length, drop, arith}
use Rattle.std.proofs.lemmas.List.{length-take, length-drop}
use Rattle.frame_v4.proofs.Frames.{none_whole, header_read, body_partial}
use Rattle.frame_v4.proofs.reading.whole_frame.Goals as goal

pub returns-in_default-clause-partial : goal.returns-in_default-clause-partial
returns-in_default-clause-partial c = none_whole c.args.bytes.now _ c.in_default.is c.in_ok-header.ensures

pub returns-then-after-header-clause-partial : goal.returns-then-after-header-clause-partial
returns-then-after-header-clause-partial c =
    let bytes = c.args.bytes.now in
    let read = header_read bytes _ _ c.in-Some.is c.in_ok-header.ensures in
    body_partial bytes (drop 9 bytes) _ read.0 read.1 (omega (arith, length-take (length bytes - 9) (drop 9 bytes), length-drop 9 bytes))
