use Rattle.std.proofs.Common.{refl, arith}
use Rattle.std.proofs.lemmas.List.{length-append}
use Rattle.frame_v4.specs.declared.held.Held.{Held}
use Rattle.frame_v4.proofs.Holding.{parts, splits_here, body_on, completed}
use Rattle.frame_v4.proofs.held.Held.advance_body.Goals as goal

pub returns-then-piece-missing-clause-reads : goal.returns-then-piece-missing-clause-reads
returns-then-piece-missing-clause-reads c =
    let held = c.args.self.now in
    let new : Held = record { header = c.args.bytes; header_len = 9; body = c.extend_from_slice.new.self } in
    let on = body_on held new c.args.piece.now c.args.header c.requires.passes c.requires.spelled refl c.in_ok-extend_from_slice.ensures.items (omega (arith, held.body.ok.0, c.if-piece-missing.true)) in
    splits_here _ _ _ _ on.0 on.1.partial c.nothing.ensures.frames c.nothing.ensures.refusal

pub returns-then-piece-missing-clause-held : goal.returns-then-piece-missing-clause-held
returns-then-piece-missing-clause-held c =
    let held = c.args.self.now in
    let new : Held = record { header = c.args.bytes; header_len = 9; body = c.extend_from_slice.new.self } in
    (body_on held new c.args.piece.now c.args.header c.requires.passes c.requires.spelled refl c.in_ok-extend_from_slice.ensures.items (omega (arith, held.body.ok.0, c.if-piece-missing.true))).1

pub returns-clause-reads : goal.returns-clause-reads
returns-clause-reads c =
    let held = c.args.self.now in
    let piece = c.args.piece.now in
    let split = parts _ piece _ _ c.split_at.ensures.front c.split_at.ensures.back in
    completed c.args.bytes held.body.items piece _ _ c.args.header _ _ _ split c.requires.passes c.requires.spelled (omega (arith, length-append held.body.items c.split_at.result.0.now, held.body.ok.0, c.split_at.ensures.front_len)) c.in_ok-decoded.ensures.reads
