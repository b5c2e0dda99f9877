use Rattle.std.proofs.Common.{◌≡◌, ℕ, ◌+◌, ◌++◌, List, length, take, IfOk, refl, sym, ap, subst, ◌∙◌, append_assoc, arith}
use Rattle.std.proofs.lemmas.List.{take_all}
use Rattle.frame_v4.specs.Stream.{Reads}
use Rattle.frame_v4.specs.Reading.{held_bytes}
use Rattle.frame_v4.specs.declared.held.Held.{Held}
use Rattle.frame_v4.proofs.Frames.{header_read}
use Rattle.frame_v4.proofs.Holding.{parts, joined, breaks_here, splits_here, header_on, whole_header, body_fits, held_after}
use Rattle.frame_v4.proofs.held.Held.advance.Goals as goal

pub advance_body-requires-clause-spelled : goal.advance_body-requires-clause-spelled
advance_body-requires-clause-spelled c =
    let read = header_read _ _ _ c.in-Ok-Some.field-0-is c.in-Ok-Some.ensures in
    (whole_header c.extended-bytes.result _ c.in-Ok-Some.header c.extended-bytes.ensures.len (omega arith) read.1).1

pub advance_body-requires-clause-less : goal.advance_body-requires-clause-less
advance_body-requires-clause-less c =
    let held = c.args.self.now in
    let read = header_read _ _ _ c.in-Ok-Some.field-0-is c.in-Ok-Some.ensures in
    let all = whole_header c.extended-bytes.result _ c.in-Ok-Some.header c.extended-bytes.ensures.len (omega arith) read.1 in
    let less = body_fits held c.extended-bytes.result c.split_at.result.0.now c.in-Ok-Some.header c.requires c.extended-bytes.ensures.bytes (omega arith) all.0 c.extended-bytes.ensures.len read.0 all.1 in
    omega (arith, held.body.ok.0, less)

pub returns-in-Err-clause-reads : goal.returns-in-Err-clause-reads
returns-in-Err-clause-reads c =
    let held = c.args.self.now in
    let piece = c.args.piece.now in
    let front = c.split_at.result.0.now in
    let after = c.split_at.result.1.now in
    let split = parts _ piece front after c.split_at.ensures.front c.split_at.ensures.back in
    let on = joined held.header_len (take held.header_len held.header) held.body.items piece front after c.requires.in_order (omega arith) split in
    breaks_here _ (take (held.header_len + length front) c.extended-bytes.result) (held.body.items ++ after) _ _ _ _
    (on ∙ ap (λ (x : List ℕ). x ++ held.body.items ++ after) (sym c.extended-bytes.ensures.bytes) ∙ append_assoc (take (held.header_len + length front) c.extended-bytes.result) held.body.items after) c.in-Err.ensures c.nothing.ensures.frames c.nothing.ensures.refusal

pub returns-in-Ok-None-clause-reads : goal.returns-in-Ok-None-clause-reads
returns-in-Ok-None-clause-reads c =
    let held = c.args.self.now in
    let new : Held = record { header = c.extended-bytes.result; header_len = held.header_len + length c.split_at.result.0.now; body = held.body } in
    let none = rw c.in-Ok-None.field-0-is at c.in-Ok-None.ensures in
    let on = header_on held new _ c.args.piece.now _ _ c.requires c.min.ensures c.split_at.ensures.front c.split_at.ensures.back refl c.extended-bytes.ensures.bytes c.extended-bytes.ensures.len refl none.0 none.1 in
    splits_here _ _ _ _ on.0 on.1.partial c.nothing-in-Ok-None.ensures.frames c.nothing-in-Ok-None.ensures.refusal

pub returns-in-Ok-None-clause-held : goal.returns-in-Ok-None-clause-held
returns-in-Ok-None-clause-held c =
    let held = c.args.self.now in
    let new : Held = record { header = c.extended-bytes.result; header_len = held.header_len + length c.split_at.result.0.now; body = held.body } in
    let none = rw c.in-Ok-None.field-0-is at c.in-Ok-None.ensures in
    (header_on held new _ c.args.piece.now _ _ c.requires c.min.ensures c.split_at.ensures.front c.split_at.ensures.back refl c.extended-bytes.ensures.bytes c.extended-bytes.ensures.len refl none.0 none.1).1

pub returns-in-Ok-Some-clause-reads : goal.returns-in-Ok-Some-clause-reads
returns-in-Ok-Some-clause-reads c =
    let held = c.args.self.now in
    let piece = c.args.piece.now in
    let front = c.split_at.result.0.now in
    let after = c.split_at.result.1.now in
    let bytes = c.extended-bytes.result in
    let read = header_read _ _ _ c.in-Ok-Some.field-0-is c.in-Ok-Some.ensures in
    let all = whole_header bytes _ c.in-Ok-Some.header c.extended-bytes.ensures.len (omega arith) read.1 in
    let split = parts _ piece front after c.split_at.ensures.front c.split_at.ensures.back in
    let on = joined held.header_len (take held.header_len held.header) held.body.items piece front after c.requires.in_order (omega arith) split in
    let same : held_bytes held ++ piece ≡ bytes ++ held.body.items ++ after =
    on ∙ ap (λ (x : List ℕ). x ++ held.body.items ++ after) (sym c.extended-bytes.ensures.bytes ∙ take_all (held.header_len + length front) bytes (omega (arith, all.0, c.extended-bytes.ensures.len))) in
    subst (λ (s : List ℕ). IfOk c.advance_body.result (λ decoded. Reads s decoded.frames (held_bytes c.advance_body.new.self) decoded.refusal)) (sym same) c.advance_body.ensures.reads

pub returns-in-Ok-Some-clause-held : goal.returns-in-Ok-Some-clause-held
returns-in-Ok-Some-clause-held c = held_after c.advance_body.result c.args.self.now _ c.requires c.advance_body.ensures.held c.advance_body.ensures.err
