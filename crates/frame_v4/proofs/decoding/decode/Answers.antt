use Rattle.std.proofs.Common.{◌≡◌, ◌+◌, [], ◌++◌, take, drop, Some, None, sym, ap, ◌∙◌, arith}
use Rattle.std.specs.List.{concat}
use Rattle.std.proofs.lemmas.List.{take_all}
use Rattle.frame_v4.proofs.Streams.{one_more, all_pieces, carried, refused_by, only_reading}
use Rattle.frame_v4.proofs.decoding.decode.Goals as goal

pub loop-piece-preserved : goal.loop-piece-preserved
loop-piece-preserved c =
    let so_far = concat (take c.loop-piece.piece-index c.args.pieces.now) in
    let next = one_more c.args.pieces.now c.loop-piece.piece-index _ _ c.loop-piece-test.true c.piece-item.is c.as_slice.ensures in
    record {
      reading = c.in-Ok.ensures.reading.1;
      so_far = carried _ _ _ _ _ next (c.in_ok-append-in-Ok.ensures.items ∙ ap (λ x. c.loop-piece.frames.items ++ x) c.into_vec.ensures) (c.in-Ok.ensures.stream so_far c.loop-piece.frames.items c.loop-piece.invariant.so_far);
    }

pub returns-clause-reads : goal.returns-clause-reads
returns-clause-reads c =
    let all : concat (take c.loop-piece.piece-index c.args.pieces.now) ≡ concat c.args.pieces.now = ap concat (take_all c.loop-piece.piece-index c.args.pieces.now (omega arith)) in
    (_, carried _ _ _ _ _ all c.from_vec-2.ensures c.loop-piece.invariant.so_far)

pub returns-clause-only : goal.returns-clause-only
returns-clause-only c = only_reading (concat c.args.pieces.now) _ _ None (returns-clause-reads c).1

pub returns-in_default : goal.returns-in_default
returns-in_default c =
    let pieces = c.args.pieces.now in
    let i = c.loop-piece.piece-index in
    let so_far = concat (take i pieces) in
    let next = one_more pieces i _ _ c.loop-piece-test.true c.piece-item.is c.as_slice.ensures in
    let breaks = c.in-Err.ensures.stream_refused so_far c.loop-piece.frames.items c.loop-piece.invariant.reading (λ e. c.in_default.not-NoMemory e) c.loop-piece.invariant.so_far in
    let others = concat (drop (i + 1) pieces) in
    let frames = c.from_vec.ensures ∙ c.in_ok-append-in_default.ensures.items ∙ ap (λ x. c.loop-piece.frames.items ++ x) (c.into_vec-in_default.ensures ∙ c.taken.ensures.frames) in
    let whole = refused_by _ others (concat pieces) _ c.from_vec.result c.in-Err.error (all_pieces pieces (i + 1) ∙ ap (λ x. x ++ others) (sym next)) frames breaks in
    record { reads = ([], whole); only = only_reading (concat pieces) [] c.from_vec.result (Some c.in-Err.error) whole }
