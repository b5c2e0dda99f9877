use Rattle.std.proofs.Common.{◌≡◌, None, take}
use Rattle.std.specs.List.{concat}
use Rattle.frame_v4.specs.Stream.{Splits}
use Rattle.frame_v4.proofs.decoding.decode.Given as goal

abbrev pub invariant-loop-piece : goal.invariant-loop-piece
invariant-loop-piece l = record {
  reading : l.framer.refusal ≡ None;
  so_far : Splits (concat (take l.piece-index l.pieces)) l.frames.items l.framer.held;
}
