use Rattle.std.proofs.Common.{length}
use Rattle.frame_v4.proofs.Frames.{IsRead}
use Rattle.frame_v4.proofs.reading.push_frames.Given as goal

abbrev pub invariant-frames : goal.invariant-frames
invariant-frames l = IsRead l.initial.frames.items l.frames.items l.bytes l.rest

abbrev pub decreases-frames : goal.decreases-frames
decreases-frames l = length l.rest
