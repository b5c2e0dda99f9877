use Rattle.frame_v4.specs.Stream.{IsPartial}
use Rattle.frame_v4.proofs.Frames.{read_to_partial}
use Rattle.frame_v4.proofs.reading.push_frames.Goals as goal

pub returns-in-Ok-None : goal.returns-in-Ok-None
returns-in-Ok-None c =
    let partial : IsPartial c.frames.rest.now = rw c.in-Ok-None.field-0-is at c.in-Ok-None.ensures.partial in
    read_to_partial _ _ _ _ c.frames.invariant partial
