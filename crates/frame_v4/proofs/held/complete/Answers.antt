use Rattle.frame_v4.proofs.held.complete.Goals as goal

pub from_slice-requires : goal.from_slice-requires
from_slice-requires c =
    let adds = rw c.in-None.is at c.in_ok-rest.ensures in
    adds.reads.partial
