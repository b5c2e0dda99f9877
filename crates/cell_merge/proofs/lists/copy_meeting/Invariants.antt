use Rattle.std.proofs.Common.{take}
use Rattle.changes.specs.Queries.{MeetsBounds}
use Rattle.cell_merge.specs.Parts.{IsParted}
use Rattle.cell_merge.proofs.lists.copy_meeting.Given as goal

-- those of the changes so far
abbrev pub invariant-loop-x : goal.invariant-loop-x
invariant-loop-x l = IsParted (λ x. MeetsBounds l.from l.upto x.place) (λ x. MeetsBounds l.from l.upto x.place → ⊥) (take l.x-index l.changes) l.copies.items
