use Rattle.std.proofs.Common.{◌≡◌, map, take}
use Rattle.changes.specs.Drafts.{held_of}
use Rattle.changes.proofs.drafts.helds_of.Given as goal

abbrev pub invariant-loop-draft : goal.invariant-loop-draft
invariant-loop-draft l = l.helds.items ≡ map (held_of l.request) (take l.draft-index l.drafts)
