use Rattle.std.proofs.Common.{◌≡◌, take}
use Rattle.event_copies.proofs.asks.copy_drafts.Given as goal

abbrev pub invariant-loop-draft : goal.invariant-loop-draft
invariant-loop-draft l = l.copy.items ≡ take l.draft-index l.drafts
