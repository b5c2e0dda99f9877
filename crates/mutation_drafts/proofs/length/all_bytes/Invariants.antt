use Rattle.std.proofs.Common.{◌≡◌, ◌-◌, ◌^◌, min, take}
use Rattle.std.specs.List.{sum_by}
use Rattle.mutation_drafts.specs.Counted.{draft_length}
use Rattle.mutation_drafts.proofs.length.all_bytes.Given as goal

abbrev pub invariant-loop-draft : goal.invariant-loop-draft
invariant-loop-draft l = l.bytes ≡ min (sum_by draft_length (take l.draft-index l.drafts)) (2 ^ 64 - 1)
