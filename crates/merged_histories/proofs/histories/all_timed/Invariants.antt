use Rattle.std.proofs.Common.{◌≡◌, drop, []}
use Rattle.merged_histories.specs.Merging.{merged_on}
use Rattle.merged_histories.proofs.histories.all_timed.Given as goal

abbrev pub invariant-loop-number : goal.invariant-loop-number
invariant-loop-number l = merged_on l.number (drop l.number l.histories) l.all.items ≡ merged_on 0 l.histories []
