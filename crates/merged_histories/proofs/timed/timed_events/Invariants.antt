use Rattle.std.proofs.Common.{◌≡◌, ◌≤◌, ◌+◌, ◌^◌, ◌++◌, map, drop}
use Rattle.merged_histories.specs.Timed.{timed_from, event_in}
use Rattle.merged_histories.proofs.timed.timed_events.Given as goal

abbrev pub invariant-loop-entry : goal.invariant-loop-entry
invariant-loop-entry l = record {
  so_far : l.queue.items ++ timed_from l.node l.time (map event_in (drop l.entry-index l.entries)) ≡ timed_from l.node l.fn.start (map event_in l.entries);
  within : l.time ≤ 2 ^ 64 + l.entry-index;
}
