use Rattle.std.proofs.Common.{◌≡◌, ◌++◌, take, map}
use Rattle.script_print.specs.Printed.{event_line, printed_lines}
use Rattle.script_print.proofs.events.push_events.Given as goal

-- the lines so far
abbrev pub invariant-loop-event : goal.invariant-loop-event
invariant-loop-event l = l.out.items ≡ l.fn.out.items ++ printed_lines (map event_line (take l.event-index l.events))
