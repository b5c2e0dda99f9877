use Rattle.std.proofs.Common.{◌≡◌, ◌-◌}
use Rattle.request_bodies.specs.Reading.{behind_entries}
use Rattle.request_bodies.proofs.payload.skip_entries.Given as goal

abbrev pub invariant-loop : goal.invariant-loop
invariant-loop l = behind_entries (l.count - l.counter) l.rest ≡ behind_entries l.count l.bytes
