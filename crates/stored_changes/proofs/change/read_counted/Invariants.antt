use Rattle.std.proofs.Common.{◌≡◌, ◌-◌}
use Rattle.stored_fields.specs.Reading.{items_at}
use Rattle.stored_fields.proofs.Lists.{with_front}
use Rattle.stored_changes.specs.Reading.{change_at, place_of, last_place, counted_at}
use Rattle.stored_changes.proofs.change.read_counted.Given as goal

abbrev pub invariant-loop : goal.invariant-loop
invariant-loop l =
    with_front l.changes.items (items_at change_at place_of (last_place l.changes.items) (l.count - l.counter) l.reader.rest.now) ≡ counted_at l.count l.initial.reader.rest.now
