use Rattle.std.proofs.Common.{◌≡◌, ◌-◌}
use Rattle.stored_fields.specs.Reading.{items_at}
use Rattle.stored_fields.proofs.Lists.{with_front}
use Rattle.row_change.specs.Grammar.{kind_of}
use Rattle.row_change.specs.Reading.{item_at, counted_items_at}
use Rattle.row_change.proofs.item.read_items.Given as goal

abbrev pub invariant-loop : goal.invariant-loop
invariant-loop l =
    with_front l.items.items (items_at item_at kind_of l.before (l.count - l.counter) l.reader.rest.now) ≡ counted_items_at l.count l.initial.reader.rest.now
