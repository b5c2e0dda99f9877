use Rattle.std.proofs.Common.{◌≡◌, ◌-◌}
use Rattle.body_notations.specs.Reading.{items_at}
use Rattle.body_notations.proofs.Loop.{with_front}
use Rattle.body_notations.proofs.notation.read_items.Given as goal

abbrev pub invariant-loop : goal.invariant-loop
invariant-loop g l = with_front l.items.items (items_at g.T.Notation.reading (l.count - l.counter) l.rest) ≡ items_at g.T.Notation.reading l.count l.bytes
