use Rattle.std.proofs.Common.{◌≡◌, ◌++◌, map, take}
use Rattle.prepared_statement.specs.Slots.{relation_slot}
use Rattle.prepared_statement.proofs.slots.push_relations.Given as goal

abbrev pub invariant-loop-relation : goal.invariant-loop-relation
invariant-loop-relation l = l.slots ≡ l.fn.slots ++ map (relation_slot l.columns) (take l.relation-index l.relations)
