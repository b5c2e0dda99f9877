use Rattle.std.proofs.Common.{◌≡◌, map, take}
use Rattle.prepared_statement.specs.Prepared.{change_of}
use Rattle.std.specs.Prelude.{option_copied}
use Rattle.prepared_statement.proofs.prepared.changes.Given as goal

abbrev pub invariant-loop-statement : goal.invariant-loop-statement
invariant-loop-statement l = l.changes ≡ map (change_of l.schema (option_copied l.keyspace)) (take l.statement-index l.statements)
