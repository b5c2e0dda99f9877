-- A statement that changes rows, alone or in a batch.
use Rattle.cql_statement.specs.declared.modification.Modification.{Modification}
use Rattle.cql_statement.specs.declared.modification.Modification.TheVariants as modifications
use Rattle.prepared_statement.specs.declared.changing.Changing.{Changing}
use Rattle.prepared_statement.specs.declared.changing.Changing.TheVariants.{Insert, Update, Delete}

abbrev pub modification_in : Changing → Modification
modification_in (Insert i) = modifications.Insert i.now
modification_in (Update u) = modifications.Update u.now
modification_in (Delete d) = modifications.Delete d.now
