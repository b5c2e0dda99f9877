use Rattle.std.proofs.Common.{◌≡◌, List, take}
use Rattle.prepared_statement.specs.declared.prepared.Prepared.{Prepared}
use Rattle.session_v4.specs.Sessions.{AreStatements, changes_of, state_in}
use Rattle.session_v4.proofs.batches.entries_of.Given as goal

abbrev pub invariant-loop-entry : goal.invariant-loop-entry
invariant-loop-entry l =
    (ps : List Prepared) × AreStatements (state_in l.session) (take l.entry-index l.entries) ps × (l.changes ≡ changes_of ps)
