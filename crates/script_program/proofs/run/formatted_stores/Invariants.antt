use Rattle.std.proofs.Common.{◌≡◌, length}
use Rattle.cluster_model.specs.Beginning.{AreFormatted}
use Rattle.script_program.proofs.run.formatted_stores.Given as goal

abbrev pub invariant-loop : goal.invariant-loop
invariant-loop l = (length l.stores.items ≡ l.counter) × AreFormatted l.stores.items
