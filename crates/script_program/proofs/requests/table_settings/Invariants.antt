use Rattle.std.proofs.Common.{◌≡◌, map, take}
use Rattle.script_program.specs.Requests.{table_setting}
use Rattle.script_program.proofs.requests.table_settings.Given as goal

abbrev pub invariant-loop-table : goal.invariant-loop-table
invariant-loop-table l = l.settings ≡ map table_setting (take l.table-index l.tables)
