use Rattle.std.proofs.Common.{◌≡◌, ◌++◌, ◌≤◌, take}
use Rattle.std.specs.List.{flat_map}
use Rattle.std.specs.Prelude.{vec_len}
use Rattle.body_notations.specs.Spelling.{bytes}
use Rattle.response_bodies.proofs.cells.write_cells.Given as goal

abbrev pub invariant-loop-cell : goal.invariant-loop-cell
invariant-loop-cell l = (take l.end l.out.items ≡ l.fn.out.items ++ flat_map bytes (take l.cell-index l.cells)) × (l.end ≤ vec_len l.out)
