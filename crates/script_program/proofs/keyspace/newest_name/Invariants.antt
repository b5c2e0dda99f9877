use Rattle.std.proofs.Common.{◌≡◌, ◌≤◌, length, reverse, take}
use Rattle.chronicle_pieces.specs.Pieces.{joined}
use Rattle.script_program.specs.Runs.{newest}
use Rattle.script_program.proofs.keyspace.newest_name.Given as goal

-- the pieces behind those that are left have no entry
abbrev pub invariant-loop-left : goal.invariant-loop-left
invariant-loop-left l = (l.left ≤ length l.pieces) × (newest (reverse (joined l.pieces)) ≡ newest (reverse (joined (take l.left l.pieces))))

abbrev pub decreases-loop-left : goal.decreases-loop-left
decreases-loop-left l = l.left
