use Rattle.std.proofs.Common.{◌≡◌, ◌≤◌, length}
use Rattle.std.specs.List.{range_with_len}
use Rattle.peer_messages.specs.Settings.{up_of}
use Rattle.chronicle_pieces.proofs.alive.Alive.beside.Given as goal

abbrev pub invariant-loop-number : goal.invariant-loop-number
invariant-loop-number l = (l.alive ≡ up_of l.fn.down (range_with_len 0 l.number)) × (length l.alive ≤ l.number)
