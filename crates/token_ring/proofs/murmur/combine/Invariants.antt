use Rattle.std.proofs.Common.{◌≡◌}
use Rattle.token_ring.specs.Murmur.{tail_word}
use Rattle.token_ring.proofs.murmur.combine.Given as goal

abbrev pub invariant-loop-i : goal.invariant-loop-i
invariant-loop-i l = l.word ≡ tail_word l.bytes l.i
