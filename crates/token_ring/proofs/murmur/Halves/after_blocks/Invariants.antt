use Rattle.std.proofs.Common.{◌≡◌}
use Rattle.token_ring.specs.Murmur.{after_blocks}
use Rattle.token_ring.proofs.murmur.Halves.after_blocks.Given as goal

abbrev pub invariant-loop-block : goal.invariant-loop-block
invariant-loop-block l = l.halves ≡ after_blocks l.key l.block
