use Rattle.std.proofs.Common.{refl, add-one}
use Rattle.token_ring.specs.Murmur.{tail_word}
use Rattle.token_ring.proofs.murmur.combine.Goals as goal

pub loop-i-init : goal.loop-i-init
unfolding tail_word
loop-i-init c = refl

pub loop-i-preserved : goal.loop-i-preserved
unfolding tail_word
loop-i-preserved c = rw (c.loop-i.invariant, c.sign_extend.ensures, add-one) refl
