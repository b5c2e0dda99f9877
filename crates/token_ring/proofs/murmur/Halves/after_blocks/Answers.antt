use Rattle.std.proofs.Common.{refl, add-one, ap, ◌∙◌, ◌≡◌, ℕ, ◌*◌, ◌+◌, ◌-◌, List, take, drop, arith}
use Rattle.token_ring.specs.declared.murmur.Halves.{Halves}
use Rattle.token_ring.specs.Murmur.{after_blocks, with_block, block_at}
use Rattle.token_ring.proofs.murmur.Halves.after_blocks.Goals as goal

-- one more block
one_more : (key : List ℕ) (i : ℕ) (before after : Halves) → before ≡ after_blocks key i
    → after ≡ with_block before (take (16 * i + 16 - 16 * i) (drop (16 * i) key)) → after ≡ after_blocks key (i + 1)
unfolding after_blocks
one_more key i before after so_far taken =
    let size : 16 * i + 16 - 16 * i ≡ 16 = omega arith in
    taken
    ∙ ap (λ n. with_block before (take n (drop (16 * i) key))) size
    ∙ rw add-one (ap (λ (h : Halves). with_block h (block_at key i)) so_far)

pub loop-block-init : goal.loop-block-init
unfolding after_blocks
loop-block-init c = refl

pub loop-block-preserved : goal.loop-block-preserved
loop-block-preserved c = one_more c.args.key.now c.loop-block.block c.loop-block.halves c.with_block-halves.result c.loop-block.invariant c.with_block-halves.ensures
