use Rattle.std.proofs.Common.{arith, sym, ap, ◌∙◌, ◌≡◌, ◌-◌, length}
use Rattle.token_ring.specs.Tokens.{count_back}
use Rattle.token_ring.proofs.Ranges.{own_range_read}
use Rattle.token_ring.proofs.ring.Ring.range.Goals as goal

pub returns : goal.returns
returns c =
    let count : c.self.inside.nodes ≡ length c.args.self.now = sym (count_back c.self.inside.tokens c.self.inside.nodes c.self.invariant) ∙ ap length c.self.view_is in
    let last : c.self.inside.nodes - 1 ≡ length c.args.self.now - 1 = omega arith in
    rw (c.tokens-tokens.ensures.value, c.from.ensures, c.number.ensures.value, c.from-2.ensures, c.number-2.ensures.value)
    (own_range_read c.args.self.now c.args.node c.node_at-before.result c.tokens-tokens.ensures.ring c.requires
    (rw (c.tokens-tokens.ensures.value, c.from.ensures, c.number.ensures.value, last) at c.node_at-before.ensures))
