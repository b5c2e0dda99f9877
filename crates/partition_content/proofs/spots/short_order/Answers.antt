use Rattle.std.proofs.Common.{◌≡◌, ◌∙◌, ℕ, arith}
use Rattle.partition_content.proofs.SpotLemmas.{rest_end}
use Rattle.partition_content.proofs.spots.short_order.Goals as goal

pub returns : goal.returns
returns c =
    let within = c.loop-at.invariant.within in
    let past = c.loop-at-test.false in
    let at : ℕ = c.loop-at.at in
    let all : at ≡ c.min-at-end.result = omega (arith, within, past) in
    rest_end c.args.row.now c.args.beside.now at c.cmp-2.result (all ∙ c.loop-at.invariant.end) c.cmp-2.ensures c.loop-at.invariant.rest
