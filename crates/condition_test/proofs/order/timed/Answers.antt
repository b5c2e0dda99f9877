use Rattle.std.proofs.Common.{◌≡◌, ◌++◌, sym, ◌∙◌, arith}
use Rattle.std.proofs.lemmas.Grind.{common_steps}
use Rattle.std.specs.Int.{w64, to_be_bytes}
use Rattle.std.specs.Ordering.{nat_cmp, ordering_then}
use Rattle.std.specs.Cmp.Lexicographic.{slice_cmp}
use Rattle.condition_test.proofs.Times.{by_time}
use Rattle.condition_test.proofs.order.timed.Goals as goal

pub returns : goal.returns
returns c =
    let a = c.args.a.now in
    let b = c.args.b.now in
    let parts : c.then_with.result ≡ ordering_then (nat_cmp c.time.result c.time-2.result) (slice_cmp nat_cmp a b) = grind (arith, common_steps) in
    parts
    ∙ sym (by_time c.time.result c.time-2.result a b c.time.type_inv c.time-2.type_inv)
    ∙ (λ i. slice_cmp nat_cmp (to_be_bytes w64 (c.time.ensures i) ++ a) (to_be_bytes w64 (c.time-2.ensures i) ++ b))
