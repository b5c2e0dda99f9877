use Rattle.std.proofs.Common.{◌≡◌, length, sym, ap, ◌∙◌}
use Rattle.merkle_tree.specs.Digests.{differing}
use Rattle.merkle_tree.proofs.Differences.{found_where_different}
use Rattle.merkle_tree.proofs.differing.differing_leaves.Goals as goal

pub returns-clause-each : goal.returns-clause-each
returns-clause-each c =
    let first = c.as_slice.ensures.value in
    let second = c.as_slice-2.ensures.value in
    let found : c.differing_digests.result ≡ differing c.args.a.now c.args.b.now = rw (first, second) at c.differing_digests.ensures in
    rw found (found_where_different c.args.a.now c.args.b.now (ap length (sym first) ∙ c.as_slice.ensures.count) (ap length (sym second) ∙ c.as_slice-2.ensures.count))
