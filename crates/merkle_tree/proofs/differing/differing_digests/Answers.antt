use Rattle.std.proofs.Common.{arith, sym, ◌∙◌}
use Rattle.merkle_tree.specs.Digests.{differ_at}
use Rattle.merkle_tree.proofs.Differences.{none_yet, one_more, none_more, all_passing}
use Rattle.merkle_tree.proofs.differing.differing_digests.Goals as goal
use Rattle.merkle_tree.proofs.differing.differing_digests.Goals.{then-ne, else-ne}

pub loop-leaf-init : goal.loop-leaf-init
loop-leaf-init c = c.new-differing.ensures ∙ none_yet (differ_at c.args.a.now c.args.b.now)

pub loop-leaf-preserved : goal.loop-leaf-preserved
loop-leaf-preserved c =
    let test = differ_at c.args.a.now c.args.b.now in
    elim c.if-ne.branch [
      | then-ne w ↦ w.differing-is ∙ w.insert.ensures ∙ one_more test c.loop-leaf.leaf c.loop-leaf.differing c.loop-leaf.invariant (sym c.ne.ensures ∙ w.if-ne.true)
      | else-ne w ↦ w.differing-is ∙ none_more test c.loop-leaf.leaf c.loop-leaf.differing c.loop-leaf.invariant (sym c.ne.ensures ∙ w.if-ne.false)
    ]

pub returns : goal.returns
returns c = c.loop-leaf.invariant ∙ all_passing (differ_at c.args.a.now c.args.b.now) c.loop-leaf.leaf (omega arith)
