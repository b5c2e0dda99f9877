use Rattle.std.proofs.Common.{arith, ◌≡◌, ◌∙◌, ap, sym, true, false, length, filter}
use Rattle.std.specs.List.{range_with_len}
use Rattle.cs_base.specs.Leaves.{is_leaf_of}
use Rattle.cs_base.proofs.LeafSets.{count_more, count_all}
use Rattle.cs_base.proofs.leaves.LeafSet.len.Goals as goal
use Rattle.cs_base.proofs.leaves.LeafSet.len.Goals.{then-is_set, else-is_set}

pub loop-leaf-preserved : goal.loop-leaf-preserved
loop-leaf-preserved c =
    elim c.if-is_set.branch [
      | then-is_set w ↦ (omega arith, count_more c.self.inside.bits c.loop-leaf.leaf c.loop-leaf.count c.if-is_set.count true (sym w.if-is_set.true ∙ c.is_set.ensures) c.loop-leaf.invariant.1 w.count-is)
      | else-is_set w ↦ (omega arith, count_more c.self.inside.bits c.loop-leaf.leaf c.loop-leaf.count c.if-is_set.count false (sym w.if-is_set.false ∙ c.is_set.ensures) c.loop-leaf.invariant.1 (omega arith))
    ]

pub returns : goal.returns
returns c =
    let last : c.loop-leaf.leaf ≡ 256 = omega arith in
    c.loop-leaf.invariant.1 ∙ ap (λ n. length (filter (is_leaf_of c.self.inside.bits) (range_with_len 0 n))) last ∙ count_all c.self.inside.bits c.args.self.now c.self.view_is
