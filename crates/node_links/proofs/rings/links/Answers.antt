use Rattle.std.proofs.Common.{◌≡◌, ℕ, suc, ◌+◌, ◌∙◌, ◌++◌, List, ap, sym, append_assoc, arith}
use Rattle.node_links.proofs.PairLists.{row_of, rows_below, row_of-suc, rows_below-suc}
use Rattle.node_links.proofs.rings.links.Goals as goal

pub loop-to-preserved : goal.loop-to-preserved
loop-to-preserved g c =
    let from : ℕ = c.loop-from.from in let to : ℕ = c.loop-to.to in
    let next : to + 1 ≡ suc to = omega arith in
    record {
      pairs = c.in_ok-add.ensures.pairs ∙ rw (next, c.loop-to.invariant.pairs)
          (append_assoc (rows_below from c.args.nodes) (row_of from to) _ ∙ ap (λ (l : List (ℕ × ℕ)). rows_below from c.args.nodes ++ l) (sym (row_of-suc from to)));
      fresh = c.in_ok-add.ensures.fresh c.loop-to.invariant.fresh;
    }

pub loop-from-preserved : goal.loop-from-preserved
loop-from-preserved g c =
    let from : ℕ = c.loop-from.from in let nodes : ℕ = c.args.nodes in
    let next : from + 1 ≡ suc from = omega arith in
    let end : c.loop-to.to ≡ nodes = omega (arith, c.loop-to-test.false, c.loop-to.auto.to-end) in
    record {
      pairs = rw next (c.loop-to.invariant.pairs ∙ (ap (λ (n : ℕ). rows_below from nodes ++ row_of from n) end ∙ sym (rows_below-suc from nodes)));
      fresh = c.loop-to.invariant.fresh;
    }
