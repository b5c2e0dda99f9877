use Rattle.std.proofs.Common.{sym, subst}
use Rattle.cell_merge.specs.Settled.{IsSettled}
use Rattle.cell_merge.proofs.Settled.{settled_nil}
use Rattle.cell_merge.proofs.content.Content.new.Goals as goal

pub invariant_of-result : goal.invariant_of-result
invariant_of-result c = subst IsSettled (sym c.new.ensures.items) settled_nil
