use Rattle.std.proofs.Common.{sym, ◌∙◌}
use Rattle.node_core.proofs.LeftOpen.{bit_is, removed_unanswered, removed_waits}
use Rattle.node_core.proofs.base.Base.remove_write.Goals as goal

pub overflow_sub-self : goal.overflow_sub-self
overflow_sub-self c =
    removed_waits c.args.self.now.writes.entries c.args.request.now c.in-Some.write c.from.result c.args.self.now.unanswered c.requires.ordered.unanswered (sym c.remove.ensures.value ∙ c.in-Some.is)
    (bit_is c.in-Some.write c.from.result c.is_answered.result c.from.ensures c.is_answered.ensures)

pub returns-in-Some-clause-ordered : goal.returns-in-Some-clause-ordered
returns-in-Some-clause-ordered c = record {
  writes = c.remove.ensures.ordered;
  reads = c.requires.ordered.reads;
  unanswered =
      removed_unanswered c.args.self.now.writes.entries c.remove.new.self.entries c.args.request.now c.in-Some.write c.from.result c.args.self.now.unanswered c.requires.ordered.unanswered (sym c.remove.ensures.value ∙ c.in-Some.is) c.remove.ensures.entries
      (bit_is c.in-Some.write c.from.result c.is_answered.result c.from.ensures c.is_answered.ensures);
}
