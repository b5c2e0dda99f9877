use Rattle.std.proofs.Common.{◌<◌, ℕ, subst, arith}
use Rattle.std.specs.Prelude.{◌^◌}
use Rattle.node_core.proofs.LeftOpen.{begun_count, begun_fits, bit_is}
use Rattle.node_core.proofs.base.Base.insert_write.Goals as goal

pub overflow_add-self : goal.overflow_add-self
overflow_add-self c =
    let small =
    begun_fits c.args.self.now.writes.entries c.args.now c.from-waits.result c.args.self.now.unanswered c.requires.ordered.unanswered (subst (λ (n : ℕ). n < 2 ^ 63) c.len-most.ensures.len c.len-most.ensures.small)
    (bit_is c.args.now c.from-waits.result c.is_answered.result c.from-waits.ensures c.is_answered.ensures) in
    omega arith

pub returns-clause-ordered : goal.returns-clause-ordered
returns-clause-ordered c = record {
  writes = c.insert.ensures.ordered;
  reads = c.requires.ordered.reads;
  unanswered =
      begun_count c.args.self.now.writes.entries c.insert.new.self.entries c.args.request c.args.now c.from-waits.result c.args.self.now.unanswered c.requires.ordered.unanswered
      c.requires.absent c.in_ok-insert.ensures.entries
      (bit_is c.args.now c.from-waits.result c.is_answered.result c.from-waits.ensures c.is_answered.ensures);
}
