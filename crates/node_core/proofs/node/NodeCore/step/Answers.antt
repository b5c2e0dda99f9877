use Rattle.std.proofs.Common.{refl, sym, subst, ◌∙◌}
use Rattle.replica.specs.Kept.{IsKeptOf}
use Rattle.node_core.specs.Nodes.{Core}
use Rattle.node_core.proofs.Ending.{held_with, same_core, with_hints}
use Rattle.node_core.proofs.Running.{back_settled, failed_told, goes_told, log_told, on_told, others_told, running, same_told, steps_settled, steps_told}
use Rattle.node_core.proofs.node.NodeCore.step.Goals as goal

pub returns-clause-ok : goal.returns-clause-ok
returns-clause-ok g c =
    steps_told c.advance-result.result c.has_stopped.result c.self.inside.memory (with_hints c.advance-result.new.memory c.back.new.self) c.args.self.now (g.R.Replica.durable c.args.replica.now) (g.R.Replica.durable c.advance-result.new.replica) c.args.event.now g.R.Disk.Store.is_honest c.has_stopped.ensures
    (running c.self.inside.memory c.self.inside.runs c.args.self.now c.if-not-self.false c.self.view_is)
    (steps_settled c.advance-result.result c.self.inside.memory c.advance-result.new.memory c.back.new.self (g.R.Replica.durable c.args.replica.now) (g.R.Replica.durable c.advance-result.new.replica) c.args.event.now g.R.Disk.Store.is_honest c.back.ensures.before c.advance-result.ensures.ok)

pub returns-clause-same : goal.returns-clause-same
returns-clause-same g c =
    same_told c.advance-result.result c.has_stopped.result c.self.inside.memory (with_hints c.advance-result.new.memory c.back.new.self) c.args.self.now _ c.has_stopped.ensures (running c.self.inside.memory c.self.inside.runs c.args.self.now c.if-not-self.false c.self.view_is)
    (back_settled c.advance-result.result c.self.inside.memory c.advance-result.new.memory c.back.new.self c.back.ensures.before c.advance-result.ensures.back) c.advance-result.ensures.same

pub returns-clause-failed : goal.returns-clause-failed
returns-clause-failed g c = λ l told.
    failed_told c.advance-result.result c.has_stopped.result l c.self.inside.memory (with_hints c.advance-result.new.memory c.back.new.self) c.args.self.now c.has_stopped.ensures told (running c.self.inside.memory c.self.inside.runs c.args.self.now c.if-not-self.false c.self.view_is)
    (back_settled c.advance-result.result c.self.inside.memory c.advance-result.new.memory c.back.new.self c.back.ensures.before c.advance-result.ensures.back)

pub returns-clause-others : goal.returns-clause-others
returns-clause-others g c = others_told c.advance-result.result c.has_stopped.result c.has_stopped.ensures

pub returns-clause-goes_on : goal.returns-clause-goes_on
returns-clause-goes_on g c = goes_told c.advance-result.result c.has_stopped.result c.has_stopped.ensures

pub returns-clause-whole : goal.returns-clause-whole
returns-clause-whole g c = λ run. c.advance-result.ensures.whole (on_told c.advance-result.result c.has_stopped.result c.has_stopped.ensures run)

pub returns-clause-tied : goal.returns-clause-tied
returns-clause-tied g c = λ run honest.
    subst (λ (n : Core). IsKeptOf (g.R.Replica.durable c.advance-result.new.replica) n.kept) (sym (same_core c.advance-result.new.memory c.back.new.self c.back.ensures.before))
    (c.advance-result.ensures.tied (on_told c.advance-result.result c.has_stopped.result c.has_stopped.ensures run) honest)

pub returns-then-not-self-clause-others : goal.returns-then-not-self-clause-others
returns-then-not-self-clause-others g c = λ none. absurd (none c.nothing.result refl)

pub returns-clause-surely : goal.returns-clause-surely
returns-clause-surely g c = λ run all. (λ l told. c.advance-result.ensures.surely l told all, c.advance-result.ensures.spared all)

pub returns-clause-log : goal.returns-clause-log
returns-clause-log g c = log_told c.advance-result.result c.has_stopped.result _ c.has_stopped.ensures c.advance-result.ensures.log

pub invariant_of-self : goal.invariant_of-self
invariant_of-self g c = (held_with c.advance-result.new.memory c.back.new.self c.advance-result.new.memory.made c.advance-result.ensures.held, c.back.ensures.now ∙ sym c.back.ensures.before)
