use Rattle.std.proofs.Common.{ℕ, ◌-◌, List, [], ◌∷◌, ◌++◌, refl, sym, subst, ◌∙◌}
use Rattle.std.specs.Prelude.{if◌then◌else◌}
use Rattle.changes.specs.declared.Mutation.{Mutation}
use Rattle.node_core.specs.Hinting.{at, LeavesHints}
use Rattle.node_core.proofs.Timeouts.{ended_as, less_none, less_one, write_ends}
use Rattle.node_core.proofs.work.Work.end_write.Goals.{then-not-is_answered, else-not-is_answered}
use Rattle.node_core.proofs.work.Work.end_write.Goals as goal

pub returns-clause-ok : goal.returns-clause-ok
returns-clause-ok c = write_ends c.args.base.now c.args.request.now c.args.write.now (at c.args.self.now c.args.hints.now.now) (at c.leave_hints.new.self c.leave_hints.new.hints.now) (at c.if-not-is_answered.self c.leave_hints.new.hints.now) c.of.result c.in_ok-turn.turn c.requires.due
    (subst (λ (ps : List ℕ). LeavesHints ps c.args.request.now.time c.args.write.now.mutation (at c.args.self.now c.args.hints.now.now) (at c.leave_hints.new.self c.leave_hints.new.hints.now)) (c.as_slice.ensures ∙ c.in_ok-unheard.ensures)
    (subst (λ (m : Mutation). LeavesHints c.as_slice.result.now c.args.request.now.time m (at c.args.self.now c.args.hints.now.now) (at c.leave_hints.new.self c.leave_hints.new.hints.now)) c.mutation.ensures c.in_ok-leave_hints.ensures.ok))
    (elim c.if-not-is_answered.branch [
      | then-not-is_answered w ↦
          w.self-is
          ∙ ended_as c.leave_hints.new.self c.push.new.self (c.leave_hints.new.self.ended_writes ++ c.args.request.now ∷ []) (c.leave_hints.new.self.unanswered - 1) (c.leave_hints.new.self.unanswered - (if c.args.write.now.answered then 0 else 1)) c.in_ok-push.ensures.ok
          (less_one c.leave_hints.new.self.unanswered c.args.write.now.answered (sym c.is_answered.ensures ∙ w.if-not-is_answered.true))
      | else-not-is_answered w ↦
          w.self-is
          ∙ ended_as c.leave_hints.new.self c.push.new.self (c.leave_hints.new.self.ended_writes ++ c.args.request.now ∷ []) c.leave_hints.new.self.unanswered (c.leave_hints.new.self.unanswered - (if c.args.write.now.answered then 0 else 1)) c.in_ok-push.ensures.ok
          (less_none c.leave_hints.new.self.unanswered c.args.write.now.answered (sym c.is_answered.ensures ∙ w.if-not-is_answered.false))
    ]) refl c.in_ok-turn.ensures c.of.ensures.sends c.of.ensures.entries
