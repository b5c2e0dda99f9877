use Rattle.std.proofs.Common.{ℕ, List, take, refl, sym, subst, ◌∙◌}
use Rattle.std.proofs.lemmas.List.{take_all}
use Rattle.cs_base.proofs.Members.{front_more}
use Rattle.node_core.specs.Hinting.{at, LeavesHints}
use Rattle.node_core.proofs.Hinting.{leaves_none, leaves_more}
use Rattle.node_core.proofs.work.Work.leave_hints.Goals as goal

pub loop-peer-init : goal.loop-peer-init
loop-peer-init c = record { ok = leaves_none c.args.born c.args.mutation.now (at c.args.self.now c.args.hints.now.now); before = refl }

pub loop-peer-preserved : goal.loop-peer-preserved
loop-peer-preserved c = record {
  ok = subst (λ (ps : List ℕ). LeavesHints ps c.args.born c.args.mutation.now (at c.args.self.now c.args.hints.now.now) (at c.leave_hint.new.self c.leave_hint.new.hints.now))
      (sym (front_more c.args.peers.now c.loop-peer.peer-index c.peer-item.result c.loop-peer-test.true c.peer-item.is))
      (leaves_more (take c.loop-peer.peer-index c.args.peers.now) c.peer-item.result c.args.born c.args.mutation.now (at c.args.self.now c.args.hints.now.now) (at c.loop-peer.self c.loop-peer.hints.now) (at c.leave_hint.new.self c.leave_hint.new.hints.now)
      c.loop-peer.invariant.ok c.in_ok-leave_hint.ensures.ok);
  before = c.leave_hint.ensures.before ∙ c.loop-peer.invariant.before;
}

pub returns-clause-ok : goal.returns-clause-ok
returns-clause-ok c =
    subst (λ (ps : List ℕ). LeavesHints ps c.args.born c.args.mutation.now (at c.args.self.now c.args.hints.now.now) (at c.loop-peer.self c.loop-peer.hints.now)) (take_all c.loop-peer.peer-index c.args.peers.now c.loop-peer-test.false) c.loop-peer.invariant.ok
