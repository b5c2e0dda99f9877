use Rattle.std.proofs.Common.{refl, sym, ap, subst, ◌∙◌, Ok}
use Rattle.cluster_model.specs.State.{ClusterState}
use Rattle.cluster_model.specs.Takes.{Settles}
use Rattle.cluster_model.specs.Sites.{keeper}
use Rattle.cluster_model.specs.Holding.{state_of}
use Rattle.cluster_model.proofs.Settling.{settles_more, settles_idle}
use Rattle.cluster_model.proofs.parts.Parts.settle.Goals as goal

pub returns-then-not-branch-clause-ok : goal.returns-then-not-branch-clause-ok
returns-then-not-branch-clause-ok g c =
    let m = keeper g.R.Replica.stands_for g.R.Replica.durable g.R.Replica.disk g.R.Replica.is_whole in
    let none = c.deliver_oldest.ensures.none (c.in_ok-deliver_oldest.was ∙ ap Ok c.if-not-branch.true) in
    let before = c.loop.auto.counter-end in
    subst (λ (v : ClusterState). Settles c.args.count (state_of m c.args.self.now) v) (sym none.1)
    (settles_idle c.loop.counter c.args.count (state_of m c.args.self.now) (state_of m c.loop.self) before c.loop.invariant.1 none.0)

pub loop-preserved : goal.loop-preserved
loop-preserved g c =
    let m = keeper g.R.Replica.stands_for g.R.Replica.durable g.R.Replica.disk g.R.Replica.is_whole in (
      c.deliver_oldest.ensures.holds,
      settles_more c.loop.counter _ (state_of m c.args.self.now) (state_of m c.loop.self) (state_of m c.deliver_oldest.new.self) c.loop.invariant.1 c.in_ok-deliver_oldest.ensures.ok refl,
    )
