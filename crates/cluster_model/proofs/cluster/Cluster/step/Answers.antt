use Rattle.std.proofs.Common.{subst}
use Rattle.cluster_model.specs.State.{ClusterState, KeepsOn}
use Rattle.cluster_model.specs.Mails.{post_of}
use Rattle.cluster_model.specs.Sites.{keeper}
use Rattle.cluster_model.specs.Holding.{entries_in, first_of, state_of}
use Rattle.cluster_model.proofs.Begun.{run_reached, reached_right, reached_forward, reached_causes}
use Rattle.cluster_model.proofs.Keeping.{either_keeps}
use Rattle.cluster_model.proofs.cluster.Cluster.step.Goals as goal

pub returns-clause-keeps : goal.returns-clause-keeps
returns-clause-keeps g c =
    let m = keeper g.R.Replica.stands_for g.R.Replica.durable g.R.Replica.disk g.R.Replica.is_whole in
    let p = c.self.inside.parts in
    let q = c.take_event.new.self in
    subst (λ (v : ClusterState). KeepsOn v (state_of m q)) c.self.view_is (either_keeps c.take_event.result (state_of m p) (state_of m q) c.args.event c.take_event.ensures.ok c.take_event.ensures.err)

pub returns-clause-reached : goal.returns-clause-reached
returns-clause-reached g c =
    let m = keeper g.R.Replica.stands_for g.R.Replica.durable g.R.Replica.disk g.R.Replica.is_whole in
    let p = c.self.inside.parts in
    let q = c.take_event.new.self in
    run_reached m q.setting (first_of m q.begun.items) q.seats.items (post_of q.annals.mail) (entries_in q) c.take_event.ensures.holds.run

pub returns-clause-right : goal.returns-clause-right
returns-clause-right g c =
    let m = keeper g.R.Replica.stands_for g.R.Replica.durable g.R.Replica.disk g.R.Replica.is_whole in
    let p = c.self.inside.parts in
    let q = c.take_event.new.self in
    reached_right (state_of m q) (run_reached m q.setting (first_of m q.begun.items) q.seats.items (post_of q.annals.mail) (entries_in q) c.take_event.ensures.holds.run)

pub returns-clause-forward : goal.returns-clause-forward
returns-clause-forward g c =
    let m = keeper g.R.Replica.stands_for g.R.Replica.durable g.R.Replica.disk g.R.Replica.is_whole in
    let p = c.self.inside.parts in
    let q = c.take_event.new.self in
    reached_forward (state_of m q) (run_reached m q.setting (first_of m q.begun.items) q.seats.items (post_of q.annals.mail) (entries_in q) c.take_event.ensures.holds.run)

pub returns-clause-causes : goal.returns-clause-causes
returns-clause-causes g c =
    let m = keeper g.R.Replica.stands_for g.R.Replica.durable g.R.Replica.disk g.R.Replica.is_whole in
    let p = c.self.inside.parts in
    let q = c.take_event.new.self in
    reached_causes (state_of m q) (run_reached m q.setting (first_of m q.begun.items) q.seats.items (post_of q.annals.mail) (entries_in q) c.take_event.ensures.holds.run)
