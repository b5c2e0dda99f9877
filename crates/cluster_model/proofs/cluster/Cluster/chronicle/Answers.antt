use Rattle.std.proofs.Common.{subst}
use Rattle.answer_causes.specs.AnswersRight.{AnswersRight}
use Rattle.read_consistency.specs.ReadRight.{ReadRight}
use Rattle.reads_forward.specs.ReadsForward.{ReadsForward}
use Rattle.cluster_model.specs.State.{ClusterState, IsReached, AreFresh}
use Rattle.cluster_model.specs.Mails.{post_of}
use Rattle.cluster_model.specs.Sites.{keeper}
use Rattle.cluster_model.specs.Holding.{entries_in, first_of, state_of}
use Rattle.cluster_model.proofs.Begun.{run_reached, reached_right, reached_forward, reached_causes}
use Rattle.cluster_model.proofs.cluster.Cluster.chronicle.Goals as goal

pub returns-clause-reached : goal.returns-clause-reached
returns-clause-reached g c =
    let m = keeper g.R.Replica.stands_for g.R.Replica.durable g.R.Replica.disk g.R.Replica.is_whole in
    let p = c.self.inside.parts in
    subst IsReached c.self.view_is (run_reached m p.setting (first_of m p.begun.items) p.seats.items (post_of p.annals.mail) (entries_in p) c.self.invariant.run)

pub returns-clause-right : goal.returns-clause-right
returns-clause-right g c =
    let m = keeper g.R.Replica.stands_for g.R.Replica.durable g.R.Replica.disk g.R.Replica.is_whole in
    let p = c.self.inside.parts in
    subst (λ (v : ClusterState). AreFresh v.setting v.first → ReadRight v.setting v.chronicle) c.self.view_is
    (reached_right (state_of m p) (run_reached m p.setting (first_of m p.begun.items) p.seats.items (post_of p.annals.mail) (entries_in p) c.self.invariant.run))

pub returns-clause-forward : goal.returns-clause-forward
returns-clause-forward g c =
    let m = keeper g.R.Replica.stands_for g.R.Replica.durable g.R.Replica.disk g.R.Replica.is_whole in
    let p = c.self.inside.parts in
    subst (λ (v : ClusterState). AreFresh v.setting v.first → ReadsForward v.setting v.chronicle) c.self.view_is
    (reached_forward (state_of m p) (run_reached m p.setting (first_of m p.begun.items) p.seats.items (post_of p.annals.mail) (entries_in p) c.self.invariant.run))

pub returns-clause-causes : goal.returns-clause-causes
returns-clause-causes g c =
    let m = keeper g.R.Replica.stands_for g.R.Replica.durable g.R.Replica.disk g.R.Replica.is_whole in
    let p = c.self.inside.parts in
    subst (λ (v : ClusterState). AreFresh v.setting v.first → AnswersRight v.setting v.chronicle) c.self.view_is
    (reached_causes (state_of m p) (run_reached m p.setting (first_of m p.begun.items) p.seats.items (post_of p.annals.mail) (entries_in p) c.self.invariant.run))
