use Rattle.cluster_model.specs.Takes.{set_clock}
use Rattle.cluster_model.specs.Mails.{post_of}
use Rattle.cluster_model.specs.Sites.{keeper}
use Rattle.cluster_model.specs.Holding.{entries_in, first_of}
use Rattle.cluster_model.proofs.Changing.{clock_changes}
use Rattle.cluster_model.proofs.Whole.{changed_by}
use Rattle.cluster_model.proofs.parts.Parts.put_clock.Goals as goal

pub returns-clause-state : goal.returns-clause-state
returns-clause-state g c =
    let m = keeper g.R.Replica.stands_for g.R.Replica.durable g.R.Replica.disk g.R.Replica.is_whole in
    let p = c.args.self.now in
    (changed_by m p c.clock_at.new.seats c.args.node (set_clock c.args.micros) c.requires
    (clock_changes m p.setting (first_of m p.begun.items) p.seats.items c.clock_at.new.seats.items (post_of p.annals.mail) (entries_in p) c.args.node c.args.micros (Unit {0}) c.requires.run c.clock_at.ensures.seats)).state

pub returns-clause-holds : goal.returns-clause-holds
returns-clause-holds g c =
    let m = keeper g.R.Replica.stands_for g.R.Replica.durable g.R.Replica.disk g.R.Replica.is_whole in
    let p = c.args.self.now in
    (changed_by m p c.clock_at.new.seats c.args.node (set_clock c.args.micros) c.requires
    (clock_changes m p.setting (first_of m p.begun.items) p.seats.items c.clock_at.new.seats.items (post_of p.annals.mail) (entries_in p) c.args.node c.args.micros (Unit {0}) c.requires.run c.clock_at.ensures.seats)).holds
