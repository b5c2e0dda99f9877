use Rattle.cluster_model.specs.Takes.{stopped}
use Rattle.cluster_model.specs.Mails.{post_of}
use Rattle.cluster_model.specs.Sites.{keeper}
use Rattle.cluster_model.specs.Holding.{entries_in, first_of}
use Rattle.cluster_model.proofs.Changing.{Laws, crash_changes}
use Rattle.cluster_model.proofs.Whole.{changed_by}
use Rattle.cluster_model.proofs.parts.Parts.crash.Goals as goal

pub returns-clause-state : goal.returns-clause-state
returns-clause-state g c =
    let m = keeper g.R.Replica.stands_for g.R.Replica.durable g.R.Replica.disk g.R.Replica.is_whole in
    let laws : Laws m = record { safe = λ r whole. g.met.R.Replica.is_safe r tt whole; one = λ files a b. g.met.R.Replica.stand_for_one files a b } in
    let p = c.args.self.now in
    (changed_by m p c.crash_at.new.seats c.args.node stopped c.requires
    (crash_changes m laws p.setting (first_of m p.begun.items) p.seats.items c.crash_at.new.seats.items (post_of p.annals.mail) (entries_in p) c.args.node (Unit {0}) c.requires.run c.crash_at.ensures)).state

pub returns-clause-holds : goal.returns-clause-holds
returns-clause-holds g c =
    let m = keeper g.R.Replica.stands_for g.R.Replica.durable g.R.Replica.disk g.R.Replica.is_whole in
    let laws : Laws m = record { safe = λ r whole. g.met.R.Replica.is_safe r tt whole; one = λ files a b. g.met.R.Replica.stand_for_one files a b } in
    let p = c.args.self.now in
    (changed_by m p c.crash_at.new.seats c.args.node stopped c.requires
    (crash_changes m laws p.setting (first_of m p.begun.items) p.seats.items c.crash_at.new.seats.items (post_of p.annals.mail) (entries_in p) c.args.node (Unit {0}) c.requires.run c.crash_at.ensures)).holds
