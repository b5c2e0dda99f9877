use Rattle.std.proofs.Common.{rules, sym, ◌∙◌}
use Rattle.cluster_model.specs.Mails.{post_of}
use Rattle.cluster_model.specs.Sites.{keeper}
use Rattle.cluster_model.specs.Holding.{entries_in, first_of}
use Rattle.cluster_model.proofs.Begun.{EmptyLaws, are_fresh, not_damaged, run_reached}
use Rattle.cluster_model.proofs.cluster.Cluster.new.Goals as goal

pub returns-in_err-parts_of-clause-damaged : goal.returns-in_err-parts_of-clause-damaged
returns-in_err-parts_of-clause-damaged g c = λ k f p is. c.in_err-parts_of.ensures.damaged k f p (search rules)

pub returns-in_err-parts_of-clause-sound : goal.returns-in_err-parts_of-clause-sound
returns-in_err-parts_of-clause-sound g c = λ are k f p is.
    let laws : EmptyLaws g.R.Replica.stands_for g.R.Replica.is_damaged = record {
      one = λ files a b. g.met.R.Replica.stand_for_one files a b;
      empty = λ files h. g.met.R.Replica.begins_empty files h;
      undamaged = λ files d f p. g.met.R.Replica.stand_undamaged files d f p;
    } in
    let from = c.in_err-parts_of.ensures.damaged k f p (search rules) in
    not_damaged g.R.Replica.stands_for g.R.Replica.is_damaged laws from.0 f p (are k from.0 from.1) from.2

pub returns-clause-fresh : goal.returns-clause-fresh
returns-clause-fresh g c = λ are.
    let m = keeper g.R.Replica.stands_for g.R.Replica.durable g.R.Replica.disk g.R.Replica.is_whole in
    let laws : EmptyLaws g.R.Replica.stands_for g.R.Replica.is_damaged = record {
      one = λ files a b. g.met.R.Replica.stand_for_one files a b;
      empty = λ files h. g.met.R.Replica.begins_empty files h;
      undamaged = λ files d f p. g.met.R.Replica.stand_undamaged files d f p;
    } in
    are_fresh g.R.Replica.stands_for g.R.Replica.is_damaged laws c.args.setting c.args.stores.items (first_of m c.in_ok-parts_of.field-0.begun.items) (sym c.args.stores.ok.0 ∙ c.requires) are c.in_ok-parts_of.ensures.begins.loaded

pub returns-clause-reached : goal.returns-clause-reached
returns-clause-reached g c =
    let m = keeper g.R.Replica.stands_for g.R.Replica.durable g.R.Replica.disk g.R.Replica.is_whole in
    let p = c.in_ok-parts_of.field-0 in
    run_reached m p.setting (first_of m p.begun.items) p.seats.items (post_of p.annals.mail) (entries_in p) c.in_ok-parts_of.ensures.holds.run
