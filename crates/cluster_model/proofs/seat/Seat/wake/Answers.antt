use Rattle.std.proofs.Common.{◌≡◌, List, IfOk, OnErr, sym, subst, ◌∙◌}
use Rattle.cluster_model.specs.Sites.{keeper, Loads, WakesBy, SleepsBy}
use Rattle.cluster_model.specs.declared.told.Told.{Told}
use Rattle.cluster_model.specs.declared.seat.Part.{Part}
use Rattle.cluster_model.specs.declared.seat.Part.TheVariants.{Rests}
use Rattle.cluster_model.specs.declared.seat.Seat.{Seat}
use Rattle.cluster_model.proofs.Stores.{wakes_ok, wakes_err}
use Rattle.cluster_model.proofs.seat.Seat.wake.Goals as goal

pub returns-in-Rests-clause-ok : goal.returns-in-Rests-clause-ok
returns-in-Rests-clause-ok g c =
    let m = keeper g.R.Replica.stands_for g.R.Replica.durable g.R.Replica.disk g.R.Replica.is_whole in
    let seat : Seat g.row.R.Denot = c.args.self.now in
    let part : seat.part ≡ Rests c.in-Rests.store = sym c.replace.ensures.value ∙ c.in-Rests.is in
    subst (λ (p : Part g.row.R.Denot). IfOk c.put.result (λ ok. WakesBy m c.args.setting c.args.me seat p ok c.put.new.self)) (sym part)
    (wakes_ok m c.args.setting c.args.me seat c.put.new.self c.replace.new.dest c.in-Rests.store c.load-woken.result c.put.result (subst (λ (told : List Told). Loads m c.args.setting c.args.me told c.in-Rests.store c.load-woken.result) c.deref.ensures.value c.load-woken.ensures) c.put.ensures)

pub returns-in-Rests-clause-err : goal.returns-in-Rests-clause-err
returns-in-Rests-clause-err g c =
    let m = keeper g.R.Replica.stands_for g.R.Replica.durable g.R.Replica.disk g.R.Replica.is_whole in
    let seat : Seat g.row.R.Denot = c.args.self.now in
    let part : seat.part ≡ Rests c.in-Rests.store = sym c.replace.ensures.value ∙ c.in-Rests.is in
    subst (λ (p : Part g.row.R.Denot). OnErr c.put.result (SleepsBy m seat p c.put.new.self)) (sym part)
    (wakes_err m c.args.setting c.args.me seat c.put.new.self c.replace.new.dest c.in-Rests.store c.load-woken.result c.put.result (subst (λ (told : List Told). Loads m c.args.setting c.args.me told c.in-Rests.store c.load-woken.result) c.deref.ensures.value c.load-woken.ensures) c.put.ensures)
