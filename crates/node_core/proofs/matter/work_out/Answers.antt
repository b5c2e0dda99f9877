use Rattle.std.proofs.Common.{◌≡◌, Err, refl, ap}
use Rattle.std.proofs.lemmas.Result.{IfOk-weaker, err_from_is_err_and}
use Rattle.replica.specs.declared.error.CallError.{CallError}
use Rattle.replica.specs.declared.error.CallError.TheVariants as call_error
use Rattle.node_core.specs.Hinting.{at}
use Rattle.node_core.proofs.Looking.{peeks_on}
use Rattle.node_core.proofs.Taking.{same_cut, settled_at, taken, worked_cut, worked_out}
use Rattle.node_core.proofs.matter.work_out.Goals as goal

pub settle-requires-clause-sound : goal.settle-requires-clause-sound
settle-requires-clause-sound g c =
    (taken c.args.base.now g.R.Disk.Store.is_honest (g.R.Replica.durable c.args.replica.now) _ (at c.args.work.now c.args.hints.now.now) (at c.take.new.work c.take.new.hints.now) (at c.give.new.self c.take.new.hints.now) c.in_ok-given.given c.requires.unmoved c.requires.sound c.in_ok-given.ensures.ok c.in_ok-give.ensures refl).sound

pub returns-clause-ok : goal.returns-clause-ok
returns-clause-ok g c =
    let first = taken c.args.base.now g.R.Disk.Store.is_honest (g.R.Replica.durable c.args.replica.now) _ (at c.args.work.now c.args.hints.now.now) (at c.take.new.work c.take.new.hints.now) (at c.give.new.self c.take.new.hints.now) c.in_ok-given.given c.requires.unmoved c.requires.sound c.in_ok-given.ensures.ok c.in_ok-give.ensures refl in
    IfOk-weaker c.settle.result _ _
    (λ done settled. worked_out c.args.base.now g.R.Disk.Store.is_honest (g.R.Replica.durable c.args.replica.now) _ (at c.args.work.now c.args.hints.now.now) (at c.give.new.self c.take.new.hints.now) (at c.settle.new.work c.settle.new.hints.now) first
    (settled_at c.args.base.now g.R.Disk.Store.is_honest (g.R.Replica.durable c.take.new.replica) (g.R.Replica.durable c.args.replica.now) (at c.give.new.self c.take.new.hints.now) (at c.settle.new.work c.settle.new.hints.now) (λ honest. (c.in_ok-given.ensures.peeks.looked honest).same) settled))
    c.settle.ensures.ok

pub returns-clause-cut : goal.returns-clause-cut
returns-clause-cut g c =
    let first = taken c.args.base.now g.R.Disk.Store.is_honest (g.R.Replica.durable c.args.replica.now) _ (at c.args.work.now c.args.hints.now.now) (at c.take.new.work c.take.new.hints.now) (at c.give.new.self c.take.new.hints.now) c.in_ok-given.given c.requires.unmoved c.requires.sound c.in_ok-given.ensures.ok c.in_ok-give.ensures refl in
    λ failed honest. worked_cut c.args.base.now g.R.Disk.Store.is_honest (g.R.Replica.durable c.args.replica.now) _ (at c.args.work.now c.args.hints.now.now) (at c.give.new.self c.take.new.hints.now) c.settle.new.work first (c.settle.ensures.cut failed) honest

pub returns-clause-peeks : goal.returns-clause-peeks
returns-clause-peeks g c = peeks_on _ _ _ _ _ _ _ _ c.args.replica.now c.take.new.replica c.settle.new.replica c.in_ok-given.ensures.peeks c.settle.ensures.peeks

pub returns-in_err-given-clause-cut : goal.returns-in_err-given-clause-cut
returns-in_err-given-clause-cut g c = λ failed honest.
    let e = err_from_is_err_and c.from_residual.result c.from_residual.ensures.1 in
    let error : c.in_err-given.field-0.0 ≡ call_error.Failed = cc (e.1, e.2, failed) in
    same_cut c.args.base.now (g.R.Replica.durable c.args.replica.now) _ (at c.args.work.now c.args.hints.now.now) c.take.new.work c.requires.unmoved (c.in_err-given.ensures.same (ap (λ (x : CallError). Err x) error)) (c.in_err-given.ensures.asks (ap (λ (x : CallError). Err x) error))

pub returns-clause-surely : goal.returns-clause-surely
returns-clause-surely g c = λ failed all. c.settle.ensures.surely failed (c.in_ok-given.ensures.peeks.spared all)

pub returns-in_err-given-clause-surely : goal.returns-in_err-given-clause-surely
returns-in_err-given-clause-surely g c = λ failed.
    let e = err_from_is_err_and c.from_residual.result c.from_residual.ensures.1 in
    let error : c.in_err-given.field-0.0 ≡ call_error.Failed = cc (e.1, e.2, failed) in
    c.in_err-given.ensures.surely (ap (λ (x : CallError). Err x) error)
