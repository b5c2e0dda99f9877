use Rattle.std.proofs.Common.{rules, ◌≡◌, Err, refl, sym, ap, subst, ◌∙◌, arith}
use Rattle.std.proofs.lemmas.Result.{err_from_is_err_and}
use Rattle.replica.specs.declared.error.CallError.{CallError}
use Rattle.replica.specs.declared.error.CallError.TheVariants as call_error
use Rattle.node_core.specs.declared.work.Work.{Work}
use Rattle.node_core.specs.Hinting.{at}
use Rattle.node_core.specs.Moving.{IsCut}
use Rattle.node_core.specs.Working.{weight}
use Rattle.node_core.proofs.Looking.{peeks_none, peeks_on}
use Rattle.node_core.proofs.Settling.{along_end, along_more, along_none, by_at, by_lighter, popped_cuts, pops_by}
use Rattle.node_core.proofs.matter.settle.Goals as goal

pub loop-sent-init : goal.loop-sent-init
loop-sent-init g c = record {
  along = along_none c.args.base.now _ _ (at c.args.work.now c.args.hints.now.now) c.requires.sound;
  peeks = peeks_none _ _ _ _ _ _ _ _ c.args.replica.now (λ honest. g.met.R.Replica.is_safe c.args.replica.now honest c.requires.whole);
  whole = c.requires.whole;
  before = refl;
}

pub loop-sent-smaller : goal.loop-sent-smaller
loop-sent-smaller g c =
    let pops = pops_by c.loop-sent.work (record c.loop-sent.work { queue = c.pop_front.new.self }) c.in-Some.sent c.pop_front.result refl c.pop_front.ensures.items c.in-Some.is in
    let lighter = by_lighter c.args.base.now g.R.Disk.Store.is_honest (g.R.Replica.durable c.loop-sent.replica) c.in-Some.sent (at (record c.loop-sent.work { queue = c.pop_front.new.self }) c.loop-sent.hints.now) (at c.hear_own-heard.new.work c.hear_own-heard.new.hints.now) c.in_ok-heard.ensures.ok in
    let before = ap weight pops.0 in
    omega arith

pub loop-sent-preserved : goal.loop-sent-preserved
loop-sent-preserved g c =
    let pops = pops_by c.loop-sent.work (record c.loop-sent.work { queue = c.pop_front.new.self }) c.in-Some.sent c.pop_front.result refl c.pop_front.ensures.items c.in-Some.is in
    let whole : g.R.Replica.is_whole c.hear_own-heard.new.replica = search rules in
    record {
      along = along_more c.args.base.now g.R.Disk.Store.is_honest (g.R.Replica.durable c.args.replica.now) (at c.args.work.now c.args.hints.now.now) (at c.loop-sent.work c.loop-sent.hints.now) (at (record c.loop-sent.work { queue = c.pop_front.new.self }) c.loop-sent.hints.now) (at c.hear_own-heard.new.work c.hear_own-heard.new.hints.now) c.in-Some.sent c.loop-sent.invariant.along pops refl
          (by_at c.args.base.now g.R.Disk.Store.is_honest (g.R.Replica.durable c.loop-sent.replica) (g.R.Replica.durable c.args.replica.now) c.in-Some.sent (at (record c.loop-sent.work { queue = c.pop_front.new.self }) c.loop-sent.hints.now) (at c.hear_own-heard.new.work c.hear_own-heard.new.hints.now) (λ honest. (c.loop-sent.invariant.peeks.looked honest).same) c.in_ok-heard.ensures.ok);
      peeks = peeks_on _ _ _ _ _ _ _ _ c.args.replica.now c.loop-sent.replica c.hear_own-heard.new.replica c.loop-sent.invariant.peeks c.hear_own-heard.ensures.peeks;
      whole = whole;
      before = c.hear_own-heard.ensures.before ∙ c.loop-sent.invariant.before;
    }

pub returns-in_err-heard-clause-cut : goal.returns-in_err-heard-clause-cut
returns-in_err-heard-clause-cut g c = λ failed s matters cut.
    let e = err_from_is_err_and c.from_residual.result c.from_residual.ensures.1 in
    let error : c.in_err-heard.field-0.0 ≡ call_error.Failed = cc (e.1, e.2, failed) in
    let pops = pops_by c.loop-sent.work (record c.loop-sent.work { queue = c.pop_front.new.self }) c.in-Some.sent c.pop_front.result refl c.pop_front.ensures.items c.in-Some.is in
    subst (λ (w : Work). IsCut c.args.base.now s matters w) (sym (c.in_err-heard.ensures.same (ap (λ (x : CallError). Err x) error)))
    (popped_cuts c.args.base.now g.R.Disk.Store.is_honest (g.R.Replica.durable c.args.replica.now) (at c.args.work.now c.args.hints.now.now) (at c.loop-sent.work c.loop-sent.hints.now) (at (record c.loop-sent.work { queue = c.pop_front.new.self }) c.loop-sent.hints.now) c.in-Some.sent c.loop-sent.invariant.along pops s matters cut)

pub returns-in_err-heard-clause-peeks : goal.returns-in_err-heard-clause-peeks
returns-in_err-heard-clause-peeks g c = peeks_on _ _ _ _ _ _ _ _ c.args.replica.now c.loop-sent.replica c.hear_own-heard.new.replica c.loop-sent.invariant.peeks c.hear_own-heard.ensures.peeks

pub returns-clause-ok : goal.returns-clause-ok
returns-clause-ok g c =
    along_end c.args.base.now g.R.Disk.Store.is_honest (g.R.Replica.durable c.args.replica.now) (at c.args.work.now c.args.hints.now.now) (at c.loop-sent.work c.loop-sent.hints.now) (at (record c.loop-sent.work { queue = c.pop_front.new.self }) c.loop-sent.hints.now) c.loop-sent.invariant.along refl refl c.in_default.ensures.items c.in_default.ensures.rest

pub returns-in_err-heard-clause-surely : goal.returns-in_err-heard-clause-surely
returns-in_err-heard-clause-surely g c = λ failed all.
    let e = err_from_is_err_and c.from_residual.result c.from_residual.ensures.1 in
    let error : c.in_err-heard.field-0.0 ≡ call_error.Failed = cc (e.1, e.2, failed) in
    c.in_err-heard.ensures.surely (ap (λ (x : CallError). Err x) error) (c.loop-sent.invariant.peeks.spared all)
