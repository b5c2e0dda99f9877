use Rattle.std.proofs.Common.{length, sym, ap, ◌∙◌, arith}
use Rattle.std.proofs.lemmas.List.{nil_from_length}
use Rattle.std.proofs.lemmas.List.Elements.{All-rest}
use Rattle.std.specs.Vec.Iter.{into_iter_items}
use Rattle.node_lock.specs.Passes.{IsPassOf}
use Rattle.item_groups.proofs.ZipLaws.{end3, step3}
use Rattle.served_run.specs.Crews.{IsJobAt}
use Rattle.served_run.proofs.assigning.jobs_at.Goals as goal

pub loop-pass-preserved : goal.loop-pass-preserved
loop-pass-preserved g c =
    let was = c.loop-pass.invariant in
    let passes = into_iter_items c.loop-pass.pass-iterator in
    let passes' = into_iter_items c.next.new.self in
    let duties = into_iter_items c.loop-pass.duties in
    let duties' = into_iter_items c.next-in-loop-pass.new.self in
    let pass = c.in-Some.ensures.steps.0 in
    let duty = c.in-Some-next.ensures.cases.0 in
    record {
      made = step3 (IsJobAt c.args.site.now) c.args.passes.items c.args.duties.items passes passes' duties duties' c.loop-pass.jobs.items c.push.new.self.items c.in-Some.pass c.in-Some-next.duty c.new.result
          was.made pass duty c.in_ok-push.ensures.items
          record { site_is = ap (λ s. s.now) c.new.ensures.site; pass_is = c.new.ensures.pass; duty_is = c.new.ensures.duty };
      same = (let was_long = ap length pass in let was_long' = ap length duty in let same = was.same in omega (arith, was_long, was_long', same));
      of_lock = All-rest (IsPassOf c.args.site.now.lock.now) c.in-Some.pass passes' passes pass was.of_lock;
    }

pub returns : goal.returns
returns g c =
    let was = c.loop-pass.invariant in
    let passes = into_iter_items c.loop-pass.pass-iterator in
    let duties = into_iter_items c.loop-pass.duties in
    let none = sym c.loop-pass.pass-iterator.rest.ok.0 ∙ c.in-None.ensures.steps.0 in
    end3 (IsJobAt c.args.site.now) c.args.passes.items c.args.duties.items passes duties c.loop-pass.jobs.items was.made (nil_from_length passes none) (nil_from_length duties (let same = was.same in omega (arith, same, none)))
