use Rattle.std.proofs.Common.{◌∷◌, sym, subst, ◌∙◌, arith}
use Rattle.std.proofs.lemmas.List.{nil_from_length}
use Rattle.std.specs.List.{AllZip}
use Rattle.std.specs.Vec.Iter.{into_iter_items}
use Rattle.item_groups.proofs.PlaceLaws.{zip2-long}
use Rattle.item_groups.proofs.ZipLaws.{end3, step3}
use Rattle.served_run.specs.Crews.{IsBack, IsClosed}
use Rattle.served_run.proofs.closing.close_all.Goals as goal

pub loop-lock-preserved : goal.loop-lock-preserved
loop-lock-preserved g c =
    let was = c.loop-lock.invariant in
    let locks = into_iter_items c.loop-lock.lock-iterator in
    let locks' = into_iter_items c.next.new.self in
    let backs = into_iter_items c.loop-lock.backs in
    let backs' = into_iter_items c.next-in-loop-lock.new.self in
    let lock = c.in-Some.ensures.steps.0 in
    let back = c.in-Some-next.ensures.cases.0 in
    record {
      made = step3 (IsClosed g.N.Stepper.steps) c.args.locks.items c.args.backs.items locks locks' backs backs' c.loop-lock.left.items c.push.new.self.items c.in-Some.lock c.in-Some-next.back c.in_ok-close_one.field-0
          was.made lock back c.in_ok-push.ensures.items c.in_ok-close_one.ensures;
      back = (subst (λ ls. AllZip IsBack ls (c.in-Some-next.back ∷ backs')) lock (subst (λ bs. AllZip IsBack locks bs) back was.back)).1;
    }

pub returns : goal.returns
returns g c =
    let was = c.loop-lock.invariant in
    let locks = into_iter_items c.loop-lock.lock-iterator in
    let backs = into_iter_items c.loop-lock.backs in
    let none = sym c.loop-lock.lock-iterator.rest.ok.0 ∙ c.in-None.ensures.steps.0 in
    end3 (IsClosed g.N.Stepper.steps) c.args.locks.items c.args.backs.items locks backs c.loop-lock.left.items was.made (nil_from_length locks none) (nil_from_length backs (let same = zip2-long IsBack locks backs was.back in omega (arith, same, none)))
