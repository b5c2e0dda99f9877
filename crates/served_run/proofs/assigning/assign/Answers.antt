use Rattle.std.proofs.Common.{◌∷◌, ◌+◌, length, drop, sym, ap, subst, arith}
use Rattle.std.proofs.lemmas.List.{drop_all, nil_from_length}
use Rattle.std.specs.List.{AllZip}
use Rattle.std.specs.Vec.Iter.{into_iter_items}
use Rattle.item_groups.proofs.PlaceLaws.{zip2-long}
use Rattle.item_groups.proofs.ZipLaws.{end3, step3}
use Rattle.served_run.specs.Crews.{IsDeskOf, IsManned}
use Rattle.served_run.proofs.ListLaws.{next_at, start3}
use Rattle.served_run.proofs.WorkLaws.{all_tasks, more_tasks, no_tasks}
use Rattle.served_run.proofs.assigning.assign.Goals as goal

pub loop-site-init : goal.loop-site-init
loop-site-init g c =
    let sites = c.args.sites.now in
    let rest = into_iter_items c.into_iter-crews.result in
    let same = c.into_iter-crews.ensures.rest in
    record {
      jobs = no_tasks sites c.args.crews.items rest c.new.result.items same c.new.ensures.items;
      operated = start3 IsDeskOf sites c.args.crews.items rest c.new-2.result.items same c.new-2.ensures.items;
      manned = subst (λ ys. AllZip IsManned sites ys) (sym same) c.requires;
    }

pub assign_next-requires : goal.assign_next-requires
assign_next-requires g c =
    let at = c.loop-site.site-index in
    let sites = c.args.sites.now in
    let site = c.site-item.result in
    let crews = into_iter_items c.loop-site.crews in
    (subst (λ xs. AllZip IsManned xs (c.in-Some.crew ∷ into_iter_items c.next.new.self)) (next_at sites at site c.loop-site-test.true c.site-item.is)
    (subst (λ ys. AllZip IsManned (drop at sites) ys) c.in-Some.ensures.cases.0 c.loop-site.invariant.manned)).0

pub loop-site-preserved : goal.loop-site-preserved
loop-site-preserved g c =
    let was = c.loop-site.invariant in
    let at = c.loop-site.site-index in
    let sites = c.args.sites.now in
    let site = c.site-item.result in
    let crews = into_iter_items c.loop-site.crews in
    let crews' = into_iter_items c.next.new.self in
    let next = next_at sites at site c.loop-site-test.true c.site-item.is in
    let crew = c.in-Some.ensures.cases.0 in
    let done = c.in_ok-assigned.ensures in
    record {
      jobs = more_tasks sites c.args.crews.items (drop at sites) (drop (at + 1) sites) crews crews' c.loop-site.assigned.jobs.items c.in_ok-assigned.assigned.jobs.items site c.in-Some.crew was.jobs next crew done.jobs;
      operated = step3 IsDeskOf sites c.args.crews.items (drop at sites) (drop (at + 1) sites) crews crews' c.loop-site.assigned.operated.items c.in_ok-assigned.assigned.operated.items site c.in-Some.crew done.operated.item was.operated next crew done.operated.all done.operated.is_next;
      manned = (subst (λ xs. AllZip IsManned xs (c.in-Some.crew ∷ crews')) next (subst (λ ys. AllZip IsManned (drop at sites) ys) crew was.manned)).1;
    }

pub returns : goal.returns
returns g c =
    let was = c.loop-site.invariant in
    let at = c.loop-site.site-index in
    let sites = c.args.sites.now in
    let crews = into_iter_items c.loop-site.crews in
    let none = drop_all at sites c.loop-site-test.false in
    let none' = nil_from_length crews (let same = zip2-long IsManned (drop at sites) crews was.manned in let long = ap length none in omega (arith, same, long)) in
    record {
      jobs = all_tasks sites c.args.crews.items (drop at sites) crews c.loop-site.assigned.jobs.items was.jobs none none';
      operated = end3 IsDeskOf sites c.args.crews.items (drop at sites) crews c.loop-site.assigned.operated.items was.operated none none';
    }
