use Rattle.std.proofs.Common.{drop}
use Rattle.std.proofs.lemmas.List.{drop_all}
use Rattle.item_groups.proofs.ZipLaws.{end2}
use Rattle.served_run.specs.Crews.{IsSiteOf}
use Rattle.served_run.proofs.assigning.sites_of.Goals as goal

pub returns : goal.returns
returns g c =
    let at = c.loop-lock.lock-index in
    let locks = c.args.locks.now in
    end2 (IsSiteOf c.args.host.now) locks (drop at locks) c.loop-lock.sites.items c.loop-lock.invariant.made (drop_all at locks c.loop-lock-test.false)
