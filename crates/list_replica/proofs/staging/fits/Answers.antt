use Rattle.list_replica.proofs.Gathering.{ready_found}
use Rattle.list_replica.proofs.staging.fits.Goals as goal

pub stays_within-requires : goal.stays_within-requires
stays_within-requires c = ready_found c.args.contents.now c.args.staged.now c.in-Some.content.now c.in-Some.ensures.value c.requires
