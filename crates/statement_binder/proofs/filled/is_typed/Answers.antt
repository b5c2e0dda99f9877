use Rattle.statement_binder.proofs.StoredLaws.{typed_is_told}
use Rattle.statement_binder.proofs.filled.is_typed.Goals as goal

pub returns : goal.returns
returns c = typed_is_told c.args.slot.now _ c.args.fault c.tells_mismatch.result c.requires c.tells_mismatch.ensures
