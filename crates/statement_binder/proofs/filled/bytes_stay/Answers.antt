use Rattle.std.proofs.Common.{arith}
use Rattle.statement_binder.proofs.StoredLaws.{bytes_stay}
use Rattle.statement_binder.proofs.filled.bytes_stay.Goals as goal

pub returns : goal.returns
returns c = bytes_stay c.args.ty c.args.bytes.now (λ i. omega (arith, c.type_inv.bytes i)) c.requires c.encoding_undoes_decoding.ensures
