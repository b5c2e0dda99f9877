use Rattle.change_laws.proofs.Outranking.{Outranks_irrefl, Outranks_trans}
use Rattle.change_laws.proofs.outranking_is_strict.Goals as goal

pub returns : goal.returns
returns c = (Outranks_irrefl, Outranks_trans)
