use Rattle.row_values.proofs.KeyLaws.{keys_come_back}
use Rattle.row_values.proofs.laws.keys_come_back.Goals as goal

pub returns : goal.returns
returns c = keys_come_back
