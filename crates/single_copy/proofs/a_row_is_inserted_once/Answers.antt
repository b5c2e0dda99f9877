use Rattle.single_copy.proofs.Example.{a_row_is_inserted_once}
use Rattle.single_copy.proofs.a_row_is_inserted_once.Goals as goal

pub returns : goal.returns
returns c = a_row_is_inserted_once
