use Rattle.change_laws.specs.Kept.{In}
use Rattle.change_laws.proofs.Contents.{merge_of_both, merge_commutes, merge_repeats, merge_associates}
use Rattle.change_laws.proofs.merging_is_free_of_order.Goals as goal

pub returns : goal.returns
returns c = record {
  both = λ S T. merge_of_both (In S) (In T);
  commutes = merge_commutes;
  repeats = merge_repeats;
  associates = merge_associates;
}
