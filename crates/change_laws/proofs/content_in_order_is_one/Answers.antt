use Rattle.change_laws.specs.Kept.{In}
use Rattle.change_laws.proofs.Contents.{content_in_order_is_one, same_in_order_are_equal, merge_in_order_is_one}
use Rattle.change_laws.proofs.Slices.{slice_in_order_is_one}
use Rattle.change_laws.proofs.content_in_order_is_one.Goals as goal

pub returns : goal.returns
returns c = record {
  one = λ S. content_in_order_is_one (In S);
  same = same_in_order_are_equal;
  merge = merge_in_order_is_one;
  slice = slice_in_order_is_one;
}
