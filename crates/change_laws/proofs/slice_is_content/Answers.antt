use Rattle.change_laws.specs.Kept.{In}
use Rattle.change_laws.proofs.Slices.{meets_above, slice_is_content}
use Rattle.change_laws.proofs.slice_is_content.Goals as goal

pub returns : goal.returns
returns c = record {
  upward = meets_above;
  slice = λ S. slice_is_content (In S);
}
