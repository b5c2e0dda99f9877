use Rattle.change_laws.specs.Kept.{In}
use Rattle.change_laws.proofs.Purges.{content_stands, stands_for_same, stands_for_onto, stands_for_merge, stands_for_slice, stands_for_purged}
use Rattle.change_laws.proofs.purged_content_stands.Goals as goal

pub returns : goal.returns
returns c = record {
  content = λ S. content_stands (In S);
  same = λ S T U W. stands_for_same (In S) (In T) (In U) (In W);
  onto = λ S T U. stands_for_onto (In S) (In T) (In U);
  merge = λ S T U. stands_for_merge (In S) (In T) (In U);
  slice = λ S T. stands_for_slice (In S) (In T);
  purged = λ S T U. stands_for_purged (In S) (In T) (In U);
}
