use Rattle.change_laws.specs.Kept.{In}
use Rattle.change_laws.proofs.Contents.{content_is_one, content_is_tops}
use Rattle.change_laws.proofs.content_is_one.Goals as goal

pub returns : goal.returns
returns c = record {
  one = λ S. content_is_one (In S);
  tops = λ S. content_is_tops (In S);
}
