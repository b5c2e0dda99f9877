use Rattle.change_laws.proofs.Contents.{merge_keeps}
use Rattle.change_laws.proofs.merge_keeps_what_stands.Goals as goal

pub returns : goal.returns
returns c = merge_keeps
