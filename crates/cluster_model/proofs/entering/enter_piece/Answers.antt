use Rattle.cluster_model.proofs.Pieced.{joined_more}
use Rattle.cluster_model.proofs.entering.enter_piece.Goals as goal

pub returns : goal.returns
returns c = joined_more c.args.pieces.now.items c.push_reserved.new.self.items c.args.piece c.push_reserved.ensures.items
