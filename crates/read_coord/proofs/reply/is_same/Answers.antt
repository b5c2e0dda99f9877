use Rattle.read_coord.proofs.Replies.{same_test}
use Rattle.read_coord.proofs.reply.is_same.Goals as goal

pub returns : goal.returns
returns c = same_test c.args.content.now c.args.other.now c.is_same.result c.is_same.ensures
