use Rattle.cql_tokens.proofs.Loops.{short_front}
use Rattle.cql_tokens.proofs.words.front_fits.Goals as goal

pub returns-then-bytes-at : goal.returns-then-bytes-at
returns-then-bytes-at c = short_front c.args.shape.now c.args.bytes.now c.loop-at.at c.loop-at-test.true c.if-bytes-at.true c.loop-at.invariant
