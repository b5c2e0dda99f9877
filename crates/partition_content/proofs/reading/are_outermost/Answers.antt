use Rattle.partition_content.proofs.ReadLemmas.{outermost_meet}
use Rattle.partition_content.proofs.reading.are_outermost.Goals as goal

pub returns-then-is_at_end : goal.returns-then-is_at_end
returns-then-is_at_end c = λ t. outermost_meet c.args.from.now c.args.upto.now (c.is_at_end.ensures c.if-is_at_end.true) (c.is_at_end-then-is_at_end.ensures t)
