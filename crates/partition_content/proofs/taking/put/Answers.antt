use Rattle.std.proofs.Common.{inl}
use Rattle.partition_content.proofs.ContentLemmas.{not_taken}
use Rattle.partition_content.specs.Slots.{helds_of}
use Rattle.partition_content.proofs.taking.put.Goals as goal

pub returns-then-is_outranked_over-clause-comes : goal.returns-then-is_outranked_over-clause-comes
returns-then-is_outranked_over-clause-comes c = λ a h. inl h

pub returns-then-is_outranked_over-clause-taken : goal.returns-then-is_outranked_over-clause-taken
returns-then-is_outranked_over-clause-taken c = not_taken (helds_of c.args.slots.now) c.args.x c.args.length c.requires.good c.requires.length (c.is_outranked_over.ensures.told c.if-is_outranked_over.true)

pub put_deletion-requires-clause-keys : goal.put_deletion-requires-clause-keys
put_deletion-requires-clause-keys c = (c.args.bare, c.requires.keys)
