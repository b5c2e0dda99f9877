use Rattle.std.proofs.Common.{sym}
use Rattle.hint_store.proofs.Ages.{first_tells, none_from_empty}
use Rattle.hint_store.proofs.aging.begins_before.Goals as goal

pub returns-in-Some : goal.returns-in-Some
returns-in-Some c = first_tells c.lt.result c.in-Some.key.now c.args.time c.args.ages.now.keys c.lt.ensures c.in-Some.ensures.first c.in-Some.ensures.all_from

pub returns-in-None : goal.returns-in-None
returns-in-None c = sym (none_from_empty c.args.time c.args.ages.now.keys c.in-None.ensures.variant.1)
