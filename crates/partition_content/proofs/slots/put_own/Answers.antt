use Rattle.std.proofs.Common.{sym, arith}
use Rattle.std.specs.BTreeMap.{is_at}
use Rattle.partition_content.specs.Spots.{spot_cmp}
use Rattle.partition_content.specs.Slots.{helds_in, held_in}
use Rattle.partition_content.proofs.HeldLemmas.{helds-found}
use Rattle.partition_content.proofs.ClearLemmas.{slot_most}
use Rattle.partition_content.proofs.slots.put_own.Goals as goal

pub put_in-requires-clause-there : goal.put_in-requires-clause-there
put_in-requires-clause-there c =
    let found = helds-found (is_at (spot_cmp c.args.at.now)) c.args.slots.now.entries c.in-Some.slot.now (sym c.in-Some.ensures.value) in
    let h = slot_most (is_at (spot_cmp c.args.at.now)) (helds_in c.args.slots.now.entries) (held_in c.in-Some.slot.now) found in
    let k = c.requires.there in omega (arith, h, k)
