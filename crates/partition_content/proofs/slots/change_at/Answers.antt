use Rattle.std.proofs.Common.{◌∙◌, ap, sym}
use Rattle.std.specs.BTreeMap.{is_at}
use Rattle.partition_content.specs.Spots.{spot_cmp}
use Rattle.partition_content.specs.Slots.{held_in}
use Rattle.partition_content.proofs.HeldLemmas.{change-at}
use Rattle.partition_content.proofs.slots.change_at.Goals as goal

pub returns-in-Some : goal.returns-in-Some
returns-in-Some c = ap held_in c.in-Some.ensures ∙ sym (change-at (is_at (spot_cmp c.args.at.now)) c.args.slots.now.entries)

pub returns-in-None : goal.returns-in-None
returns-in-None c = ap held_in c.in-None.ensures ∙ sym (change-at (is_at (spot_cmp c.args.at.now)) c.args.slots.now.entries)
