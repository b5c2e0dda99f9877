use Rattle.std.proofs.Common.{◌∙◌, sym, subst}
use Rattle.std.specs.List.Sorted.{IsStrictlySortedBy}
use Rattle.partition_content.specs.Spots.{spot_cmp}
use Rattle.partition_content.specs.Slots.{helds_in}
use Rattle.partition_content.proofs.SweepLemmas.{cleared_after, cleared_part, cleared_left, cleared_spots, among_inside}
use Rattle.partition_content.proofs.clearing.clear_inside.Goals as goal

pub clear_each-requires : goal.clear_each-requires
clear_each-requires c = record {
  sorted = subst (IsStrictlySortedBy spot_cmp) (sym (cleared_spots c.args.x.now c.args.at.now c.args.slots.now c.clear_at.new.slots c.clear_at.ensures)) c.requires.good.sorted;
  among = among_inside c.args.x.now c.args.at.now c.args.slots.now c.clear_at.new.slots c.args.inside.now c.requires.at c.requires.good c.requires.inside c.clear_at.ensures;
}

pub returns-clause-cleared : goal.returns-clause-cleared
returns-clause-cleared c =
    cleared_after c.args.x.now (helds_in c.args.slots.now.entries) (helds_in c.clear_at.new.slots.entries) (helds_in c.clear_each.new.slots.entries)
    (cleared_part c.args.x.now c.args.at.now c.args.slots.now.entries c.clear_at.new.slots.entries c.clear_at.ensures) c.clear_each.ensures.cleared

pub returns-clause-left : goal.returns-clause-left
returns-clause-left c = λ a h. cleared_left c.args.x.now c.args.at.now c.args.slots.now.entries c.clear_at.new.slots.entries c.clear_at.ensures a (c.clear_each.ensures.left a h)

pub returns-clause-keys : goal.returns-clause-keys
returns-clause-keys c = c.clear_each.ensures.keys ∙ cleared_spots c.args.x.now c.args.at.now c.args.slots.now c.clear_at.new.slots c.clear_at.ensures
