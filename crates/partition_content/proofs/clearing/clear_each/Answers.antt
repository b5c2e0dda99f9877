use Rattle.std.proofs.Common.{◌∙◌, ◌+◌, arith, refl, sym, subst, drop}
use Rattle.std.specs.List.Sorted.{IsStrictlySortedBy}
use Rattle.partition_content.specs.Spots.{spot_cmp}
use Rattle.partition_content.specs.Slots.{helds_in, AreOutrankedAmong}
use Rattle.partition_content.proofs.SweepLemmas.{clears_more, cleared_left, cleared_spots, among_rest, all_cleared, next_key, no_key}
use Rattle.partition_content.proofs.clearing.clear_each.Goals as goal

pub loop-at-init : goal.loop-at-init
loop-at-init c = record { clears = λ left h. h; left = λ a h. h; same = refl; among = c.requires.among }

pub loop-at-preserved : goal.loop-at-preserved
loop-at-preserved c = record {
  clears = clears_more c.args.x.now c.at-item.result (helds_in c.args.slots.now.entries) c.loop-at.slots.entries c.clear_at.new.slots.entries c.loop-at.invariant.clears c.clear_at.ensures;
  left = λ a h. c.loop-at.invariant.left a (cleared_left c.args.x.now c.at-item.result c.loop-at.slots.entries c.clear_at.new.slots.entries c.clear_at.ensures a h);
  same = cleared_spots c.args.x.now c.at-item.result c.loop-at.slots c.clear_at.new.slots c.clear_at.ensures ∙ c.loop-at.invariant.same;
  among = among_rest c.args.x.now c.at-item.result (drop c.loop-at.at-index c.args.keys.now) (drop (c.loop-at.at-index + 1) c.args.keys.now) c.loop-at.slots.entries c.clear_at.new.slots.entries
      (next_key c.args.keys.now c.loop-at.at-index c.at-item.result (omega arith) c.at-item.is)
      (subst (IsStrictlySortedBy spot_cmp) (sym c.loop-at.invariant.same) c.requires.sorted) c.clear_at.ensures c.loop-at.invariant.among;
}

pub returns-clause-cleared : goal.returns-clause-cleared
returns-clause-cleared c =
    all_cleared c.args.x.now (helds_in c.args.slots.now.entries) (helds_in c.loop-at.slots.entries) c.loop-at.invariant.clears
    (subst (AreOutrankedAmong c.args.x.now (helds_in c.loop-at.slots.entries)) (no_key c.args.keys.now c.loop-at.at-index (omega arith)) c.loop-at.invariant.among)
