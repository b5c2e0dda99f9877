use Rattle.std.proofs.Common.{◌∙◌, arith, refl, take, ap, map, subst, List}
use Rattle.std.proofs.lemmas.List.{take_all}
use Rattle.changes.specs.declared.Held.{Held}
use Rattle.cs_base.proofs.Members.{front_more, contains_nil}
use Rattle.partition_content.specs.Keys.{keys_for}
use Rattle.partition_content.specs.Partition.{place_of, AreSlotsFor}
use Rattle.partition_content.proofs.MemoryLemmas.{keys_more, slots_more}
use Rattle.partition_content.specs.Slots.{helds_of}
use Rattle.partition_content.proofs.memory.take_each.Goals as goal

pub loop-x-init : goal.loop-x-init
loop-x-init c = record { stored = refl; good = c.requires.good; keys = c.requires.none; there = λ x h. absurd (contains_nil x h) }

pub loop-x-preserved : goal.loop-x-preserved
loop-x-preserved c =
    let more = front_more c.args.changes.now c.loop-x.x-index c.x-item.result (omega arith) c.x-item.is in
    record {
      stored = c.take_one.ensures.stored ∙ c.loop-x.invariant.stored;
      good = c.take_one.ensures.good;
      keys = keys_more c.args.bare c.loop-x.keys.items c.take_one.new.keys.items (take c.loop-x.x-index c.args.changes.now) _ c.x-item.result (keys_for c.args.bare c.x-item.result.place) more c.loop-x.invariant.keys refl c.in_ok-take_one.ensures.keys;
      there = slots_more c.args.bare (helds_of c.loop-x.slots) (helds_of c.take_one.new.slots) (take c.loop-x.x-index c.args.changes.now) _ c.x-item.result (keys_for c.args.bare c.x-item.result.place) more c.loop-x.invariant.there c.take_one.ensures.others refl c.in_ok-take_one.ensures.there;
    }

pub returns-clause-keys : goal.returns-clause-keys
returns-clause-keys c = c.loop-x.invariant.keys ∙ ap (λ (l : List Held). map (keys_for c.args.bare) (map place_of l)) (take_all c.loop-x.x-index c.args.changes.now (omega arith))

pub returns-clause-there : goal.returns-clause-there
returns-clause-there c = subst (AreSlotsFor (helds_of c.loop-x.slots)) (take_all c.loop-x.x-index c.args.changes.now (omega arith)) c.loop-x.invariant.there
