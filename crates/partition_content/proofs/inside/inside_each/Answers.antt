use Rattle.std.proofs.Common.{inl, ◌+◌, arith, take, map, subst, List}
use Rattle.std.proofs.lemmas.List.{take_all}
use Rattle.cs_base.proofs.Members.{front_more, contains_at}
use Rattle.partition_content.specs.declared.keys.Keys.{Keys}
use Rattle.partition_content.specs.Inside.{AreInside}
use Rattle.partition_content.specs.Partition.{place_of_keys}
use Rattle.partition_content.specs.Slots.{helds_of, spots_in}
use Rattle.partition_content.proofs.SweepLemmas.{inside_step}
use Rattle.partition_content.proofs.inside.inside_each.Goals as goal

pub copy_inside-requires : goal.copy_inside-requires
copy_inside-requires c = c.requires c.own-item.result (contains_at c.args.keys.now c.loop-own.own-index c.own-item.result (omega arith) c.own-item.is)

pub loop-own-preserved : goal.loop-own-preserved
loop-own-preserved c =
    inside_step (spots_in (helds_of c.args.slots.now)) (take c.loop-own.own-index c.args.keys.now) (take (c.loop-own.own-index + 1) c.args.keys.now) c.own-item.result c.loop-own.all.items c.push.new.self.items c.copy_inside.new.onto
    (front_more c.args.keys.now c.loop-own.own-index c.own-item.result (omega arith) c.own-item.is) c.loop-own.invariant c.in_ok-copy_inside.ensures c.in_ok-push.ensures.items

pub returns : goal.returns
returns c = inl (subst (λ (l : List Keys). AreInside (spots_in (helds_of c.args.slots.now)) (map place_of_keys l) c.loop-own.all.items) (take_all c.loop-own.own-index c.args.keys.now (omega arith)) c.loop-own.invariant)
