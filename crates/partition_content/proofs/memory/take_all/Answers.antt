use Rattle.std.proofs.Common.{◌∙◌, inr, map, sym, subst, List, IfOk}
use Rattle.changes.specs.declared.Place.{Place}
use Rattle.cell_merge.specs.Parts.{IsInnermost}
use Rattle.cs_base.proofs.Members.{contains_from_map}
use Rattle.partition_content.specs.Inside.{AreNoted}
use Rattle.partition_content.specs.Partition.{place_of}
use Rattle.partition_content.specs.Slots.{helds_of, spots_in}
use Rattle.partition_content.proofs.MemoryLemmas.{all_narrow, taken_places}
use Rattle.partition_content.proofs.SweepLemmas.{keys_of_places}
use Rattle.partition_content.proofs.memory.take_all.Goals as goal

pub inside_each-requires : goal.inside_each-requires
inside_each-requires c = keys_of_places c.args.bare (map place_of c.args.changes.now) c.deref.result.now (c.deref.ensures.value ∙ c.in_ok-take_each.ensures.keys)

pub returns-then-are_narrow-clause-inside : goal.returns-then-are_narrow-clause-inside
returns-then-are_narrow-clause-inside c =
    inr (λ p h. (let f = contains_from_map place_of c.args.changes.now p h in subst IsInnermost f.2 (all_narrow c.args.changes.now (sym c.are_narrow.ensures ∙ c.if-are_narrow.true) f.0 f.1)))

pub returns-clause-inside : goal.returns-clause-inside
returns-clause-inside c =
    subst (λ (ps : List Place). IfOk c.inside_each.result (λ all. AreNoted (spots_in (helds_of c.take_each.new.slots)) ps all.items))
    (taken_places c.args.bare c.deref.result.now c.args.changes.now (c.deref.ensures.value ∙ c.in_ok-take_each.ensures.keys)) c.inside_each.ensures
