use Rattle.std.proofs.Common.{◌+◌, ◌<◌, ◌^◌, ◌-◌, min, ◌∙◌, sym, ap, subst, Bool, List, Some, map, arith}
use Rattle.changes.specs.declared.Held.{Held}
use Rattle.changes.specs.declared.Place.{Place}
use Rattle.changes.specs.Lengths.{changes_length}
use Rattle.partition_content.specs.Keys.{keys_for}
use Rattle.partition_content.specs.Partition.{Partition, place_of, AreBare}
use Rattle.partition_content.proofs.HeldLemmas.{changes_still, stored_changes}
use Rattle.partition_content.proofs.MemoryLemmas.{are_taken, none_taken, bare_tested, taken_places, some_fits}
use Rattle.partition_content.specs.Slots.{helds_of}
use Rattle.partition_content.proofs.content.PartitionContent.reserve.Goals as goal

pub invariant_of-self : goal.invariant_of-self
invariant_of-self c = record {
  good = c.take_memory.ensures.good;
  long = c.self.invariant.long ∙ ap changes_length (sym (changes_still c.self.inside.slots.entries c.take_memory.new.slots.entries c.take_memory.ensures.stored));
  taken = none_taken (helds_of c.take_memory.new.slots) c.self.inside.ready (ap (λ (p : Partition). p.ready) c.self.view_is ∙ c.release.ensures.ready);
  bare = λ t. subst AreBare (sym (changes_still c.self.inside.slots.entries c.take_memory.new.slots.entries c.take_memory.ensures.stored)) (c.self.invariant.bare t);
}

pub invariant_of-self-2 : goal.invariant_of-self-2
invariant_of-self-2 c = record {
  good = c.take_memory.ensures.good;
  long = c.self.invariant.long ∙ ap changes_length (sym (changes_still c.self.inside.slots.entries c.take_memory.new.slots.entries c.take_memory.ensures.stored));
  taken = are_taken (helds_of c.take_memory.new.slots) c.in_ok-ready.ready c.as_slice-changes.result.now
      (c.in_ok-ready.ensures.keys ∙ ap (λ (b : Bool). map (keys_for b) (map place_of c.as_slice-changes.result.now)) (sym c.in_ok-ready.ensures.bare)) c.in_ok-ready.ensures.there
      (λ t. subst AreBare (sym (changes_still c.self.inside.slots.entries c.take_memory.new.slots.entries c.take_memory.ensures.stored)) (c.self.invariant.bare (bare_tested c.self.inside.bare c.stays_bare-bare.result c.as_slice-changes.result.now c.stays_bare-bare.ensures (sym c.in_ok-ready.ensures.bare ∙ t)).0))
      (λ t. (bare_tested c.self.inside.bare c.stays_bare-bare.result c.as_slice-changes.result.now c.stays_bare-bare.ensures (sym c.in_ok-ready.ensures.bare ∙ t)).1)
      c.in_ok-ready.ensures.inside;
  bare = λ t. subst AreBare (sym (changes_still c.self.inside.slots.entries c.take_memory.new.slots.entries c.take_memory.ensures.stored)) (c.self.invariant.bare t);
}

pub returns-clause-ready : goal.returns-clause-ready
returns-clause-ready c =
    let sum = some_fits c.checked_add.result (c.self.inside.length + c.encoded_length.result < 2 ^ 64) (c.self.inside.length + c.encoded_length.result) c.is_none.result c.checked_add.ensures c.is_none.ensures c.if-is_none.false in
    let length = c.encoded_length.ensures ∙ ap (λ (l : List Held). min (changes_length l) (2 ^ 64 - 1)) c.as_slice-changes.ensures.value in
    let long = c.self.invariant.long ∙ ap changes_length (sym (changes_still c.self.inside.slots.entries c.take_memory.new.slots.entries c.take_memory.ensures.stored)) in
    record {
      places = ap (λ (l : List Place). Some l) (taken_places c.stays_bare-bare.result c.in_ok-ready.ready.keys.items c.args.incoming.now (c.in_ok-ready.ensures.keys ∙ ap (λ (l : List Held). map (keys_for c.stays_bare-bare.result) (map place_of l)) c.as_slice-changes.ensures.value));
      fits = (let same = ap changes_length (stored_changes c.take_memory.new.slots.entries) in omega (arith, sum, length, long, same));
    }
