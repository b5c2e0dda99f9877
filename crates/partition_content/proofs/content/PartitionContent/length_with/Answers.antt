use Rattle.std.proofs.Common.{◌≡◌, arith, sym, ◌∙◌, ap, subst, map, Some, List}
use Rattle.changes.specs.declared.Held.{Held}
use Rattle.changes.specs.Contents.{AreApart}
use Rattle.changes.specs.Lengths.{changes_length}
use Rattle.partition_content.specs.Lengths.{IsMergedLength}
use Rattle.partition_content.specs.Partition.{Partition, changes_in, place_of, places_in, AreSlotsFor, AreTaken, IsReady}
use Rattle.partition_content.specs.Slots.{helds_of}
use Rattle.partition_content.proofs.MemoryLemmas.{ready_slots}
use Rattle.partition_content.proofs.HeldLemmas.{stored_changes}
use Rattle.partition_content.proofs.content.PartitionContent.length_with.Goals as goal

pub length_with-requires-clause-apart : goal.length_with-requires-clause-apart
length_with-requires-clause-apart c = subst AreApart (sym c.as_slice.ensures.value) c.as_slice.ensures.apart

pub length_with-requires-clause-fits : goal.length_with-requires-clause-fits
length_with-requires-clause-fits c =
    let held = ap changes_length (sym (stored_changes c.self.inside.slots.entries) ∙ ap changes_in c.self.view_is) in
    let more = ap changes_length c.as_slice.ensures.value in
    let fits = c.requires.fits in omega (arith, held, more, fits)

pub returns-in-Some : goal.returns-in-Some
returns-in-Some c =
    subst (λ (l : List Held). IsMergedLength (changes_in c.args.self.now) l c.length_with.result) c.as_slice.ensures.value
    (subst (λ (l : List Held). IsMergedLength l c.as_slice.result.now c.length_with.result) (sym (stored_changes c.self.inside.slots.entries) ∙ ap changes_in c.self.view_is) c.length_with.ensures)

pub length_with-requires-clause-slots : goal.length_with-requires-clause-slots
length_with-requires-clause-slots c =
    let ready : places_in (Some c.in-Some.ready) ≡ Some (map place_of c.args.incoming.now) = ap places_in (sym c.in-Some.is) ∙ ap (λ (p : Partition). p.ready) c.self.view_is ∙ c.requires.places in
    let taken : IsReady (helds_of c.self.inside.slots) c.in-Some.ready = subst (AreTaken (helds_of c.self.inside.slots)) c.in-Some.is c.self.invariant.taken in
    subst (AreSlotsFor (helds_of c.self.inside.slots)) (sym c.as_slice.ensures.value) (ready_slots (helds_of c.self.inside.slots) c.in-Some.ready c.args.incoming.now taken ready)
