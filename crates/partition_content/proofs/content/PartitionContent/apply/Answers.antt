use Rattle.std.proofs.Common.{arith, ◌≡◌, ◌∙◌, sym, ap, subst, List, Some, Vec, map}
use Rattle.changes.specs.declared.Held.{Held}
use Rattle.changes.specs.Lengths.{changes_length}
use Rattle.partition_content.specs.declared.keys.Keys.{Keys}
use Rattle.changes.specs.Contents.{IsMergeOf}
use Rattle.partition_content.specs.declared.Arrived.{Arrived}
use Rattle.partition_content.specs.Arrivals.{held_of, ComeAt}
use Rattle.std.specs.declared.alloc.Global.{Global}
use Rattle.partition_content.specs.declared.spots.Spot.{Spot}
use Rattle.partition_content.specs.Inside.{AreNoted}
use Rattle.partition_content.specs.Keys.{keys_for}
use Rattle.partition_content.specs.Slots.{stored_of, changes_of, helds_in, helds_of, spots_in}
use Rattle.partition_content.specs.Partition.{Partition, changes_in, place_of, places_in, AreSlotsFor, AreBare, IsReady, AreTaken}
use Rattle.partition_content.proofs.HeldLemmas.{changes_still, stored_changes}
use Rattle.partition_content.proofs.MemoryLemmas.{ready_keys, ready_slots, ready_inside, ready_narrow, still_bare}
use Rattle.partition_content.proofs.content.PartitionContent.apply.Goals as goal

pub put_all-self-inside-requires-clause-keys : goal.put_all-self-inside-requires-clause-keys
put_all-self-inside-requires-clause-keys c =
    let was : c.self.inside.ready ≡ Some c.in-Some.ready = sym c.in-Some.ensures.value in
    let ready : places_in (Some c.in-Some.ready) ≡ Some (map place_of c.args.incoming) =
    ap places_in (sym was) ∙ ap (λ (p : Partition). p.ready) c.self.view_is ∙ c.requires.places in
    let taken : IsReady (helds_of c.self.inside.slots) c.in-Some.ready = subst (AreTaken (helds_of c.self.inside.slots)) was c.self.invariant.taken in
    subst (λ (ks : List Keys). ks ≡ map (keys_for c.in-Some.ready.bare) (map place_of c.into_changes.result.items)) (sym c.deref.ensures.value)
    (subst (λ (l : List Held). c.in-Some.ready.keys.items ≡ map (keys_for c.in-Some.ready.bare) (map place_of l)) (sym c.into_changes.ensures.value) (ready_keys (helds_of c.self.inside.slots) c.in-Some.ready c.args.incoming taken ready))

pub put_all-self-inside-requires-clause-slots : goal.put_all-self-inside-requires-clause-slots
put_all-self-inside-requires-clause-slots c =
    let was : c.self.inside.ready ≡ Some c.in-Some.ready = sym c.in-Some.ensures.value in
    let ready : places_in (Some c.in-Some.ready) ≡ Some (map place_of c.args.incoming) =
    ap places_in (sym was) ∙ ap (λ (p : Partition). p.ready) c.self.view_is ∙ c.requires.places in
    let taken : IsReady (helds_of c.self.inside.slots) c.in-Some.ready = subst (AreTaken (helds_of c.self.inside.slots)) was c.self.invariant.taken in
    subst (AreSlotsFor (helds_of c.self.inside.slots)) (sym c.into_changes.ensures.value) (ready_slots (helds_of c.self.inside.slots) c.in-Some.ready c.args.incoming taken ready)

pub put_all-self-inside-requires-clause-inside : goal.put_all-self-inside-requires-clause-inside
put_all-self-inside-requires-clause-inside c =
    let was : c.self.inside.ready ≡ Some c.in-Some.ready = sym c.in-Some.ensures.value in
    let ready : places_in (Some c.in-Some.ready) ≡ Some (map place_of c.args.incoming) =
    ap places_in (sym was) ∙ ap (λ (p : Partition). p.ready) c.self.view_is ∙ c.requires.places in
    let taken : IsReady (helds_of c.self.inside.slots) c.in-Some.ready = subst (AreTaken (helds_of c.self.inside.slots)) was c.self.invariant.taken in
    subst (λ (l : List (Vec Spot Global)). AreNoted (spots_in (helds_of c.self.inside.slots)) (map place_of c.into_changes.result.items) l) (sym c.deref-in-Some.ensures.value)
    (subst (λ (l : List Held). AreNoted (spots_in (helds_of c.self.inside.slots)) (map place_of l) c.in-Some.ready.inside.items) (sym c.into_changes.ensures.value) (ready_inside (helds_of c.self.inside.slots) c.in-Some.ready c.args.incoming taken ready))

pub put_all-self-inside-requires-clause-narrow : goal.put_all-self-inside-requires-clause-narrow
put_all-self-inside-requires-clause-narrow c =
    let was : c.self.inside.ready ≡ Some c.in-Some.ready = sym c.in-Some.ensures.value in
    let ready : places_in (Some c.in-Some.ready) ≡ Some (map place_of c.args.incoming) =
    ap places_in (sym was) ∙ ap (λ (p : Partition). p.ready) c.self.view_is ∙ c.requires.places in
    let taken : IsReady (helds_of c.self.inside.slots) c.in-Some.ready = subst (AreTaken (helds_of c.self.inside.slots)) was c.self.invariant.taken in
    λ t. subst AreBare (sym c.into_changes.ensures.value) (ready_narrow (helds_of c.self.inside.slots) c.in-Some.ready c.args.incoming taken ready t)

pub put_all-self-inside-requires-clause-bare : goal.put_all-self-inside-requires-clause-bare
put_all-self-inside-requires-clause-bare c = λ t. (subst (AreTaken (helds_of c.self.inside.slots)) (sym c.in-Some.ensures.value) c.self.invariant.taken).bare t

pub put_all-self-inside-requires-clause-fits : goal.put_all-self-inside-requires-clause-fits
put_all-self-inside-requires-clause-fits c =
    let held = ap changes_length (sym (stored_changes c.self.inside.slots.entries) ∙ ap changes_in c.self.view_is) in
    let more = ap changes_length c.into_changes.ensures.value in
    let fits = c.requires.fits in omega (arith, held, more, fits)

pub returns-in-Some-clause-content : goal.returns-in-Some-clause-content
returns-in-Some-clause-content c =
    subst (λ (l : List Held). IsMergeOf (map held_of (stored_of c.give_back_unused.new.slots.entries)) (changes_in c.args.self.now) l) c.into_changes.ensures.value
    (subst (λ (l : List Held). IsMergeOf (map held_of (stored_of c.give_back_unused.new.slots.entries)) l c.into_changes.result.items) (sym (stored_changes c.self.inside.slots.entries) ∙ ap changes_in c.self.view_is)
    (subst (λ (l : List Held). IsMergeOf l (changes_of (helds_in c.self.inside.slots.entries)) c.into_changes.result.items) (sym (ap (map held_of) c.give_back_unused.ensures.stored ∙ stored_changes c.put_all-self-inside.new.slots.entries)) c.put_all-self-inside.ensures.content))

pub returns-in-Some-clause-arrivals : goal.returns-in-Some-clause-arrivals
returns-in-Some-clause-arrivals c =
    subst (λ (p : Partition). ComeAt c.args.at p.stored (stored_of c.give_back_unused.new.slots.entries)) c.self.view_is
    (subst (λ (l : List Arrived). ComeAt c.args.at (stored_of c.self.inside.slots.entries) l) (sym c.give_back_unused.ensures.stored) c.put_all-self-inside.ensures.arrivals)

pub invariant_of-self : goal.invariant_of-self
invariant_of-self c =
    let was : c.self.inside.ready ≡ Some c.in-Some.ready = sym c.in-Some.ensures.value in
    let ready : places_in (Some c.in-Some.ready) ≡ Some (map place_of c.args.incoming) =
    ap places_in (sym was) ∙ ap (λ (p : Partition). p.ready) c.self.view_is ∙ c.requires.places in
    let taken : IsReady (helds_of c.self.inside.slots) c.in-Some.ready = subst (AreTaken (helds_of c.self.inside.slots)) was c.self.invariant.taken in
    record {
      good = c.give_back_unused.ensures.good;
      long = c.put_all-self-inside.ensures.length ∙ ap changes_length (sym (changes_still c.put_all-self-inside.new.slots.entries c.give_back_unused.new.slots.entries c.give_back_unused.ensures.stored));
      taken = subst (AreTaken (helds_of c.give_back_unused.new.slots)) (sym c.take.ensures.after) tt;
      bare = λ t. subst AreBare (sym (changes_still c.put_all-self-inside.new.slots.entries c.give_back_unused.new.slots.entries c.give_back_unused.ensures.stored))
          (still_bare (changes_of (helds_in c.self.inside.slots.entries)) _ c.into_changes.result.items (taken.bare t)
          (subst AreBare (sym c.into_changes.ensures.value) (ready_narrow (helds_of c.self.inside.slots) c.in-Some.ready c.args.incoming taken ready t)) c.put_all-self-inside.ensures.content);
    }
