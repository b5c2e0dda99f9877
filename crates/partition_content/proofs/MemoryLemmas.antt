-- Memory that is taken for changes, one after another, and the changes put in.
use Rattle.std.proofs.Common.{◌≡◌, ℕ, ◌+◌, ◌<◌, inl, inr, List, [], ◌∷◌, ◌++◌, length, get_or, map, suc, Contains, Option, Some, None, Bool, true, false, not, ◌&&◌, is_some, refl, sym, ◌∙◌, ap, subst, arith, length-append, append_assoc, append-nil}
use Rattle.std.specs.Option.{SomeIff}
use Rattle.std.specs.List.{sum_by}
use Rattle.std.proofs.lemmas.List.{map-append}
use Rattle.std.proofs.lemmas.List.Elements.{Contains-append_left, Contains-push_cases, Contains-push}
use Rattle.std.proofs.lemmas.List.Sums.{sum_by-cons}
use Rattle.changes.specs.declared.Held.{Held}
use Rattle.changes.specs.declared.Place.{Place}
use Rattle.changes.specs.Contents.{Either, IsContent}
use Rattle.changes.specs.Lengths.{held_length}
use Rattle.cs_base.proofs.Members.{contains_here, contains_nil, contains_cases, contains_map, contains_from_map}
use Rattle.change_laws.proofs.Contents.{IsContent-same, IsContent-onto}
use Rattle.std.proofs.lemmas.List.Elements.{Contains-append_right}
use Rattle.partition_content.specs.declared.spots.Spot.{Spot}
use Rattle.partition_content.specs.declared.spots.Spot.TheVariants.{At}
use Rattle.partition_content.specs.declared.keys.Keys.{Keys}
use Rattle.partition_content.specs.Keys.{keys_for}
use Rattle.partition_content.specs.Inside.{AreNoted}
use Rattle.partition_content.specs.Slots.{SlotMap, changes_of, HasSlot, spots_in}
use Rattle.partition_content.specs.declared.memory.Ready.{Ready}
use Rattle.cell_merge.specs.Parts.{IsInnermost}
use Rattle.partition_content.specs.Partition.{place_of, place_of_keys, places_in, AreSlotsFor, AreBare, IsReady, AreTaken, is_narrow, is_narrow_at}
use Rattle.changes.specs.declared.Place.TheVariants.{Cell, Marker, RowGone, RangeGone, PartGone}
use Rattle.std.specs.List.{list_all}

pub keys_more : (bare : Bool) (so_far now : List Keys) (front more : List Held) (x : Held) (own : Keys) → more ≡ front ++ x ∷ [] → so_far ≡ map (keys_for bare) (map place_of front) → own ≡ keys_for bare x.place → now ≡ so_far ++ own ∷ [] → now ≡ map (keys_for bare) (map place_of more)
keys_more bare so_far now front more x own e is own_is split =
    split ∙ ap (λ (l : List Keys). l ++ own ∷ []) is ∙ ap (λ (k : Keys). map (keys_for bare) (map place_of front) ++ k ∷ []) own_is
    ∙ sym (map-append (keys_for bare) (map place_of front) (x.place ∷ [])) ∙ ap (map (keys_for bare)) (sym (map-append place_of front (x ∷ []))) ∙ ap (λ (l : List Held). map (keys_for bare) (map place_of l)) (sym e)

pub slots_more : (bare : Bool) (old now : SlotMap) (front more : List Held) (x : Held) (own : Keys) → more ≡ front ++ x ∷ [] → AreSlotsFor old front → ((s : Spot) → Contains (spots_in old) s → Contains (spots_in now) s) → own ≡ keys_for bare x.place → Contains (spots_in now) own.at → AreSlotsFor now more
slots_more bare old now front more x own e so_far others is there y h =
    elim (Contains-push_cases front x y (subst (λ (l : List Held). Contains l y) e h)) [
      | inl before ↦ others (At y.place) (so_far y before)
      | inr same ↦ subst (λ (v : Held). HasSlot now v.place) same (subst (λ (k : Keys). Contains (spots_in now) k.at) is there)
    ]

-- ---- changes put in one after another

key_behind : (bare : Bool) (front rest : List Held) (x : Held) (own : Keys) → own ≡ get_or (map (keys_for bare) (map place_of (front ++ x ∷ rest))) (length front) own → own ≡ keys_for bare x.place
key_behind bare [] rest x own e = e
key_behind bare (y ∷ front) rest x own e = key_behind bare front rest x own e

pub key_of : (bare : Bool) (ks : List Keys) (all front it rest : List Held) (x : Held) (at : ℕ) (own : Keys) → ks ≡ map (keys_for bare) (map place_of all) → front ++ it ≡ all → it ≡ x ∷ rest → at ≡ length front → own ≡ get_or ks at own → own ≡ keys_for bare x.place
key_of bare ks all front it rest x at own is split next count e =
    key_behind bare front rest x own
    (e ∙ ap (λ (l : List Keys). get_or l at own) (is ∙ ap (λ (l : List Held). map (keys_for bare) (map place_of l)) (sym split ∙ ap (λ (l : List Held). front ++ l) next))
    ∙ ap (λ (n : ℕ). get_or (map (keys_for bare) (map place_of (front ++ x ∷ rest))) n own) count)

length-map : {X Y : Type 0} (f : X → Y) (xs : List X) → length (map f xs) ≡ length xs
length-map f [] = refl
length-map f (x ∷ xs) = ap suc (length-map f xs)

pub key_within : (bare : Bool) (ks : List Keys) (all front it rest : List Held) (x : Held) (at : ℕ) → ks ≡ map (keys_for bare) (map place_of all) → front ++ it ≡ all → it ≡ x ∷ rest → at ≡ length front → at < length ks
key_within bare ks all front it rest x at is split next count =
    let a = ap length is in
    let b = length-map (keys_for bare) (map place_of all) in
    let c = length-map place_of all in
    let d = ap length split in
    let e = length-append front it in
    let f = ap length next in omega (arith, a, b, c, d, e, f, count)

pub count_more : (front : List Held) (x : Held) (at : ℕ) → at ≡ length front → at + 1 ≡ length (front ++ x ∷ [])
count_more front x at count = let e = length-append front (x ∷ []) in omega (arith, e, count)

pub next_slot : (old now : SlotMap) (all front it rest : List Held) (x : Held) → AreSlotsFor old all → spots_in now ≡ spots_in old → front ++ it ≡ all → it ≡ x ∷ rest → HasSlot now x.place
next_slot old now all front it rest x slots same split next =
    subst (λ (l : List Spot). Contains l (At x.place)) (sym same)
    (slots x (subst (λ (l : List Held). Contains l x) split (Contains-append_right front it x (subst (λ (l : List Held). Contains l x) (sym next) (contains_here x rest)))))

pub split_more : (all front it rest : List Held) (x : Held) → front ++ it ≡ all → it ≡ x ∷ rest → (front ++ x ∷ []) ++ rest ≡ all
split_more all front it rest x split next = append_assoc front (x ∷ []) rest ∙ ap (λ (l : List Held). front ++ l) (sym next) ∙ split

pub content_start : (kept : List Held) → IsContent kept (Contains kept) → IsContent kept (Either (Contains kept) (Contains []))
content_start kept h = IsContent-same kept (Contains kept) (Either (Contains kept) (Contains [])) (λ x k. inl k) (λ x u. elim u [ inl k ↦ k | inr none ↦ absurd (contains_nil x none) ]) h

pub content_more : (start before now front : List Held) (x : Held) → IsContent before (Either (Contains start) (Contains front)) → IsContent now (Either (Contains before) (λ y. x ≡ y)) → IsContent now (Either (Contains start) (Contains (front ++ x ∷ [])))
content_more start before now front x so_far one =
    IsContent-same now (Either (Either (Contains start) (Contains front)) (λ y. x ≡ y)) (Either (Contains start) (Contains (front ++ x ∷ [])))
    (λ y u. elim u [
      | inl a ↦ elim a [ inl s ↦ inl s | inr f ↦ inr (Contains-append_left front (x ∷ []) y f) ]
      | inr is ↦ inr (subst (Contains (front ++ x ∷ [])) is (Contains-push front x))
    ])
    (λ y u. elim u [
      | inl s ↦ inl (inl s)
      | inr k ↦ elim (Contains-push_cases front x y k) [ inl f ↦ inl (inr f) | inr is ↦ inr is ]
    ])
    (IsContent-onto before now (Either (Contains start) (Contains front)) (λ y. x ≡ y) so_far one)

pub sum_next : (it rest : List Held) (x : Held) → it ≡ x ∷ rest → sum_by held_length it ≡ held_length x + sum_by held_length rest
sum_next it rest x e = ap (sum_by held_length) e ∙ sum_by-cons held_length x rest

pub content_end : (start now front it all : List Held) → front ++ it ≡ all → it ≡ [] → IsContent now (Either (Contains start) (Contains front)) → IsContent now (Either (Contains start) (Contains all))
content_end start now front it all split none h = subst (λ (l : List Held). IsContent now (Either (Contains start) (Contains l))) (sym (append-nil front) ∙ ap (λ (l : List Held). front ++ l) (sym none) ∙ split) h

-- ---- keys and places

pub places_kept : (bare : Bool) (ps : List Place) → map place_of_keys (map (keys_for bare) ps) ≡ ps
places_kept bare [] = refl
places_kept bare (p ∷ ps) = ap (λ (l : List Place). p ∷ l) (places_kept bare ps)

pub taken_places : (bare : Bool) (ks : List Keys) (xs : List Held) → ks ≡ map (keys_for bare) (map place_of xs) → map place_of_keys ks ≡ map place_of xs
taken_places bare ks xs e = ap (map place_of_keys) e ∙ places_kept bare (map place_of xs)

pub taken_slots : (slots : SlotMap) (xs : List Held) (p : Place) → AreSlotsFor slots xs → Contains (map place_of xs) p → HasSlot slots p
taken_slots slots xs p there h =
    let f = contains_from_map place_of xs p h in subst (HasSlot slots) f.2 (there f.0 f.1)

pub are_taken : (slots : SlotMap) (ready : Ready) (xs : List Held) → ready.keys.items ≡ map (keys_for ready.bare) (map place_of xs) → AreSlotsFor slots xs → (ready.bare ≡ true → AreBare (changes_of slots.entries)) → (ready.bare ≡ true → AreBare xs) → AreNoted (spots_in slots) (map place_of xs) ready.inside.items → AreTaken slots (Some ready)
are_taken slots ready xs e there bare narrow inside =
    let same = taken_places ready.bare ready.keys.items xs e in
    record {
      keys = e ∙ ap (map (keys_for ready.bare)) (sym same);
      there = λ p h. taken_slots slots xs p there (subst (λ (l : List Place). Contains l p) same h);
      bare = bare;
      narrow = λ t p h. (let f = contains_from_map place_of xs p (subst (λ (l : List Place). Contains l p) same h) in subst IsInnermost f.2 (narrow t f.0 f.1));
      inside = subst (λ (l : List Place). AreNoted (spots_in slots) l ready.inside.items) (sym same) inside;
    }

pub none_taken : (slots : SlotMap) (ready : Option Ready) → places_in ready ≡ None → AreTaken slots ready
none_taken slots None e = tt
none_taken slots (Some ready) e = cc

-- what is ready is there, as the keys of these changes
pub ready_keys : (slots : SlotMap) (ready : Ready) (xs : List Held) → IsReady slots ready → places_in (Some ready) ≡ Some (map place_of xs) → ready.keys.items ≡ map (keys_for ready.bare) (map place_of xs)
ready_keys slots ready xs taken e = let same : map place_of_keys ready.keys.items ≡ map place_of xs = cc in taken.keys ∙ ap (map (keys_for ready.bare)) same

pub ready_slots : (slots : SlotMap) (ready : Ready) (xs : List Held) → IsReady slots ready → places_in (Some ready) ≡ Some (map place_of xs) → AreSlotsFor slots xs
ready_slots slots ready xs taken e x h =
    let same : map place_of_keys ready.keys.items ≡ map place_of xs = cc in
    taken.there x.place (subst (λ (l : List Place). Contains l x.place) (sym same) (contains_map place_of xs x h))

pub ready_inside : (slots : SlotMap) (ready : Ready) (xs : List Held) → IsReady slots ready → places_in (Some ready) ≡ Some (map place_of xs) → AreNoted (spots_in slots) (map place_of xs) ready.inside.items
ready_inside slots ready xs taken e =
    let same : map place_of_keys ready.keys.items ≡ map place_of xs = cc in subst (λ (l : List Place). AreNoted (spots_in slots) l ready.inside.items) same taken.inside

pub ready_narrow : (slots : SlotMap) (ready : Ready) (xs : List Held) → IsReady slots ready → places_in (Some ready) ≡ Some (map place_of xs) → ready.bare ≡ true → AreBare xs
ready_narrow slots ready xs taken e t x h =
    let same : map place_of_keys ready.keys.items ≡ map place_of xs = cc in
    taken.narrow t x.place (subst (λ (l : List Place). Contains l x.place) (sym same) (contains_map place_of xs x h))

narrow_is : (p : Place) → is_narrow_at p ≡ true → IsInnermost p
narrow_is (Cell r c) e = tt
narrow_is (Marker r) e = tt
narrow_is (RowGone r) e = cc
narrow_is (RangeGone f u) e = cc
narrow_is PartGone e = cc

both_true : (a b : Bool) → (a && b) ≡ true → (a ≡ true) × (b ≡ true)
both_true true b e = (refl, e)
both_true false b e = cc

pub all_narrow : (xs : List Held) → list_all is_narrow xs ≡ true → AreBare xs
all_narrow [] e x h = absurd (contains_nil x h)
all_narrow (y ∷ xs) e x h =
    let both = both_true (is_narrow y) (list_all is_narrow xs) e in
    elim (contains_cases y xs x h) [
      | inl same ↦ subst (λ (v : Held). IsInnermost v.place) same (narrow_is y.place both.0)
      | inr later ↦ all_narrow xs both.1 x later
    ]

-- what was tested for a deletion of rows has none
pub bare_tested : (a b : Bool) (xs : List Held) → b ≡ (a && list_all is_narrow xs) → b ≡ true → (a ≡ true) × AreBare xs
bare_tested a b xs e t = let both = both_true a (list_all is_narrow xs) (sym e ∙ t) in (both.0, all_narrow xs both.1)

-- no deletion of rows comes where none is there and none is put in
pub still_bare : (old now new : List Held) → AreBare old → AreBare new → IsContent now (Either (Contains old) (Contains new)) → AreBare now
still_bare old now new before more c x h = elim (c.within x h) [ inl k ↦ before x k | inr k ↦ more x k ]

pub front_bare : (all front it : List Held) → front ++ it ≡ all → AreBare all → AreBare front
front_bare all front it split bare x h = bare x (subst (λ (l : List Held). Contains l x) split (Contains-append_left front it x h))

pub next_bare : (all front it rest : List Held) (x : Held) → front ++ it ≡ all → it ≡ x ∷ rest → AreBare all → IsInnermost x.place
next_bare all front it rest x split next bare =
    bare x (subst (λ (l : List Held). Contains l x) split (Contains-append_right front it x (subst (λ (l : List Held). Contains l x) (sym next) (contains_here x rest))))

-- ---- what can be told of a sum

pub some_fits : (o : Option ℕ) (P : Type 0) (v : ℕ) (b : Bool) → SomeIff o P v → is_some o ≡ not b → b ≡ false → P
some_fits None P v b h s f = let t = s ∙ ap not f in cc
some_fits (Some x) P v b h s f = h.0

-- a list of no length is empty
pub nothing_left : (xs : List Held) (n : ℕ) → n ≡ length xs → n ≡ 0 → xs ≡ []
nothing_left [] n e z = refl
nothing_left (x ∷ xs) n e z = let f = sym z ∙ e in cc
