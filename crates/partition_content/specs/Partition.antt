-- What a node keeps of a partition.
use Rattle.std.specs.Prelude.{◌≡◌, ℕ, ◌+◌, ◌<◌, ◌≤◌, ◌^◌, Bool, true, false, List, map, Option, Some, None, Contains}
use Rattle.cell_merge.specs.Parts.{IsInnermost}
use Rattle.changes.specs.declared.Held.{Held}
use Rattle.changes.specs.declared.Place.{Place}
use Rattle.changes.specs.declared.Place.TheVariants.{Cell, Marker, RowGone, RangeGone, PartGone}
use Rattle.changes.specs.Contents.{Either, IsContent}
use Rattle.changes.specs.Lengths.{changes_length, held_length}
use Rattle.partition_content.specs.declared.Arrived.{Arrived}
use Rattle.partition_content.specs.declared.keys.Keys.{Keys}
use Rattle.partition_content.specs.declared.memory.Ready.{Ready}
use Rattle.partition_content.specs.declared.spots.Spot.{Spot}
use Rattle.partition_content.specs.declared.spots.Spot.TheVariants.{At, Edge}
use Rattle.partition_content.specs.Slots.{SlotMap, changes_of, HasSlot, IsGood, spots_in}
use Rattle.partition_content.specs.Arrivals.{held_of}
use Rattle.partition_content.specs.Keys.{keys_for}
use Rattle.partition_content.specs.Inside.{AreNoted}

-- the changes with their arrivals, and the places of those for which memory is taken
pub record Partition : Type 0 where
  pub stored : List Arrived
  pub ready : Option (List Place)

abbrev pub changes_in : Partition → List Held
changes_in partition = map held_of partition.stored

abbrev pub place_of : Held → Place
place_of x = x.place

-- memory is taken for these changes, and the length with them can be told
pub record IsReadyFor (partition : Partition) (incoming : List Held) : Type 0 where
  pub places : partition.ready ≡ Some (map place_of incoming)
  pub fits : changes_length (changes_in partition) + changes_length incoming < 2 ^ 64

-- there is a change or memory at the place of each of these
abbrev pub AreSlotsFor : SlotMap → List Held → Type 0
AreSlotsFor slots changes = (x : Held) → Contains changes x → HasSlot slots x.place

abbrev pub place_at : Spot → Place
place_at (At place) = place
place_at (Edge bound) = PartGone

abbrev pub place_of_keys : Keys → Place
place_of_keys own = place_at own.at

abbrev pub places_in : Option Ready → Option (List Place)
places_in None = None
places_in (Some ready) = Some (map place_of_keys ready.keys.items)

-- no deletion of rows is among the changes
abbrev pub AreBare : List Held → Type 0
AreBare changes = (x : Held) → Contains changes x → IsInnermost x.place

-- not the deletion of a row, a range or the partition
abbrev pub is_narrow_at : Place → Bool
is_narrow_at (Cell row column) = true
is_narrow_at (Marker row) = true
is_narrow_at (RowGone row) = false
is_narrow_at (RangeGone from upto) = false
is_narrow_at PartGone = false

abbrev pub is_narrow : Held → Bool
is_narrow x = is_narrow_at x.place

-- there is a change or memory at each of these places, and the keys are theirs, with those that lie in each
pub record IsReady (slots : SlotMap) (ready : Ready) : Type 0 where
  pub keys : ready.keys.items ≡ map (keys_for ready.bare) (map place_of_keys ready.keys.items)
  pub there : (place : Place) → Contains (map place_of_keys ready.keys.items) place → HasSlot slots place
  pub bare : ready.bare ≡ true → AreBare (changes_of slots.entries)
  pub narrow : ready.bare ≡ true → (place : Place) → Contains (map place_of_keys ready.keys.items) place → IsInnermost place
  pub inside : AreNoted (spots_in slots) (map place_of_keys ready.keys.items) ready.inside.items

abbrev pub AreTaken : SlotMap → Option Ready → Type 0
AreTaken slots None = Unit {0}
AreTaken slots (Some ready) = IsReady slots ready

-- what is kept: the changes in the order of their keys, none of which outranks another, their length, memory at the places
-- that are ready, and whether no deletion of rows is there
pub record IsKept (slots : SlotMap) (ready : Option Ready) (length : ℕ) (plain : Bool) : Type 0 where
  pub good : IsGood slots
  pub long : length ≡ changes_length (changes_of slots.entries)
  pub taken : AreTaken slots ready
  pub bare : plain ≡ true → AreBare (changes_of slots.entries)

-- the change is taken in, and the length goes along
pub record IsTakenIn (old new : SlotMap) (x : Held) (before after : ℕ) : Type 0 where
  pub content : IsContent (changes_of new.entries) (Either (Contains (changes_of old.entries)) (λ y. x ≡ y))
  pub good : IsGood new
  pub same : spots_in new ≡ spots_in old
  pub long : after ≡ changes_length (changes_of new.entries)
  pub most : after ≤ before + held_length x
