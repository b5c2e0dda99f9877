-- The tree that keeps the changes of a partition: at a key a change with its arrival, or memory for one.
use Rattle.std.specs.Prelude.{◌≡◌, ◌≢◌, ℕ, ◌⊎◌, ◌+◌, List, [], ◌∷◌, Option, Some, None, Contains, map, flat_map, Bool, false, not, is_some}
use Rattle.std.specs.Option.{option_to_list}
use Rattle.std.specs.BTreeMap.{BTreeMap, is_at}
use Rattle.std.specs.Map.{keys_of, lookup, set_value}
use Rattle.changes.specs.declared.Held.{Held}
use Rattle.changes.specs.declared.Place.{Place}
use Rattle.cell_merge.specs.Parts.{IsOutrankedBy}
use Rattle.std.specs.List.Sorted.{IsStrictlySortedBy}
use Rattle.std.specs.declared.cmp.Ordering.TheVariants.{Less}
use Rattle.changes.specs.Contents.{AreApart, IsReachedBy}
use Rattle.changes.specs.Order.{Outranks, rank_cmp, row_of}
use Rattle.changes.specs.Lengths.{held_length}
use Rattle.partition_content.specs.Spots.{spot_cmp}
use Rattle.partition_content.specs.declared.Arrived.{Arrived}
use Rattle.partition_content.specs.declared.keys.Span.{Span}
use Rattle.partition_content.specs.declared.keys.Span.TheVariants.{Alone, Under, Row, Rows, All}
use Rattle.partition_content.specs.declared.spots.Spot.{Spot}
use Rattle.partition_content.specs.declared.spots.Spot.TheVariants.{At, Edge}

abbrev pub SlotTree : Type 0
SlotTree = BTreeMap Spot (Option Arrived)

-- all that is stored, in the order of the keys
abbrev pub stored_of : List (Spot × Option Arrived) → List Arrived
stored_of es = flat_map (λ e. option_to_list e.1) es

-- what a look-up gives, where memory alone counts as nothing
abbrev pub stored_in : Option (Option Arrived) → Option Arrived
stored_in None = None
stored_in (Some slot) = slot

-- ---- the tree without the arrivals

pub record SlotMap : Type 0 where
  pub entries : List (Spot × Option Held)

abbrev pub held_in : Option Arrived → Option Held
held_in None = None
held_in (Some x) = Some x.held

abbrev pub held_entry : Spot × Option Arrived → Spot × Option Held
held_entry e = (e.0, held_in e.1)

abbrev pub helds_in : List (Spot × Option Arrived) → List (Spot × Option Held)
helds_in es = map held_entry es

abbrev pub helds_of : SlotTree → SlotMap
helds_of tree = record { entries = helds_in tree.entries }

abbrev pub spots_in : SlotMap → List Spot
spots_in slots = keys_of slots.entries

abbrev pub slot_at : SlotMap → Spot → Option (Option Held)
slot_at slots spot = lookup (is_at (spot_cmp spot)) slots.entries

-- the changes, in the order of the keys
abbrev pub changes_of : List (Spot × Option Held) → List Held
changes_of es = flat_map (λ e. option_to_list e.1) es

-- what a look-up gives, where memory alone counts as nothing
abbrev pub change_in : Option (Option Held) → Option Held
change_in None = None
change_in (Some slot) = slot

-- each change has the place of its key
abbrev pub AreFiled : List (Spot × Option Held) → Type 0
AreFiled es = (spot : Spot) (x : Held) → Contains es (spot, Some x) → spot ≡ At x.place

-- there is a change or memory at the place
abbrev pub HasSlot : SlotMap → Place → Type 0
HasSlot slots place = Contains (spots_in slots) (At place)

abbrev pub IsCleared : Held → Option Held → Option Held → Type 0
IsCleared x None new = new ≡ None
IsCleared x (Some y) new = (Outranks x y × (new ≡ None)) ⊎ ((Outranks x y → ⊥) × (new ≡ Some y))

-- each change that x outranks has gone, and its memory is still there
abbrev pub AreCleared : Held → List (Spot × Option Held) → List (Spot × Option Held) → Type 0
AreCleared x [] left = left ≡ []
AreCleared x (e ∷ es) left = (slot : Option Held) × (rest : List (Spot × Option Held)) × IsCleared x e.1 slot × AreCleared x es rest × (left ≡ (e.0, slot) ∷ rest)

-- the change in a slot counts if P is told of it
abbrev pub IsCountedWith : (Held → Type 0) → Option Held → ℕ → ℕ → Type 0
IsCountedWith P None rest all = all ≡ rest
IsCountedWith P (Some y) rest all = (P y × (all ≡ held_length y + rest)) ⊎ ((P y → ⊥) × (all ≡ rest))

-- the changes of which P is told have this length
abbrev pub IsLengthOf : (Held → Type 0) → List (Spot × Option Held) → ℕ → Type 0
IsLengthOf P [] all = all ≡ 0
IsLengthOf P (e ∷ es) all = (rest : ℕ) × IsLengthOf P es rest × IsCountedWith P e.1 rest all

-- x outranks the change, and none of the others does
abbrev pub IsNewlyOutranked : List Held → Held → Held → Type 0
IsNewlyOutranked others x y = Outranks x y × (IsOutrankedBy others y → ⊥)

-- what x outranks was cleared from the slot at a key, if there is one
abbrev pub IsClearedFrom : Held → Spot → List (Spot × Option Arrived) → List (Spot × Option Arrived) → Option (Option Arrived) → Type 0
IsClearedFrom x at old new None = new ≡ old
IsClearedFrom x at old new (Some v) =
    (w : Option Arrived) × IsCleared x (held_in v) (held_in w) × ((w ≡ v) ⊎ (w ≡ None)) × (new ≡ set_value (is_at (spot_cmp at)) old w)

-- the change at the key has gone if x outranks it, and nothing else
abbrev pub IsClearedAt : Held → Spot → List (Spot × Option Arrived) → List (Spot × Option Arrived) → Type 0
IsClearedAt x at old new = IsClearedFrom x at old new (lookup (is_at (spot_cmp at)) old)

-- all changes that x outranks are at these keys
abbrev pub AreOutrankedAmong : Held → List (Spot × Option Held) → List Spot → Type 0
AreOutrankedAmong x es keys = (s : Spot) (y : Held) → Contains es (s, Some y) → Outranks x y → Contains keys s

abbrev pub IsReachedAt : Option Held → Held → Type 0
IsReachedAt None x = ⊥
IsReachedAt (Some y) x = rank_cmp y x ≢ Less

abbrev pub IsOutrankedAt : Option Held → Held → Type 0
IsOutrankedAt None x = ⊥
IsOutrankedAt (Some y) x = Outranks y x

-- a deletion of a range or of the partition outranks x
abbrev pub IsOutrankedFrom : List (Spot × Option Held) → Held → Type 0
IsOutrankedFrom es x = (y : Held) × Contains (changes_of es) y × (row_of y.place ≡ None) × Outranks y x

-- the keys are in order, each change has the place of its key, and none outranks another
pub record IsGood (slots : SlotMap) : Type 0 where
  pub sorted : IsStrictlySortedBy spot_cmp (spots_in slots)
  pub filed : AreFiled slots.entries
  pub apart : AreApart (changes_of slots.entries)

-- the deletion of its row outranks x
abbrev pub IsOutrankedUnder : SlotMap → Span → Held → Type 0
IsOutrankedUnder slots Alone x = ⊥
IsOutrankedUnder slots (Under row) x = IsOutrankedAt (change_in (slot_at slots row)) x
IsOutrankedUnder slots (Row last) x = ⊥
IsOutrankedUnder slots (Rows from upto) x = ⊥
IsOutrankedUnder slots All x = ⊥

-- what x outranks is at one key
abbrev pub OutranksOnlyAt : Held → Spot → List (Spot × Option Held) → Type 0
OutranksOnlyAt x at es = (spot : Spot) (y : Held) → Contains es (spot, Some y) → Outranks x y → spot ≡ at

-- x takes the place of a change of its place that it beats, and the length goes along
abbrev pub IsPutIn : Held → Option Held → Option Held → ℕ → ℕ → Type 0
IsPutIn x None new before after = (new ≡ Some x) × (after ≡ before + held_length x)
IsPutIn x (Some y) new before after =
    ((rank_cmp y x ≢ Less) × (new ≡ Some y) × (after ≡ before)) ⊎ ((rank_cmp y x ≡ Less) × (new ≡ Some x) × (after + held_length y ≡ before + held_length x))

-- the slot stays, or x comes to it at this time, where the change there neither is it nor beats it
abbrev pub ComesIn : ℕ → Held → Option Arrived → Option Arrived → Type 0
ComesIn time x old new = (new ≡ old) ⊎ ((IsReachedAt (held_in old) x → ⊥) × (new ≡ Some (record { held = x; arrival = time })))

-- both at a key
pub record IsPutAt (time : ℕ) (x : Held) (at : Spot) (old new : List (Spot × Option Arrived)) (before after : ℕ) : Type 0 where
  pub was : Option Arrived
  pub left : Option Arrived
  pub found : lookup (is_at (spot_cmp at)) old ≡ Some was
  pub put : IsPutIn x (held_in was) (held_in left) before after
  pub comes : ComesIn time x was left
  pub entries : new ≡ set_value (is_at (spot_cmp at)) old left

-- nothing else comes than x, at this time, and only where no change that is there reaches it
abbrev pub ComesAlone : ℕ → Held → List (Spot × Option Arrived) → List (Spot × Option Arrived) → Type 0
ComesAlone time x old new =
    (a : Arrived) → Contains (stored_of new) a → Contains (stored_of old) a ⊎ ((IsReachedBy (changes_of (helds_in old)) x → ⊥) × (a ≡ record { held = x; arrival = time }))

-- all that is stored now was there
abbrev pub AreLeft : List (Spot × Option Arrived) → List (Spot × Option Arrived) → Type 0
AreLeft old new = (a : Arrived) → Contains (stored_of new) a → Contains (stored_of old) a

-- the key of a place in no single row
abbrev pub is_wide_spot : Spot → Bool
is_wide_spot (At place) = not (is_some (row_of place))
is_wide_spot (Edge bound) = false
