-- A partition as a single copy has it: a map from rows to a marker and to values by column, without timestamps; what an
-- update leaves in it, and how a content of timestamped changes is such a map. After the CQL reference, "INSERT", "UPDATE",
-- "DELETE".
use Rattle.std.specs.Prelude.{◌≡◌, ℕ, ◌⊎◌, ◌↔◌, Bool, false, if◌then◌else◌, Option, Some, None, List, [], Contains}
use Rattle.std.specs.declared.cmp.Ordering.TheVariants.{Greater}
use Rattle.changes.specs.declared.Place.{Place}
use Rattle.changes.specs.declared.Place.TheVariants.{Cell, Marker}
use Rattle.changes.specs.declared.Held.{Held}
use Rattle.changes.specs.declared.Draft.{Draft}
use Rattle.changes.specs.Order.{Encloses, LiesIn, value_cmp}
use Rattle.changes.specs.Shown.{IsTop}

-- rows and columns that the map has nothing for have no marker, and no value
pub record PartitionMap : Type 0 where
  pub marker : List ℕ → Bool
  pub value : List ℕ → ℕ → Option (List ℕ)

abbrev pub empty_map : PartitionMap
empty_map = record { marker = λ row. false; value = λ row column. None }

-- what a map has a value for: a cell, or a row's marker
pub data Slot : Type 0 where
  InCell : (row : List ℕ) (column : ℕ) → Slot
  AtMarker : (row : List ℕ) → Slot

abbrev pub place_of : Slot → Place
place_of (InCell row column) = Cell row column
place_of (AtMarker row) = Marker row

-- what the map has in a slot; a marker that is set has the empty value
abbrev pub seen : PartitionMap → Slot → Option (List ℕ)
seen m (InCell row column) = m.value row column
seen m (AtMarker row) = if m.marker row then Some [] else None

-- a change of this place writes the slot or deletes what is there
abbrev pub ActsOn : Place → Slot → Type 0
ActsOn p k = LiesIn (place_of k) p

-- a change with this value gives the slot the value v; one without a value gives none
abbrev pub IsValueAt : Slot → Option (List ℕ) → List ℕ → Type 0
IsValueAt (InCell row column) value v = value ≡ Some v
IsValueAt (AtMarker row) value v = v ≡ []

-- ---- what an update leaves

-- of two drafts of one update: at one place a deletion before a value and the greater value before the lesser, and a
-- deletion before what lies in it. In which order a statement has them does not matter
abbrev pub DraftOutranks : Draft → Draft → Type 0
DraftOutranks d e = ((d.place ≡ e.place) × (value_cmp d.value e.value ≡ Greater)) ⊎ Encloses d.place e.place

-- the update leaves v in the slot: one of its drafts gives it, and no other one outranks that draft
abbrev pub LeavesIn : List Draft → Slot → List ℕ → Type 0
LeavesIn drafts k v =
    (d : Draft) × Contains drafts d × ((e : Draft) → Contains drafts e → DraftOutranks e d → ⊥) × (d.place ≡ place_of k) × IsValueAt k d.value v

-- the drafts are written into the map: where one of them acts, the slot has what they leave, and elsewhere what it had
pub record Writes (drafts : List Draft) (m m' : PartitionMap) : Type 0 where
  pub written : (k : Slot) (d : Draft) → Contains drafts d → ActsOn d.place k → (v : List ℕ) → (seen m' k ≡ Some v) ↔ LeavesIn drafts k v
  pub kept : (k : Slot) → ((d : Draft) → Contains drafts d → ActsOn d.place k → ⊥) → seen m' k ≡ seen m k

-- ---- what a set of changes shows

-- the change that wins in the slot gives it v
abbrev pub ShowsAt : (Held → Type 0) → Slot → List ℕ → Type 0
ShowsAt S k v = (x : Held) × IsTop S x × (x.place ≡ place_of k) × IsValueAt k x.value v

-- a content as a single copy
abbrev pub IsMapOf : List Held → PartitionMap → Type 0
IsMapOf content m = (k : Slot) (v : List ℕ) → (seen m k ≡ Some v) ↔ ShowsAt (Contains content) k v
