-- Maps that have the same in every slot are one.
use Rattle.std.proofs.Common.{true, false, Bool, ◌≡◌, ℕ, List, [], refl, sym}
use Rattle.std.specs.Prelude.{Option, None, Some, if◌then◌else◌}
use Rattle.single_copy.specs.Maps.{PartitionMap, Slot, InCell, AtMarker, seen}

-- optional values that are the same wherever one of them is there are one
pub option_same : (o o' : Option (List ℕ)) → ((v : List ℕ) → o ≡ Some v → o' ≡ Some v) → ((v : List ℕ) → o' ≡ Some v → o ≡ Some v) → o ≡ o'
option_same None None f g = refl
option_same None (Some v) f g = g v refl
option_same (Some v) o' f g = sym (f v refl)

marker_same : (a b : Bool) → ◌≡◌ {A = Option (List ℕ)} (if a then Some [] else None) (if b then Some [] else None) → a ≡ b
marker_same true true e = refl
marker_same true false e = cc
marker_same false true e = cc
marker_same false false e = refl

pub map_same : (m m' : PartitionMap) → ((k : Slot) → seen m k ≡ seen m' k) → m ≡ m'
map_same m m' all =
    let marks : (row : List ℕ) → m.marker row ≡ m'.marker row = λ row. marker_same (m.marker row) (m'.marker row) (all (AtMarker row)) in
    let values : (row : List ℕ) (column : ℕ) → m.value row column ≡ m'.value row column = λ row column. all (InCell row column) in
    λ i. record { marker = λ row. marks row i; value = λ row column. values row column i }
