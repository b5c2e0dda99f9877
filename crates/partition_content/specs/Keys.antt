-- The keys at which a change of a place is put in, and between which it may outrank others.
use Rattle.std.specs.Prelude.{◌≡◌, ℕ, List, Bool, true, false}
use Rattle.changes.specs.declared.Place.{Place}
use Rattle.changes.specs.declared.Place.TheVariants.{Cell, Marker, RowGone, RangeGone, PartGone}
use Rattle.partition_content.specs.declared.spots.Spot.{Spot}
use Rattle.partition_content.specs.declared.spots.Spot.TheVariants.{At, Edge}
use Rattle.partition_content.specs.declared.keys.Keys.{Keys}
use Rattle.partition_content.specs.declared.keys.Span.{Span}
use Rattle.partition_content.specs.declared.keys.Span.TheVariants.{Alone, Under, Row, Rows, All}

-- where no deletion of rows is among the changes, a cell or a marker stands alone
abbrev pub span_in : Bool → List ℕ → Span
span_in true row = Alone
span_in false row = Under (At (RowGone row))

-- behind the keys of the row
abbrev pub row_end : List ℕ → Spot
row_end row = Edge (record { at = row; after = true })

abbrev pub span_for : Bool → Place → Span
span_for bare (Cell row column) = span_in bare row
span_for bare (Marker row) = span_in bare row
span_for bare (RowGone row) = Row (row_end row)
span_for bare (RangeGone from upto) = Rows (Edge from) (Edge upto)
span_for bare PartGone = All

abbrev pub keys_for : Bool → Place → Keys
keys_for bare place = record { at = At place; span = span_for bare place }

abbrev pub AreKeysOf : Keys → Place → Type 0
AreKeysOf own place = (bare : Bool) × (own ≡ keys_for bare place)
