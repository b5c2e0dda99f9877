-- What rows between two bounds ask of a partition: what is written in these rows, and the deletions that meet them.
use Rattle.std.specs.Prelude.{List, Contains, ◌↔◌}
use Rattle.changes.specs.declared.Bound.{Bound}
use Rattle.changes.specs.declared.Place.{Place}
use Rattle.changes.specs.declared.Place.TheVariants.{Cell, Marker, RowGone, RangeGone, PartGone}
use Rattle.changes.specs.declared.Held.{Held}
use Rattle.changes.specs.declared.Query.{Query}
use Rattle.changes.specs.Order.{IsBetween, NotAbove, bound_signs}

-- the place is in a row between the bounds, or is a deletion of rows that meets them
abbrev pub MeetsBounds : Bound → Bound → Place → Type 0
MeetsBounds from upto (Cell row column) = IsBetween from upto row
MeetsBounds from upto (Marker row) = IsBetween from upto row
MeetsBounds from upto (RowGone row) = IsBetween from upto row
MeetsBounds from upto (RangeGone a b) = NotAbove (bound_signs a) (bound_signs upto) × NotAbove (bound_signs from) (bound_signs b)
MeetsBounds from upto PartGone = Unit {0}

abbrev pub InQuery : Query → Held → Type 0
InQuery q x = MeetsBounds q.from q.upto x.place

-- part has each change of the content that meets the bounds, and no other
abbrev pub IsSlice : Bound → Bound → List Held → List Held → Type 0
IsSlice from upto content part = (x : Held) → Contains part x ↔ (Contains content x × MeetsBounds from upto x.place)
