-- The tests of places by which the code searches.
use Rattle.std.specs.Prelude.{ℕ, Bool, true, false, List}
use Rattle.std.specs.Ordering.{is_lt, is_le}
use Rattle.changes.specs.declared.Bound.{Bound}
use Rattle.changes.specs.declared.Place.{Place}
use Rattle.changes.specs.declared.Place.TheVariants.{Cell, Marker, RowGone, RangeGone, PartGone}
use Rattle.changes.specs.Order.{bound_signs, row_signs, signs_cmp}
use Rattle.changes.specs.Places.{bound_cmp, place_cmp}

-- the place is in a row behind the bound
abbrev pub is_behind_bound : Bound → Place → Bool
is_behind_bound b (Cell row column) = is_lt (signs_cmp (bound_signs b) (row_signs row))
is_behind_bound b (Marker row) = is_lt (signs_cmp (bound_signs b) (row_signs row))
is_behind_bound b (RowGone row) = is_lt (signs_cmp (bound_signs b) (row_signs row))
is_behind_bound b (RangeGone from upto) = false
is_behind_bound b PartGone = false

-- the place is in a row before the bound, or in none
abbrev pub is_before_bound : Bound → Place → Bool
is_before_bound b (Cell row column) = is_lt (signs_cmp (row_signs row) (bound_signs b))
is_before_bound b (Marker row) = is_lt (signs_cmp (row_signs row) (bound_signs b))
is_before_bound b (RowGone row) = is_lt (signs_cmp (row_signs row) (bound_signs b))
is_before_bound b (RangeGone from upto) = true
is_before_bound b PartGone = true

-- the first is a deletion of rows that begins no later than the second
abbrev pub begins_by : Place → Place → Bool
begins_by PartGone q = true
begins_by (RangeGone from upto) (Cell row column) = is_behind_bound from (Cell row column)
begins_by (RangeGone from upto) (Marker row) = is_behind_bound from (Marker row)
begins_by (RangeGone from upto) (RowGone row) = is_behind_bound from (RowGone row)
begins_by (RangeGone from upto) (RangeGone a b) = is_le (bound_cmp from a)
begins_by (RangeGone from upto) PartGone = false
begins_by (RowGone row) q = false
begins_by (Marker row) q = false
begins_by (Cell row column) q = false

-- the first is a deletion of rows that reaches as far as the second
abbrev pub reaches_to : Place → Place → Bool
reaches_to PartGone q = true
reaches_to (RangeGone from upto) (Cell row column) = is_before_bound upto (Cell row column)
reaches_to (RangeGone from upto) (Marker row) = is_before_bound upto (Marker row)
reaches_to (RangeGone from upto) (RowGone row) = is_before_bound upto (RowGone row)
reaches_to (RangeGone from upto) (RangeGone a b) = is_le (bound_cmp b upto)
reaches_to (RangeGone from upto) PartGone = false
reaches_to (RowGone row) q = false
reaches_to (Marker row) q = false
reaches_to (Cell row column) q = false

-- the place stands before the other
abbrev pub is_before_place : Place → Place → Bool
is_before_place place p = is_lt (place_cmp p place)

-- the place stands before those of the row
abbrev pub is_before_row : List ℕ → Place → Bool
is_before_row row p = is_before_place (RowGone row) p
