-- What the code of the order computes.
use Rattle.std.specs.Prelude.{ℕ, Bool, List, ◌&&◌, ◌==◌}
use Rattle.std.specs.List.{starts_with}
use Rattle.std.specs.Ordering.{ordering_then}
use Rattle.std.specs.declared.cmp.Ordering.{Ordering}
use Rattle.changes.specs.declared.Bound.{Bound}
use Rattle.changes.specs.declared.Held.{Held}
use Rattle.changes.specs.declared.Place.{Place}
use Rattle.changes.specs.declared.Place.TheVariants.{Cell, Marker, RowGone, RangeGone, PartGone}
use Rattle.changes.specs.Order.{rank_cmp}
use Rattle.changes.specs.Places.{stored_cmp}

-- the bound is behind all rows that begin with its bytes, and the row begins with them
abbrev pub is_past : Bound → List ℕ → Bool
is_past b row = b.after && starts_with ◌==◌ row b.at

-- where a place stands in its row, if it is in one
abbrev pub step_of : Place → ℕ × ℕ
step_of PartGone = (0, 0)
step_of (RangeGone from upto) = (0, 0)
step_of (RowGone row) = (0, 0)
step_of (Marker row) = (1, 0)
step_of (Cell row column) = (2, column)

-- by place, and of one place the one that beats the others first
abbrev pub storing_cmp : Held → Held → Ordering
storing_cmp x y = ordering_then (stored_cmp x y) (rank_cmp y x)
