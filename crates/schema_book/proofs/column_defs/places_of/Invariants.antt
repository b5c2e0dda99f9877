use Rattle.std.proofs.Common.{◌≡◌, take}
use Rattle.schema_book.specs.Columns.{ArePlacesOf}
use Rattle.schema_book.proofs.column_defs.places_of.Given as goal

abbrev pub invariant-loop-def : goal.invariant-loop-def
invariant-loop-def l = (l.place ≡ l.def-index) × ArePlacesOf (take l.def-index l.defs) l.places
