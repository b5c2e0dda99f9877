use Rattle.std.proofs.Common.{◌≡◌, ℕ, List, drop}
use Rattle.std.specs.Option.{is_some}
use Rattle.std.specs.BTreeMap.{get_by_text}
use Rattle.schema_book.specs.Names.{is_among, has_twice, stands_again}
use Rattle.schema_book.proofs.names.has_twice.Given as goal

-- the map has the names before, and it is left whether one of the others stands again
abbrev pub invariant-loop-name : goal.invariant-loop-name
invariant-loop-name l =
    (before : List (List ℕ))
    × ((q : List ℕ) → is_some (get_by_text l.seen.places q) ≡ is_among q before)
    × (has_twice l.names ≡ stands_again before (drop l.name-index l.names))
