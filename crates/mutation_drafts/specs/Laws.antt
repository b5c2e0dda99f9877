-- What is so of the drafts that are kept.
use Rattle.std.specs.Prelude.{◌≡◌, List}
use Rattle.changes.specs.declared.Draft.{Draft}
use Rattle.mutation_drafts.specs.Kept.{IsKept}

-- What is kept of drafts is one list.
abbrev pub KeptAreOne : Type 0
KeptAreOne = (all kept other : List Draft) → IsKept kept all → IsKept other all → kept ≡ other
