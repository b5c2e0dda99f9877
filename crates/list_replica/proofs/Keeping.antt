-- What the entries of a log make of nothing, as one state.
use Rattle.std.proofs.Common.{◌≡◌, List, [], ◌∷◌, ◌++◌, refl}
use Rattle.std.proofs.lemmas.List.{map-append}
use Rattle.durable_state.specs.State.{Durable, formatted}
use Rattle.durable_state.specs.Keeping.{Commits}
use Rattle.durable_state.proofs.Making.{each_entry_makes}
use Rattle.list_replica.specs.Keeping.{Entered, entry_of, entries_of, kept_from, kept_by}

-- one entry more makes of it what it makes
pub kept_more : (es : List Entered) (e : Entered) (d : Durable) → Commits e.0.items (kept_from d es) (kept_from d (es ++ e ∷ []))
unfolding kept_from
kept_more [] e d = (each_entry_makes e.0.items d).1
kept_more (f ∷ es) e d = kept_more es e (each_entry_makes f.0.items d).0

pub entries_push : (es : List Entered) (e : Entered) → entries_of (es ++ e ∷ []) ≡ entries_of es ++ e.0 ∷ []
entries_push es e = map-append entry_of es (e ∷ [])

pub kept_none : kept_by [] ≡ formatted
unfolding kept_from
kept_none = refl
