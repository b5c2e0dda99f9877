-- Changes that are read one after another.
use Rattle.std.proofs.Common.{◌≡◌, ℕ, ◌-◌, ◌+◌, ◌<◌, List, [], ◌∷◌, ◌++◌, Option, Some, Ok, sym, ap, subst}
use Rattle.std.specs.Option.{option_map}
use Rattle.changes.specs.declared.Held.{Held}
use Rattle.changes.specs.declared.Place.{Place}
use Rattle.stored_fields.specs.Reading.{Read, items_at}
use Rattle.stored_fields.proofs.Lists.{with_front, goes_on, slice_get-last}
use Rattle.stored_changes.specs.Reading.{change_at, place_of, held_place, last_place}

pub last_place-end : (xs : List Held) (x : Held) → last_place (xs ++ x ∷ []) ≡ Some x.place
last_place-end xs x = ap (option_map held_place) (slice_get-last xs x)

pub goes_on_behind : (front : List Held) (count i : ℕ) (bytes : List ℕ) (x : Held) (after : List ℕ) (total : Read (List Held)) (before : Option Place)
    → before ≡ last_place front → i < count → change_at before bytes ≡ Ok (x, after)
    → with_front front (items_at change_at place_of (last_place front) (count - i) bytes) ≡ total
    → with_front (front ++ x ∷ []) (items_at change_at place_of (last_place (front ++ x ∷ [])) (count - (i + 1)) after) ≡ total
goes_on_behind front count i bytes x after total before is lt h so_far =
    let read : change_at (last_place front) bytes ≡ Ok (x, after) = subst (λ (b : Option Place). change_at b bytes ≡ Ok (x, after)) is h in
    subst (λ (b : Option Place). with_front (front ++ x ∷ []) (items_at change_at place_of b (count - (i + 1)) after) ≡ total) (sym (last_place-end front x))
    (goes_on change_at place_of front (last_place front) count i bytes x after total lt read so_far)
