-- The tree without its arrivals, as each step of the tree leaves it.
use Rattle.std.proofs.Common.{◌≡◌, ◌≤◌, ◌++◌, length, length-append, arith, Bool, true, false, cond, List, [], ◌∷◌, Option, Some, None, IsSome, filter, map, refl, sym, ◌∙◌, ap, subst}
use Rattle.std.specs.Option.{option_to_list}
use Rattle.std.specs.BTreeMap.{insert_entry}
use Rattle.std.specs.Map.{keys_of, lookup, set_value, remove_entry}
use Rattle.std.specs.Ordering.{match_ordering}
use Rattle.std.specs.declared.cmp.Ordering.{Ordering}
use Rattle.std.specs.declared.cmp.Ordering.TheVariants.{Less, Equal, Greater}
use Rattle.changes.specs.declared.Held.{Held}
use Rattle.partition_content.specs.declared.Arrived.{Arrived}
use Rattle.partition_content.specs.declared.spots.Spot.{Spot}
use Rattle.partition_content.specs.Arrivals.{held_of}
use Rattle.partition_content.specs.Spots.{spot_cmp}
use Rattle.partition_content.specs.Slots.{stored_of, stored_in, held_in, held_entry, helds_in, changes_of, change_in}

pub helds-keys : (es : List (Spot × Option Arrived)) → keys_of (helds_in es) ≡ keys_of es
helds-keys [] = refl
helds-keys (e ∷ es) = ap (λ (l : List Spot). e.0 ∷ l) (helds-keys es)

-- ---- the changes

changes_behind : (o : Option Arrived) (xs : List Arrived) (ys : List Held) → map held_of xs ≡ ys → map held_of (option_to_list o ++ xs) ≡ option_to_list (held_in o) ++ ys
changes_behind None xs ys e = e
changes_behind (Some x) xs ys e = ap (λ (l : List Held). x.held ∷ l) e

pub stored_changes : (es : List (Spot × Option Arrived)) → map held_of (stored_of es) ≡ changes_of (helds_in es)
stored_changes [] = refl
stored_changes (e ∷ es) = changes_behind e.1 (stored_of es) (changes_of (helds_in es)) (stored_changes es)

-- where all that is stored stays, so do the changes
pub changes_still : (es fs : List (Spot × Option Arrived)) → stored_of fs ≡ stored_of es → changes_of (helds_in fs) ≡ changes_of (helds_in es)
changes_still es fs e = sym (stored_changes fs) ∙ ap (map held_of) e ∙ stored_changes es

-- ---- look-ups

abbrev held_lookup : Option (Option Arrived) → Option (Option Held)
held_lookup None = None
held_lookup (Some slot) = Some (held_in slot)

held_cond : (b : Bool) (v : Option Arrived) (o : Option (Option Arrived)) → cond b (Some (held_in v)) (held_lookup o) ≡ held_lookup (cond b (Some v) o)
held_cond true v o = refl
held_cond false v o = refl

helds-lookup : (t : Spot → Bool) (es : List (Spot × Option Arrived)) → lookup t (helds_in es) ≡ held_lookup (lookup t es)
helds-lookup t [] = refl
helds-lookup t (e ∷ es) = ap (λ (o : Option (Option Held)). cond (t e.0) (Some (held_in e.1)) o) (helds-lookup t es) ∙ held_cond (t e.0) e.1 (lookup t es)

change_stored : (o : Option (Option Arrived)) → change_in (held_lookup o) ≡ held_in (stored_in o)
change_stored None = refl
change_stored (Some slot) = refl

pub helds-found : (t : Spot → Bool) (es : List (Spot × Option Arrived)) (v : Option Arrived) → lookup t es ≡ Some v → lookup t (helds_in es) ≡ Some (held_in v)
helds-found t es v found = helds-lookup t es ∙ ap held_lookup found

some_held : (o : Option (Option Arrived)) → IsSome (held_lookup o) → IsSome o
some_held None h = cc
some_held (Some slot) h = refl

pub slot_there : (t : Spot → Bool) (es : List (Spot × Option Arrived)) → IsSome (lookup t (helds_in es)) → IsSome (lookup t es)
slot_there t es h = some_held (lookup t es) (subst IsSome (helds-lookup t es) h)

pub change-at : (t : Spot → Bool) (es : List (Spot × Option Arrived)) → change_in (lookup t (helds_in es)) ≡ held_in (stored_in (lookup t es))
change-at t es = ap change_in (helds-lookup t es) ∙ change_stored (lookup t es)

-- ---- entries

set_at : (b : Bool) (e : Spot × Option Arrived) (es more : List (Spot × Option Arrived)) (w : Option Arrived) (left : List (Spot × Option Held)) → helds_in more ≡ left → helds_in (cond b ((e.0, w) ∷ es) (e ∷ more)) ≡ cond b ((e.0, held_in w) ∷ helds_in es) (held_entry e ∷ left)
set_at true e es more w left h = refl
set_at false e es more w left h = ap (λ (l : List (Spot × Option Held)). held_entry e ∷ l) h

pub helds-set_value : (t : Spot → Bool) (es : List (Spot × Option Arrived)) (w : Option Arrived) → helds_in (set_value t es w) ≡ set_value t (helds_in es) (held_in w)
helds-set_value t [] w = refl
helds-set_value t (e ∷ es) w = set_at (t e.0) e es (set_value t es w) w (set_value t (helds_in es) (held_in w)) (helds-set_value t es w)

remove_at : (b : Bool) (e : Spot × Option Arrived) (es more : List (Spot × Option Arrived)) (left : List (Spot × Option Held)) → helds_in more ≡ left → helds_in (cond b es (e ∷ more)) ≡ cond b (helds_in es) (held_entry e ∷ left)
remove_at true e es more left h = refl
remove_at false e es more left h = ap (λ (l : List (Spot × Option Held)). held_entry e ∷ l) h

pub helds-remove_entry : (t : Spot → Bool) (es : List (Spot × Option Arrived)) → helds_in (remove_entry t es) ≡ remove_entry t (helds_in es)
helds-remove_entry t [] = refl
helds-remove_entry t (e ∷ es) = remove_at (t e.0) e es (remove_entry t es) (remove_entry t (helds_in es)) (helds-remove_entry t es)

insert_at : (o : Ordering) (k : Spot) (e : Spot × Option Arrived) (es more : List (Spot × Option Arrived)) (left : List (Spot × Option Held)) → helds_in more ≡ left → helds_in (match_ordering o ((k, None) ∷ e ∷ es) ((e.0, None) ∷ es) (e ∷ more)) ≡ match_ordering o ((k, None) ∷ held_entry e ∷ helds_in es) ((e.0, None) ∷ helds_in es) (held_entry e ∷ left)
insert_at Less k e es more left h = refl
insert_at Equal k e es more left h = refl
insert_at Greater k e es more left h = ap (λ (l : List (Spot × Option Held)). held_entry e ∷ l) h

pub helds-insert_entry : (es : List (Spot × Option Arrived)) (k : Spot) → helds_in (insert_entry spot_cmp es k None) ≡ insert_entry spot_cmp (helds_in es) k None
helds-insert_entry [] k = refl
helds-insert_entry (e ∷ es) k = insert_at (spot_cmp k e.0) k e es (insert_entry spot_cmp es k None) (insert_entry spot_cmp (helds_in es) k None) (helds-insert_entry es k)

filter_at : (b : Bool) (e : Spot × Option Arrived) (more : List (Spot × Option Arrived)) (left : List (Spot × Option Held)) → helds_in more ≡ left → helds_in (cond b (e ∷ more) more) ≡ cond b (held_entry e ∷ left) left
filter_at true e more left h = ap (λ (l : List (Spot × Option Held)). held_entry e ∷ l) h
filter_at false e more left h = h

pub helds-filter : (p : Spot → Bool) (es : List (Spot × Option Arrived)) → helds_in (filter (λ e. p e.0) es) ≡ filter (λ e. p e.0) (helds_in es)
helds-filter p [] = refl
helds-filter p (e ∷ es) = filter_at (p e.0) e (filter (λ d. p d.0) es) (filter (λ d. p d.0) (helds_in es)) (helds-filter p es)

-- ---- how many there are

one_most : (o : Option Arrived) → length (option_to_list o) ≤ 1
one_most None = omega arith
one_most (Some x) = omega arith

-- no more are stored than there are keys
pub stored_most : (es : List (Spot × Option Arrived)) → length (stored_of es) ≤ length es
stored_most [] = omega arith
stored_most (e ∷ es) =
    let one = one_most e.1 in
    let rest = stored_most es in
    let sum = length-append (option_to_list e.1) (stored_of es) in omega (arith, one, rest, sum)
