-- Changes each of which stands behind the one before it are in order.
use Rattle.std.proofs.Common.{◌≡◌, true, List, [], ◌∷◌, Option, Some, None, refl, ap}
use Rattle.std.specs.List.{AllByRecursion}
use Rattle.std.specs.List.Sorted.{IsStrictlySortedBy}
use Rattle.std.specs.Ordering.{is_lt}
use Rattle.std.specs.declared.cmp.Ordering.TheVariants.{Less}
use Rattle.changes.specs.declared.Held.{Held}
use Rattle.changes.specs.declared.Place.{Place}
use Rattle.changes.specs.Places.{place_cmp, stored_cmp, AreInOrder}
use Rattle.changes.specs.Totals.{place_total}
use Rattle.changes.proofs.Orderings.{less_is}
use Rattle.stored_fields.proofs.Lists.{FollowEach}
use Rattle.stored_changes.specs.Reading.{ascends, place_of}

abbrev pub Ascends : Option Place → Held → Type 0
Ascends before x = ascends before x.place ≡ true

all_of : {X : Type 0} (P Q : X → Type 0) (xs : List X) → ((x : X) → P x → Q x) → AllByRecursion P xs → AllByRecursion Q xs
all_of P Q [] f all = tt
all_of P Q (x ∷ xs) f all = (f x all.0, all_of P Q xs f all.1)

sorted_behind : (x : Held) (xs : List Held) → FollowEach Ascends place_of (Some x.place) xs → AreInOrder (x ∷ xs)
unfolding IsStrictlySortedBy
sorted_behind x [] follow = (tt, tt)
sorted_behind x (y ∷ ys) follow =
    let below : stored_cmp x y ≡ Less = less_is (place_cmp x.place y.place) follow.0 in
    let behind : AreInOrder (y ∷ ys) = sorted_behind y ys follow.1 in
    ((below, all_of (λ z. stored_cmp y z ≡ Less) (λ z. stored_cmp x z ≡ Less) ys (λ z above. place_total.trans x.place y.place z.place below above) behind.0), behind)

pub sorted_from_following : (xs : List Held) → FollowEach Ascends place_of None xs → AreInOrder xs
unfolding IsStrictlySortedBy
sorted_from_following [] follow = tt
sorted_from_following (x ∷ xs) follow = sorted_behind x xs follow.1

following_behind : (x : Held) (xs : List Held) → AreInOrder (x ∷ xs) → FollowEach Ascends place_of (Some x.place) xs
unfolding IsStrictlySortedBy
following_behind x [] sorted = tt
following_behind x (y ∷ ys) sorted = (ap is_lt sorted.0.0, following_behind y ys sorted.1)

pub following_from_sorted : (xs : List Held) → AreInOrder xs → FollowEach Ascends place_of None xs
following_from_sorted [] sorted = tt
following_from_sorted (x ∷ xs) sorted = (refl, following_behind x xs sorted)
