-- Items each of whose kinds doesn't fall behind the one before it are in the order of their kinds.
use Rattle.std.proofs.Common.{ℕ, zero, suc, ◌≤◌, ◌<◌, List, [], ◌∷◌, length, get_or, arith}
use Rattle.row_change.specs.declared.entry.LogItem.{LogItem}
use Rattle.row_change.specs.Grammar.{kind_of, AreByKind}
use Rattle.stored_fields.proofs.Lists.{FollowEach}

abbrev pub Follows : ℕ → LogItem → Type 0
Follows before item = before ≤ kind_of item

least : (before : ℕ) (items : List LogItem) → FollowEach Follows kind_of before items → (j : ℕ) (d : LogItem) → j < length items → before ≤ kind_of (get_or items j d)
least before [] follow j d lt = absurd (omega arith)
least before (x ∷ xs) follow zero d lt = follow.0
least before (x ∷ xs) follow (suc j) d lt =
    let here : before ≤ kind_of x = follow.0 in
    let short : j < length xs = omega arith in
    let there : kind_of x ≤ kind_of (get_or xs j d) = least (kind_of x) xs follow.1 j d short in
    omega arith

-- one more item at the front
by_kind_with : (x : LogItem) (xs : List LogItem) → ((j : ℕ) (d : LogItem) → j < length xs → kind_of x ≤ kind_of (get_or xs j d)) → AreByKind xs
    → (i j : ℕ) (d : LogItem) → i ≤ j → j < length (x ∷ xs) → kind_of (get_or (x ∷ xs) i d) ≤ kind_of (get_or (x ∷ xs) j d)
by_kind_with x xs first sorted zero zero d le lt = omega arith
by_kind_with x xs first sorted zero (suc j) d le lt = first j d (omega arith)
by_kind_with x xs first sorted (suc i) zero d le lt = absurd (omega arith)
by_kind_with x xs first sorted (suc i) (suc j) d le lt = sorted i j d (omega arith) (omega arith)

pub by_kind_from_following : (before : ℕ) (items : List LogItem) → FollowEach Follows kind_of before items → AreByKind items
by_kind_from_following before [] follow = λ i j d le lt. absurd (omega arith)
by_kind_from_following before (x ∷ xs) follow =
    by_kind_with x xs (least (kind_of x) xs follow.1) (by_kind_from_following (kind_of x) xs follow.1)

following_after : (before : ℕ) (items : List LogItem) → ((j : ℕ) (d : LogItem) → j < length items → before ≤ kind_of (get_or items j d)) → AreByKind items → FollowEach Follows kind_of before items
following_after before [] first sorted = tt
following_after before (x ∷ xs) first sorted = (
  first 0 x (omega arith),
  following_after (kind_of x) xs (λ j d lt. sorted 0 (suc j) d (omega arith) (omega arith)) (λ i j d le lt. sorted (suc i) (suc j) d (omega arith) (omega arith)),
)

pub following_from_by_kind : (items : List LogItem) → AreByKind items → FollowEach Follows kind_of 0 items
following_from_by_kind items sorted = following_after 0 items (λ j d lt. omega arith) sorted
