-- A content is no longer than all that it is made of.
use Rattle.std.proofs.Common.{◌≡◌, ◌+◌, ◌≤◌, inl, inr, List, [], ◌∷◌, ◌++◌, Contains, ap, subst, arith}
use Rattle.std.specs.List.{AllByRecursion, sum_by}
use Rattle.std.specs.List.Sorted.{IsStrictlySortedBy}
use Rattle.std.specs.declared.cmp.Ordering.TheVariants.{Less, Equal}
use Rattle.std.proofs.lemmas.Cmp.{tied_itself}
use Rattle.std.proofs.lemmas.List.Elements.{Contains-append_cases, Contains-append_left, Contains-append_right}
use Rattle.std.proofs.lemmas.List.Sums.{sum_by-append, sum_by-cons}
use Rattle.cs_base.proofs.Members.{contains_nil, contains_here, contains_there, contains_cases}
use Rattle.changes.specs.declared.Held.{Held}
use Rattle.changes.specs.Contents.{IsMergeOf}
use Rattle.changes.specs.Lengths.{held_length, changes_length}
use Rattle.changes.specs.Places.{stored_cmp, AreInOrder}
use Rattle.changes.proofs.Places.{stored_total}

-- an element of a list, with what is before it and behind it
split_at : (xs : List Held) (x : Held) → Contains xs x → (front : List Held) × (rest : List Held) × (xs ≡ front ++ x ∷ rest)
split_at [] x k = absurd (contains_nil x k)
split_at (y ∷ ys) x k = elim (contains_cases y ys x k) [
  | inl e ↦ ([], ys, ap (λ (z : Held). z ∷ ys) e)
  | inr later ↦ let s = split_at ys x later in (y ∷ s.0, s.1, ap (λ (l : List Held). y ∷ l) s.2)
]

all_below : (x : Held) (xs : List Held) (y : Held) → AllByRecursion (λ z. stored_cmp x z ≡ Less) xs → Contains xs y → stored_cmp x y ≡ Less
all_below x [] y h k = absurd (contains_nil y k)
all_below x (z ∷ xs) y h k = elim (contains_cases z xs y k) [ inl e ↦ subst (λ (w : Held). stored_cmp x w ≡ Less) e h.0 | inr later ↦ all_below x xs y h.1 later ]

not_itself : (x y : Held) → stored_cmp x y ≡ Less → x ≡ y → ⊥
not_itself x y below same =
    let tied : stored_cmp x x ≡ Equal = tied_itself stored_total x in
    let less : stored_cmp x y ≡ Equal = subst (λ (z : Held). stored_cmp x z ≡ Equal) same tied in cc

-- what stands once each among others is no longer than these
bounded : (xs all : List Held) → AreInOrder xs → ((x : Held) → Contains xs x → Contains all x) → sum_by held_length xs ≤ sum_by held_length all
unfolding IsStrictlySortedBy
bounded [] all ordered within = omega arith
bounded (x ∷ xs) all ordered within =
    let s = split_at all x (within x (contains_here x xs)) in
    let rest = bounded xs (s.0 ++ s.1) ordered.1 (λ y k.
    elim (Contains-append_cases s.0 (x ∷ s.1) y (subst (λ (l : List Held). Contains l y) s.2 (within y (contains_there x xs y k)))) [
      | inl front ↦ Contains-append_left s.0 s.1 y front
      | inr behind ↦ elim (contains_cases x s.1 y behind) [
        | inl e ↦ absurd (not_itself x y (all_below x xs y ordered.0 k) e)
        | inr later ↦ Contains-append_right s.0 s.1 y later
      ]
    ]) in
    let mine = sum_by-cons held_length x xs in
    let one = sum_by-append held_length s.0 (x ∷ s.1) in
    let two = sum_by-cons held_length x s.1 in
    let three = sum_by-append held_length s.0 s.1 in
    let whole = ap (sum_by held_length) s.2 in
    omega (arith, rest, mine, one, two, three, whole)

pub merged_most : (merged a b : List Held) → IsMergeOf merged a b → AreInOrder merged → changes_length merged + 4 ≤ changes_length a + changes_length b
merged_most merged a b content ordered =
    let most = bounded merged (a ++ b) ordered (λ x k. elim (content.within x k) [ inl first ↦ Contains-append_left a b x first | inr second ↦ Contains-append_right a b x second ]) in
    let sum = sum_by-append held_length a b in
    omega (arith, most, sum)
