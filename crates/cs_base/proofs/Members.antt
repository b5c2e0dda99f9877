-- Membership in lists, by cases on the list: of one element, of what is mapped, filtered, written flat or reversed.
use Rattle.std.proofs.Common.{◌≡◌, ℕ, ◌+◌, ◌<◌, ◌⊎◌, ◌↔◌, inl, inr, List, [], ◌∷◌, ◌++◌, Bool, true, false, cond, filter, Option, Some, None, length, get_or, take, map, reverse, refl, sym, ◌∙◌, ap, subst, arith, Contains}
use Rattle.std.specs.Prelude.{flat_map}
use Rattle.std.specs.List.{list_any, filter_map, cons_option}
use Rattle.std.proofs.lemmas.Bool.{or_cases, or_parts}
use Rattle.std.proofs.lemmas.List.{take_more, reverse-append}
use Rattle.std.proofs.lemmas.List.Elements.{Contains-append_cases, Contains-append_left, Contains-append_right, Contains-push, Contains-push_cases, filter_map-append}

pub contains_nil : {X : Type 0} (x : X) → Contains [] x → ⊥
contains_nil x (k, below, at) = omega (arith, below)

pub contains_here : {X : Type 0} (x : X) (xs : List X) → Contains (x ∷ xs) x
contains_here x xs = (0, omega arith, refl)

pub contains_there : {X : Type 0} (y : X) (ys : List X) (x : X) → Contains ys x → Contains (y ∷ ys) x
contains_there y ys x h = Contains-append_right (y ∷ []) ys x h

pub contains_one : {X : Type 0} (y x : X) → Contains (y ∷ []) x → y ≡ x
contains_one y x h = elim (Contains-push_cases [] y x h) [ inl none ↦ absurd (contains_nil x none) | inr e ↦ e ]

pub contains_cases : {X : Type 0} (y : X) (ys : List X) (x : X) → Contains (y ∷ ys) x → (y ≡ x) ⊎ Contains ys x
contains_cases y ys x h = elim (Contains-append_cases (y ∷ []) ys x h) [ inl one ↦ inl (contains_one y x one) | inr rest ↦ inr rest ]

filter_there : {X : Type 0} (p : X → Bool) (y : X) (ys : List X) (x : X) → Contains (filter p ys) x → Contains (filter p (y ∷ ys)) x
filter_there p y ys x h = elim (p y) as (λ b. Contains (cond b (y ∷ filter p ys) (filter p ys)) x) [ true ↦ contains_there y (filter p ys) x h | false ↦ h ]

-- what passes stays in a filter
pub contains_filter : {X : Type 0} (p : X → Bool) (xs : List X) (x : X) → Contains xs x → p x ≡ true → Contains (filter p xs) x
contains_filter p [] x h t = h
contains_filter p (y ∷ ys) x h t =
    elim (contains_cases y ys x h) [
      | inl e ↦ rw (ap p e ∙ t) (subst (λ (v : _). Contains (y ∷ filter p ys) v) e (contains_here y (filter p ys)))
      | inr rest ↦ filter_there p y ys x (contains_filter p ys x rest t)
    ]

from_filter_at : {X : Type 0} (p : X → Bool) (y : X) (ys : List X) (x : X) (b : Bool) → p y ≡ b → (Contains (filter p ys) x → Contains ys x × (p x ≡ true)) → Contains (cond b (y ∷ filter p ys) (filter p ys)) x → Contains (y ∷ ys) x × (p x ≡ true)
from_filter_at p y ys x true e rest h =
    elim (contains_cases y (filter p ys) x h) [
      | inl same ↦ (subst (λ (v : _). Contains (y ∷ ys) v) same (contains_here y ys), sym (ap p same) ∙ e)
      | inr more ↦ let r = rest more in (contains_there y ys x r.0, r.1)
    ]
from_filter_at p y ys x false e rest h = let r = rest h in (contains_there y ys x r.0, r.1)

-- what is in a filter was in the list, and passes
pub contains_from_filter : {X : Type 0} (p : X → Bool) (xs : List X) (x : X) → Contains (filter p xs) x → Contains xs x × (p x ≡ true)
contains_from_filter p [] x h = absurd (contains_nil x h)
contains_from_filter p (y ∷ ys) x h = from_filter_at p y ys x (p y) refl (λ k. contains_from_filter p ys x k) h

-- an element that passes
pub some_passes : {X : Type 0} (p : X → Bool) (xs : List X) → list_any p xs ≡ true → (x : X) × Contains xs x × (p x ≡ true)
some_passes p [] h = cc
some_passes {X} p (y ∷ ys) h =
    elim (or_cases (p y) (list_any p ys) h) [
      | inl t ↦ (y, contains_here y ys, t)
      | inr rest ↦ let r : (x : X) × Contains ys x × (p x ≡ true) = some_passes p ys rest in (r.0, contains_there y ys r.0 r.1, r.2)
    ]

-- none passes
pub none_passes : {X : Type 0} (p : X → Bool) (xs : List X) → list_any p xs ≡ false → (x : X) → Contains xs x → p x ≡ false
none_passes p [] h x at = absurd (contains_nil x at)
none_passes p (y ∷ ys) h x at =
    let parts = or_parts (p y) (list_any p ys) h in
    elim (contains_cases y ys x at) [ inl e ↦ sym (ap p e) ∙ parts.0 | inr rest ↦ none_passes p ys parts.1 x rest ]

pub contains_push : {X : Type 0} (xs : List X) (y x : X) → Contains (xs ++ y ∷ []) x ↔ (Contains xs x ⊎ (y ≡ x))
contains_push xs y x = (
  λ h. Contains-push_cases xs y x h,
  λ h. elim h [ inl old ↦ Contains-append_left xs (y ∷ []) x old | inr e ↦ subst (λ (v : _). Contains (xs ++ y ∷ []) v) e (Contains-push xs y) ],
)

-- one element more of a front
pub front_more : {X : Type 0} (xs : List X) (i : ℕ) (y : X) → i < length xs → y ≡ get_or xs i y → take (i + 1) xs ≡ take i xs ++ y ∷ []
front_more xs i y h e = take_more xs i y h ∙ ap (λ (z : _). take i xs ++ z ∷ []) (sym e)

pub contains_at : {X : Type 0} (xs : List X) (i : ℕ) (y : X) → i < length xs → y ≡ get_or xs i y → Contains xs y
contains_at xs i y h e = (i, h, sym e)

pub contains_map : {X Y : Type 0} (f : X → Y) (xs : List X) (x : X) → Contains xs x → Contains (map f xs) (f x)
contains_map f [] x h = absurd (contains_nil x h)
contains_map {X} {Y} f (y ∷ ys) x h =
    elim (contains_cases y ys x h) [
      | inl e ↦ subst (λ (v : X). Contains (map f (y ∷ ys)) (f v)) e (contains_here (f y) (map f ys))
      | inr rest ↦ contains_there (f y) (map f ys) (f x) (contains_map f ys x rest)
    ]

pub contains_from_map : {X Y : Type 0} (f : X → Y) (xs : List X) (y : Y) → Contains (map f xs) y → (x : X) × Contains xs x × (f x ≡ y)
contains_from_map f [] y h = absurd (contains_nil y h)
contains_from_map {X} {Y} f (x ∷ xs) y h =
    elim (contains_cases (f x) (map f xs) y h) [
      | inl e ↦ (x, contains_here x xs, e)
      | inr rest ↦ let r : (z : X) × Contains xs z × (f z ≡ y) = contains_from_map f xs y rest in (r.0, contains_there x xs r.0 r.1, r.2)
    ]

contains_cons_option : {Y : Type 0} (o : Option Y) (ys : List Y) (y : Y) → (o ≡ Some y) ⊎ Contains ys y → Contains (cons_option o ys) y
contains_cons_option None ys y (inl e) = cc
contains_cons_option None ys y (inr h) = h
contains_cons_option {Y} (Some z) ys y (inl e) = let same : z ≡ y = cc in subst (λ (v : Y). Contains (z ∷ ys) v) same (contains_here z ys)
contains_cons_option (Some z) ys y (inr h) = contains_there z ys y h

from_cons_option : {Y : Type 0} (o : Option Y) (ys : List Y) (y : Y) → Contains (cons_option o ys) y → (o ≡ Some y) ⊎ Contains ys y
from_cons_option None ys y h = inr h
from_cons_option {Y} (Some z) ys y h = elim (contains_cases z ys y h) [ inl e ↦ inl (ap (λ (v : Y). Some v) e) | inr rest ↦ inr rest ]

pub contains_filter_map : {X Y : Type 0} (f : X → Option Y) (xs : List X) (x : X) (y : Y) → Contains xs x → f x ≡ Some y → Contains (filter_map f xs) y
contains_filter_map f [] x y h e = absurd (contains_nil x h)
contains_filter_map f (z ∷ zs) x y h e =
    contains_cons_option (f z) (filter_map f zs) y (elim (contains_cases z zs x h) [ inl same ↦ inl (ap f same ∙ e) | inr rest ↦ inr (contains_filter_map f zs x y rest e) ])

pub contains_from_filter_map : {X Y : Type 0} (f : X → Option Y) (xs : List X) (y : Y) → Contains (filter_map f xs) y → (x : X) × Contains xs x × (f x ≡ Some y)
contains_from_filter_map f [] y h = absurd (contains_nil y h)
contains_from_filter_map {X} {Y} f (z ∷ zs) y h =
    elim (from_cons_option (f z) (filter_map f zs) y h) [
      | inl e ↦ (z, contains_here z zs, e)
      | inr rest ↦ let r : (x : X) × Contains zs x × (f x ≡ Some y) = contains_from_filter_map f zs y rest in (r.0, contains_there z zs r.0 r.1, r.2)
    ]

-- one element more, which f takes or passes over
pub filter_map_more : {X Y : Type 0} (f : X → Option Y) (xs : List X) (x : X) (y : Y) → Contains (filter_map f (xs ++ x ∷ [])) y ↔ (Contains (filter_map f xs) y ⊎ (f x ≡ Some y))
filter_map_more {X} {Y} f xs x y = (
  λ h. elim (Contains-append_cases (filter_map f xs) (cons_option (f x) []) y (subst (λ (v : List Y). Contains v y) (filter_map-append f xs (x ∷ [])) h)) [
    | inl old ↦ inl old
    | inr new ↦ elim (from_cons_option (f x) [] y new) [ inl e ↦ inr e | inr none ↦ absurd (contains_nil y none) ]
  ],
  λ h. subst (λ (v : List Y). Contains v y) (sym (filter_map-append f xs (x ∷ []))) (elim h [
    | inl old ↦ Contains-append_left (filter_map f xs) (cons_option (f x) []) y old
    | inr e ↦ Contains-append_right (filter_map f xs) (cons_option (f x) []) y (contains_cons_option (f x) [] y (inl e))
  ]),
)

pub reverse_push : {X : Type 0} (xs : List X) (x : X) → reverse (xs ++ x ∷ []) ≡ x ∷ reverse xs
reverse_push xs x = reverse-append xs (x ∷ [])

pub from_reverse : {X : Type 0} (xs : List X) (x : X) → Contains (reverse xs) x → Contains xs x
from_reverse [] x h = h
from_reverse {X} (y ∷ ys) x h = elim (Contains-append_cases (reverse ys) (y ∷ []) x (subst (λ (zs : List X). Contains zs x) (reverse-append (y ∷ []) ys) h)) [
  | inl rest ↦ contains_there y ys x (from_reverse ys x rest)
  | inr last ↦ subst (λ (z : X). Contains (y ∷ ys) z) (contains_one y x last) (contains_here y ys)
]

pub in_reverse : {X : Type 0} (xs : List X) (x : X) → Contains xs x → Contains (reverse xs) x
in_reverse [] x h = h
in_reverse {X} (y ∷ ys) x h = subst (λ (zs : List X). Contains zs x) (sym (reverse-append (y ∷ []) ys)) (elim (contains_cases y ys x h) [
  | inl here ↦ Contains-append_right (reverse ys) (y ∷ []) x (subst (λ (z : X). Contains (y ∷ []) z) here (contains_here y []))
  | inr rest ↦ Contains-append_left (reverse ys) (y ∷ []) x (in_reverse ys x rest)
])

pub contains_flat : {X Y : Type 0} (f : X → List Y) (xs : List X) (x : X) (y : Y) → Contains xs x → Contains (f x) y → Contains (flat_map f xs) y
contains_flat f [] x y h k = absurd (contains_nil x h)
contains_flat f (z ∷ zs) x y h k =
    elim (contains_cases z zs x h) [
      | inl e ↦ Contains-append_left (f z) (flat_map f zs) y (subst (λ v. Contains (f v) y) (sym e) k)
      | inr rest ↦ Contains-append_right (f z) (flat_map f zs) y (contains_flat f zs x y rest k)
    ]

pub contains_from_flat : {X Y : Type 0} (f : X → List Y) (xs : List X) (y : Y) → Contains (flat_map f xs) y → (x : X) × Contains xs x × Contains (f x) y
contains_from_flat f [] y h = absurd (contains_nil y h)
contains_from_flat {X} {Y} f (z ∷ zs) y h =
    elim (Contains-append_cases (f z) (flat_map f zs) y h) [
      | inl here ↦ (z, contains_here z zs, here)
      | inr rest ↦ let r : (x : X) × Contains zs x × Contains (f x) y = contains_from_flat f zs y rest in (r.0, contains_there z zs r.0 r.1, r.2)
    ]
