-- Lists of names.
use Rattle.std.specs.Prelude.{ℕ, ◌&&◌, ◌||◌, Bool, true, false, List, [], ◌∷◌}
use Rattle.std.specs.List.{list_any}
use Rattle.std.specs.Str.{bytes_eq}

-- whether a name is among these
abbrev pub is_among : List ℕ → List (List ℕ) → Bool
is_among name names = list_any (λ x. bytes_eq x name) names

-- whether a name stands twice, or among those before
abbrev pub stands_again : List (List ℕ) → List (List ℕ) → Bool
stands_again before [] = false
stands_again before (x ∷ xs) = is_among x before || stands_again (x ∷ before) xs

-- whether some name stands twice
abbrev pub has_twice : List (List ℕ) → Bool
has_twice names = stands_again [] names

-- whether the first names are those in front of the second
abbrev pub is_front : List (List ℕ) → List (List ℕ) → Bool
is_front [] ys = true
is_front (x ∷ xs) [] = false
is_front (x ∷ xs) (y ∷ ys) = bytes_eq x y && is_front xs ys
