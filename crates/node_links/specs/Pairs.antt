-- Which links there are.
use Rattle.std.specs.Prelude.{ℕ, zero, suc, List, [], ◌∷◌, ◌++◌, ◌==◌, map, filter, not}
use Rattle.std.specs.List.{flat_map}

-- 0, 1 and so on, up to the number before this one
abbrev pub below : ℕ → List ℕ
below zero = []
below (suc n) = below n ++ n ∷ []

-- the nodes below this number other than the one
abbrev pub others_of : ℕ → ℕ → List ℕ
others_of from nodes = filter (λ to. not (to == from)) (below nodes)

-- each ordered pair of different nodes, by rising sending node and then by rising receiving node
abbrev pub pairs_of : ℕ → List (ℕ × ℕ)
pairs_of nodes = flat_map (λ from. map (λ to. (from, to)) (others_of from nodes)) (below nodes)
