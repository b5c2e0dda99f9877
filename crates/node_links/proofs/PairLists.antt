-- The pairs of a row and of the rows before it, one number further.
use Rattle.std.proofs.Common.{◌≡◌, ℕ, suc, List, [], ◌∷◌, ◌++◌, Bool, true, false, cond, eqb, not, map, filter, refl, ap, ◌∙◌, append-nil}
use Rattle.std.specs.List.{flat_map}
use Rattle.std.proofs.lemmas.Grind.{flat_map-append}
use Rattle.std.proofs.lemmas.List.{map-append}
use Rattle.std.proofs.lemmas.List.Elements.{filter-append}
use Rattle.node_links.specs.Pairs.{below, others_of}

-- the pairs from a node to the others below a number
abbrev pub row_of : ℕ → ℕ → List (ℕ × ℕ)
row_of from to = map (λ t. (from, t)) (others_of from to)

-- the pairs from the nodes below a number
abbrev pub rows_below : ℕ → ℕ → List (ℕ × ℕ)
rows_below from nodes = flat_map (λ f. row_of f nodes) (below from)

one_more : (b : Bool) (from to : ℕ) → map {B = ℕ × ℕ} (λ t. (from, t)) (cond (not b) (to ∷ []) []) ≡ cond b [] ((from, to) ∷ [])
one_more true from to = refl
one_more false from to = refl

pub row_of-suc : (from to : ℕ) → row_of from (suc to) ≡ row_of from to ++ cond (eqb to from) [] ((from, to) ∷ [])
row_of-suc from to =
    let pair : ℕ → ℕ × ℕ = λ t. (from, t) in
    ap (map pair) (filter-append (λ t. not (eqb t from)) (below to) (to ∷ []))
    ∙ (map-append pair (others_of from to) (filter (λ t. not (eqb t from)) (to ∷ []))
    ∙ ap (λ (l : List (ℕ × ℕ)). row_of from to ++ l) (one_more (eqb to from) from to))

pub rows_below-suc : (from nodes : ℕ) → rows_below (suc from) nodes ≡ rows_below from nodes ++ row_of from nodes
rows_below-suc from nodes =
    flat_map-append (λ f. row_of f nodes) (below from) (from ∷ []) ∙ ap (λ (l : List (ℕ × ℕ)). rows_below from nodes ++ l) (append-nil (row_of from nodes))
