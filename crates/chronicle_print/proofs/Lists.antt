-- Lists in parts, and the front of one turned round.
use Rattle.std.proofs.Common.{◌≡◌, ℕ, ◌+◌, ◌<◌, List, [], ◌∷◌, ◌++◌, length, get_or, take, reverse, sym, ◌∙◌, ap}
use Rattle.std.specs.Prelude.{flat_map}
use Rattle.std.proofs.lemmas.Grind.{flat_map-append}
use Rattle.std.proofs.lemmas.List.{take_more, reverse-append, append_assoc, append-nil}
use Rattle.std.proofs.lemmas.List.Concat.{flat_map-cons}

-- one more item comes before the others
pub front_reversed : {X : Type 0} (xs : List X) (i : ℕ) (y : X) → i < length xs → y ≡ get_or xs i y → reverse (take (i + 1) xs) ≡ y ∷ reverse (take i xs)
front_reversed {X} xs i y h e =
    ap (λ (zs : List X). reverse zs) (take_more xs i y h) ∙ reverse-append (take i xs) (get_or xs i y ∷ []) ∙ ap (λ (z : X). z ∷ reverse (take i xs)) (sym e)

-- what is made of one more piece comes before what is made of the others
pub joined_reversed : {P X : Type 0} (f : P → List X) (pieces : List P) (i : ℕ) (piece : P) → i < length pieces → piece ≡ get_or pieces i piece
    → reverse (flat_map f (take (i + 1) pieces)) ≡ reverse (f piece) ++ reverse (flat_map f (take i pieces))
joined_reversed {P} {X} f pieces i piece h e =
    let before : List X = flat_map f (take i pieces) in
    let last : P = get_or pieces i piece in
    ap (λ (ps : List P). reverse (flat_map f ps)) (take_more pieces i piece h)
    ∙ ap (λ (xs : List X). reverse xs) (flat_map-append f (take i pieces) (last ∷ []) ∙ ap (λ (xs : List X). before ++ xs) (flat_map-cons f last [] ∙ append-nil (f last)))
    ∙ reverse-append before (f last) ∙ ap (λ (p : P). reverse (f p) ++ reverse before) (sym e)

-- four parts that are added one after another
pub four_parts : {X : Type 0} (out a b c d : List X) → out ++ a ++ b ++ c ++ d ≡ out ++ (a ++ b ++ c ++ d)
four_parts {X} out a b c d =
    ap (λ (o : List X). o ++ d) (ap (λ (o : List X). o ++ c) (append_assoc out a b) ∙ append_assoc out (a ++ b) c) ∙ append_assoc out (a ++ b ++ c) d
