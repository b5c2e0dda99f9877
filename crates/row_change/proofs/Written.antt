-- bytes that are written one after another
use Rattle.std.proofs.Common.{◌≡◌, ◌++◌, ◌∷◌, [], ◌∙◌, ap, sym, append_assoc, append-nil, ℕ, List}
use Rattle.std.specs.List.{flat_map}
use Rattle.std.proofs.lemmas.Grind.{flat_map-append}

pub written_more : {X : Type 0} (spell : X → List ℕ) (front more : List X) (x : X) (start before after : List ℕ) → more ≡ front ++ x ∷ [] → before ≡ start ++ flat_map spell front → after ≡ before ++ spell x → after ≡ start ++ flat_map spell more
written_more spell front more x start before after is so_far next =
    next ∙ ap (λ (l : List ℕ). l ++ spell x) so_far ∙ append_assoc start (flat_map spell front) (spell x)
    ∙ ap (λ (l : List ℕ). start ++ (flat_map spell front ++ l)) (sym (append-nil (spell x))) ∙ ap (λ (l : List ℕ). start ++ l) (sym (flat_map-append spell front (x ∷ []))) ∙ ap (λ (l : List _). start ++ flat_map spell l) (sym is)
