-- Numbers of markers behind others.
use Rattle.std.proofs.Common.{◌≡◌, ℕ, List, [], ◌∷◌, ◌++◌, Option, Some, None, refl, sym, ap, append_assoc}
use Rattle.prepared_statement.specs.Markers.{with_number}

-- all of them behind these
abbrev pub behind_numbers : List ℕ → Option (List ℕ) → Option (List ℕ)
behind_numbers done None = None
behind_numbers done (Some ns) = Some (done ++ ns)

pub one_more : (done : List ℕ) (n : ℕ) (rest : Option (List ℕ)) → behind_numbers done (with_number (Some n) rest) ≡ behind_numbers (done ++ n ∷ []) rest
one_more done n None = refl
one_more done n (Some ns) = ap (λ (l : List ℕ). Some l) (sym (append_assoc done (n ∷ []) ns))
