-- The entry of a receipt stands at its place in every history that begins with what its pass had then seen.
use Rattle.std.proofs.Common.{◌≡◌, ℕ, List, [], ◌∷◌, ◌++◌, length, slice_get, Some, refl, ap, ◌∙◌}
use Rattle.node_lock.specs.Stepped.{ReceiptsNameTheirEntries}

at_length : {A : Type 0} (xs : List A) (a : A) (more : List A) → slice_get ((xs ++ a ∷ []) ++ more) (length xs) ≡ Some a
at_length [] a more = refl
at_length (x ∷ xs) a more = at_length xs a more

pub receipts_name : {S E Event Reply : Type 0} (steps : S → E → S → Type 0) (event_of : E → Event) (reply_of : E → Reply) → ReceiptsNameTheirEntries steps event_of reply_of
receipts_name {S} {E} steps event_of reply_of start v w event r history s begins =
    let whole : history ≡ ((v.seen ++ s.between) ++ (v.number, s.entry) ∷ []) ++ begins.0 = begins.1 ∙ ap (λ (l : List (ℕ × E)). l ++ begins.0) s.seen in
    ap (λ (l : List (ℕ × E)). slice_get l r.place) whole
    ∙ (ap (λ (k : ℕ). slice_get (((v.seen ++ s.between) ++ (v.number, s.entry) ∷ []) ++ begins.0) k) s.place_is ∙ at_length (v.seen ++ s.between) (v.number, s.entry) begins.0)
