-- Nodes by rising number, with one more.
use Rattle.std.proofs.Common.{◌≡◌, ℕ, zero, suc, ◌+◌, not, List, [], ◌∷◌, ◌++◌, arith, sym, ap, ◌∙◌}
use Rattle.std.specs.List.{range_with_len}
use Rattle.std.proofs.lemmas.List.Elements.{filter-append}
use Rattle.cs_base.specs.Quorums.{is_in}
use Rattle.peer_messages.specs.Settings.{up_of}

range_end : (a n : ℕ) → range_with_len a (suc n) ≡ range_with_len a n ++ (a + n) ∷ []
range_end a zero = ap (λ (x : ℕ). x ∷ []) (let e : a ≡ a + 0 = omega arith in e)
range_end a (suc n) =
    ap (λ (xs : List ℕ). a ∷ xs) (range_end (a + 1) n ∙ ap (λ (x : ℕ). range_with_len (a + 1) n ++ x ∷ []) (let e : a + 1 + n ≡ a + suc n = omega arith in e))

range_more : (n v : ℕ) → v ≡ n → range_with_len 0 (n + 1) ≡ range_with_len 0 n ++ v ∷ []
range_more n v same =
    ap (λ (x : ℕ). range_with_len 0 x) (let e : n + 1 ≡ suc n = omega arith in e)
    ∙ range_end 0 n ∙ ap (λ (x : ℕ). range_with_len 0 n ++ x ∷ []) (let e : 0 + n ≡ v = omega (arith, same) in e)

pub up_more : (down old new : List ℕ) (n v : ℕ) → old ≡ up_of down (range_with_len 0 n) → new ≡ old ++ up_of down (v ∷ []) → v ≡ n → new ≡ up_of down (range_with_len 0 (n + 1))
up_more down old new n v before more same =
    more ∙ ap (λ (xs : List ℕ). xs ++ up_of down (v ∷ [])) before
    ∙ sym (filter-append (λ k. not (is_in down k)) (range_with_len 0 n) (v ∷ [])) ∙ ap (up_of down) (sym (range_more n v same))
