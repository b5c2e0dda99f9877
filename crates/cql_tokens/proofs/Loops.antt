-- Steps of the loops over the bytes of a text.
use Rattle.std.proofs.Common.{◌≡◌, ◌<◌, ◌≤◌, ◌+◌, ℕ, suc, Bool, true, false, not, cond, eqb, List, [], ◌∷◌, get_or, drop, length, Option, Some, None, arith, refl, sym, ap, ◌∙◌}
use Rattle.std.specs.Prelude.{option_map}
use mathlib.Core.Bool.{beq}
use Rattle.std.proofs.lemmas.Bool.{false≢true}
use Rattle.std.proofs.lemmas.List.{drop_all, drop_more}
use Rattle.cql_tokens.specs.Scanning.{front_fits, quoted_len}

quoted_step : (q c : ℕ) (cs : List ℕ) (flag : Bool) → (flag ≡ true → eqb c q ≡ true) → quoted_len q flag (c ∷ cs) ≡ option_map suc (quoted_len q (not (beq flag (eqb c q))) cs)
quoted_step q c cs false h = go (eqb c q)
  where
    go : (b : Bool) → option_map suc (quoted_len q b cs) ≡ option_map suc (quoted_len q (not (beq false b)) cs)
    go true = refl
    go false = refl
quoted_step q c cs true h = go (eqb c q) (h refl)
  where
    go : (b : Bool) → b ≡ true → cond b (option_map suc (quoted_len q false cs)) (Some 0) ≡ option_map suc (quoted_len q (not (beq true b)) cs)
    go true e = refl
    go false e = absurd (false≢true e)

one_more : (at : ℕ) (o : Option ℕ) → option_map (λ (n : ℕ). at + 1 + n) o ≡ option_map (λ (n : ℕ). at + n) (option_map suc o)
one_more at None = refl
one_more at (Some n) = ap (λ (k : ℕ). Some k) (omega arith)

pub quoted_more : (q at : ℕ) (bytes : List ℕ) (flag : Bool) (all : Option ℕ) → at < length bytes → (flag ≡ true → eqb (get_or bytes at 0) q ≡ true) → option_map (λ (n : ℕ). at + n) (quoted_len q flag (drop at bytes)) ≡ all → option_map (λ (n : ℕ). at + 1 + n) (quoted_len q (not (beq flag (eqb (get_or bytes at 0) q))) (drop (at + 1) bytes)) ≡ all
quoted_more q at bytes flag all inside h so_far =
    one_more at (quoted_len q (not (beq flag (eqb (get_or bytes at 0) q))) (drop (at + 1) bytes))
    ∙ ap (option_map (λ (n : ℕ). at + n)) (sym (quoted_step q (get_or bytes at 0) (drop (at + 1) bytes) flag h))
    ∙ ap (λ (l : List ℕ). option_map (λ (n : ℕ). at + n) (quoted_len q flag l)) (sym (drop_more bytes at 0 inside))
    ∙ so_far

pub short_front : (shape bytes : List ℕ) (at : ℕ) → at < length shape → length bytes ≤ at → front_fits (drop at shape) (drop at bytes) ≡ front_fits shape bytes → false ≡ front_fits shape bytes
short_front shape bytes at inside short so_far =
    sym (ap (λ (l : List ℕ). front_fits l []) (drop_more shape at 0 inside))
    ∙ sym (ap (front_fits (drop at shape)) (drop_all at bytes short))
    ∙ so_far
