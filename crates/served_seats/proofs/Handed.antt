-- Passes of rising numbers, one after another.
use Rattle.std.proofs.Common.{◌≡◌, ℕ, zero, suc, ◌+◌, ◌-◌, ◌<◌, List, [], ◌∷◌, ◌++◌, map, ap, sym, subst, ◌∙◌, arith}
use Rattle.std.specs.List.{All}
use Rattle.std.proofs.lemmas.List.{map-append}
use Rattle.std.proofs.lemmas.List.Elements.{All-push}
use Rattle.node_lock.specs.Views.{PassView}
use Rattle.served_seats.specs.Seats.{fresh, fresh_from, ranging}

pub all_push : {P : Type 0} (Q : P → Type 0) (ps qs : List P) (p : P) → All Q ps → Q p → qs ≡ ps ++ p ∷ [] → All Q qs
all_push Q ps qs p all here pushed = subst (λ xs. All Q xs) (sym pushed) (All-push Q ps p all here)

fresh_from-push : (E : Type 0) (number count : ℕ) → fresh_from {E = E} number count ++ fresh (number + count) ∷ [] ≡ fresh_from number (suc count)
fresh_from-push E number zero = let e : number + 0 ≡ number = omega arith in ap (λ (n : ℕ). fresh {E = E} n ∷ []) e
fresh_from-push E number (suc count) =
    let e : number + suc count ≡ suc number + count = omega arith in
    ap (λ (n : ℕ). fresh {E = E} number ∷ (fresh_from (suc number) count ++ fresh n ∷ [])) e
    ∙ ap (λ (vs : List (PassView E)). fresh number ∷ vs) (fresh_from-push E (suc number) count)

module _ {E : Type 0} where
  -- the pass that is left after one more number, where it was given from one of this number
  pub next_range : (v w : PassView E) (number count : ℕ) → v ≡ ranging number (count - number + 1) → w ≡ ranging (v.number + 1) (count - number) → number < count
      → w ≡ ranging (number + 1) (count - (number + 1) + 1)
  next_range v w number count was given below =
      let here : v.number + 1 ≡ number + 1 = ap (λ (u : PassView E). u.number + 1) was in
      let left : count - number ≡ count - (number + 1) + 1 = omega arith in
      given ∙ (λ i. ranging (here i) (left i))

  -- the pass that keeps its own number
  pub kept_fresh : (v w : PassView E) (number count : ℕ) → v ≡ ranging number count → w ≡ fresh v.number → w ≡ fresh number
  kept_fresh v w number count was kept = kept ∙ ap (λ (u : PassView E). fresh u.number) was

  -- the pass of the next number behind those from 1 on
  pub push_fresh : {P : Type 0} (f : P → PassView E) (ps qs : List P) (p : P) (number : ℕ)
      → map f ps ≡ fresh_from 1 (number - 1) → f p ≡ fresh number → 0 < number → qs ≡ ps ++ p ∷ [] → map f qs ≡ fresh_from 1 number
  push_fresh {P} f ps qs p number before here some pushed =
      let e : 1 + (number - 1) ≡ number = omega arith in
      let n : suc (number - 1) ≡ number = omega arith in
      ap (map f) pushed ∙ map-append f ps (p ∷ [])
      ∙ (λ i. before i ++ (here ∙ ap (fresh {E = E}) (sym e)) i ∷ [])
      ∙ fresh_from-push E 1 (number - 1)
      ∙ ap (λ (k : ℕ). fresh_from {E = E} 1 k) n
