-- What the steps of a history do to a state, from what each of them does.
use Rattle.std.proofs.Common.{◌≡◌, ℕ, List, [], ◌∷◌, ◌++◌, sym, ap, ◌∙◌, subst, append_assoc, append-nil}
use Rattle.std.specs.List.{flat_map}
use Rattle.node_lock.specs.Histories.{Replays}

module _ {S E : Type 0} (steps : S → E → S → Type 0) where
  -- where each step adds to a list what its entry gives, the history adds what all its entries give, in order
  pub replays-gains : {A : Type 0} (held : S → List A) (gives : E → List A) → ((a : S) (e : E) (b : S) → steps a e b → held b ≡ held a ++ gives e)
      → (xs : List (ℕ × E)) (start now : S) → Replays steps start xs now → held now ≡ held start ++ flat_map (λ (x : ℕ × E). gives x.1) xs
  replays-gains {A} held gives each [] start now r = ap held (sym r) ∙ sym (append-nil (held start))
  replays-gains {A} held gives each (x ∷ xs) start now r =
      replays-gains held gives each xs r.0 now r.2
      ∙ (ap (λ (l : List A). l ++ flat_map (λ (y : ℕ × E). gives y.1) xs) (each start x.1 r.0 r.1) ∙ append_assoc (held start) (gives x.1) (flat_map (λ (y : ℕ × E). gives y.1) xs))

  -- a relation that each step keeps is kept by the history
  pub replays-keeps : (R : S → S → Type 0) → ((a : S) → R a a) → ((a b c : S) → R a b → R b c → R a c) → ((a : S) (e : E) (b : S) → steps a e b → R a b)
      → (xs : List (ℕ × E)) (start now : S) → Replays steps start xs now → R start now
  replays-keeps R same chain each [] start now r = subst (R start) r (same start)
  replays-keeps R same chain each (x ∷ xs) start now r = chain start r.0 now (each start x.1 r.0 r.1) (replays-keeps R same chain each xs r.0 now r.2)
