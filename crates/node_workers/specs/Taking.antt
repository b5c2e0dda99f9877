-- What is taken from several links.
use Rattle.std.specs.Prelude.{◌≡◌, ℕ, suc, Option, Some, None, List, [], ◌∷◌, ◌++◌, ◌==◌, if◌then◌else◌}
use Rattle.node_links.specs.Ends.{taken_by, IsSameReceiver}
use Rattle.node_links.specs.declared.ends.Receiver.{Receiver}

module _ {M : Type 0} where
  -- Of what was taken, each with the place of its link, what was taken from the link at one place.
  abbrev pub from_place : ℕ → List (ℕ × M) → List M
  from_place place [] = []
  from_place place (x ∷ xs) = if x.0 == place then x.1 ∷ from_place place xs else from_place place xs

  abbrev pub taken_at : ℕ → Option M → List (ℕ × M)
  taken_at place None = []
  taken_at place (Some m) = (place, m) ∷ []

  -- the receivers, of which the first has this place, took just that: each of its own link
  abbrev pub TakeFrom : ℕ → List (Receiver M) → List (ℕ × M) → List (Receiver M) → Type 0
  TakeFrom place [] taken [] = Unit {0}
  TakeFrom place [] taken (r' ∷ rs') = ⊥
  TakeFrom place (r ∷ rs) taken [] = ⊥
  TakeFrom place (r ∷ rs) taken (r' ∷ rs') =
      IsSameReceiver r r' × (taken_by r' ≡ taken_by r ++ from_place place taken) × TakeFrom (suc place) rs taken rs'

  abbrev pub Take : List (Receiver M) → List (ℕ × M) → List (Receiver M) → Type 0
  Take rs taken rs' = TakeFrom 0 rs taken rs'
