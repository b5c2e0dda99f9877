-- The last number of each peer, and how many hints it has.
use Rattle.std.specs.Prelude.{◌≡◌, ◌≢◌, ℕ, ◌+◌, ◌==◌, if◌then◌else◌, List, [], ◌∷◌, slice_index_or}
use Rattle.durable_state.specs.declared.parts.LastNumber.{LastNumber}

-- the numbers of the peers from this one on, of which those with none have no entry
abbrev pub numbers_from : ℕ → List ℕ → List LastNumber
numbers_from peer [] = []
numbers_from peer (n ∷ ns) = if n == 0 then numbers_from (peer + 1) ns else record { peer = peer; last = n } ∷ numbers_from (peer + 1) ns

-- one peer has this value now, and each other one has its own still
pub record SetsAt (peer value : ℕ) (old new : List ℕ) : Type 0 where
  pub here : slice_index_or new peer 0 ≡ value
  pub others : (q : ℕ) → q ≢ peer → slice_index_or new q 0 ≡ slice_index_or old q 0
