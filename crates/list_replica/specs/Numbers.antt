-- The last numbers of peers.
use Rattle.std.specs.Prelude.{◌≡◌, ◌==◌, ℕ, false}
use Rattle.std.specs.BTreeMap.{BTreeMap, get}
use Rattle.std.specs.Option.{unwrap_or}
use Rattle.std.specs.Ordering.{nat_cmp}

-- the last number that was given to a hint of a peer, 0 for none
abbrev pub number_at : BTreeMap ℕ ℕ → ℕ → ℕ
number_at numbers peer = unwrap_or (get nat_cmp numbers peer) 0

-- the peer has this last number now, and each other one has its own still
pub record SetsNumber (peer last : ℕ) (old new : BTreeMap ℕ ℕ) : Type 0 where
  pub here : number_at new peer ≡ last
  pub others : (q : ℕ) → (peer == q) ≡ false → number_at new q ≡ number_at old q
