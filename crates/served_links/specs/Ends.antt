-- The ends of links as nodes have them: each node one to each other node, and one from each.
use Rattle.std.specs.Prelude.{◌≡◌, ◌≢◌, ℕ, ◌+◌, ◌-◌, List, if◌then◌else◌, nat_lt, length, map, slice_get, Some}
use Rattle.std.specs.List.{AllZip}
use Rattle.node_links.specs.Pairs.{others_of}

-- the place of a node among the others of a node, in order
abbrev pub place_of : ℕ → ℕ → ℕ
place_of other me = if nat_lt other me then other else other - 1

-- the ends of the links of one node
pub record Ends (S R : Type 0) : Type 0 where
  -- of those that lead from it, by rising node that they lead to
  pub senders : List S
  -- of those that lead to it, by rising node that they come from
  pub receivers : List R

module _ {S R : Type 0} where
  -- P holds of the two ends of the link from each node to each other one
  abbrev pub EachLink : (S → R → Type 0) → List (Ends S R) → Type 0
  EachLink P all =
      (from to : ℕ) (a b : Ends S R) (s : S) (r : R)
      → from ≢ to → slice_get all from ≡ Some a → slice_get all to ≡ Some b
      → slice_get a.senders (place_of to from) ≡ Some s → slice_get b.receivers (place_of from to) ≡ Some r → P s r

  -- a node has an end to and from each other one
  abbrev pub IsEven : ℕ → Ends S R → Type 0
  IsEven nodes a = (length a.senders + 1 ≡ nodes) × (length a.receivers + 1 ≡ nodes)

  -- each of so many nodes does
  abbrev pub AreEven : ℕ → List (Ends S R) → Type 0
  AreEven nodes all = (length all ≡ nodes) × ((me : ℕ) (a : Ends S R) → slice_get all me ≡ Some a → IsEven nodes a)

  -- a node has the ends of the same links as another
  abbrev pub HasSameEnds : (S → S → Type 0) → (R → R → Type 0) → Ends S R → Ends S R → Type 0
  HasSameEnds IsSameSender IsSameReceiver a b = AllZip IsSameSender a.senders b.senders × AllZip IsSameReceiver a.receivers b.receivers

module _ {S R : Type 0} (upto_of : S → ℕ) where
  -- A node's links lead to just the other ones of so many nodes, in order, and as many lead to it.
  abbrev pub LeadsToOthers : ℕ → ℕ → Ends S R → Type 0
  LeadsToOthers nodes me a = (map upto_of a.senders ≡ others_of me nodes) × (length a.receivers + 1 ≡ nodes)

  -- so do those of each of so many nodes
  abbrev pub LeadToOthers : ℕ → List (Ends S R) → Type 0
  LeadToOthers nodes all = (length all ≡ nodes) × ((me : ℕ) (a : Ends S R) → slice_get all me ≡ Some a → LeadsToOthers nodes me a)
