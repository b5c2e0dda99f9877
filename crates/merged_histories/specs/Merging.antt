-- Two lists that are in order are merged.
use Rattle.std.specs.Prelude.{ℕ, ◌+◌, ◌==◌, ◌&&◌, ◌||◌, nat_lt, nat_le, if◌then◌else◌, Bool, true, false, List, [], ◌∷◌, map}
use Rattle.merged_histories.specs.declared.histories.NodeHistory.{NodeHistory}
use Rattle.merged_histories.specs.declared.timed.PlacedEvent.{PlacedEvent}
use Rattle.merged_histories.specs.declared.timed.Timed.{Timed}
use Rattle.merged_histories.specs.Timed.{event_in, timed_from}

-- a time and a node are no later than others
abbrev pub is_first : ℕ × ℕ → ℕ × ℕ → Bool
is_first a b = nat_lt a.0 b.0 || ((a.0 == b.0) && nat_le a.1 b.1)

module _ {X : Type 0} (key : X → ℕ × ℕ) where
  -- whether the first list has the next element
  abbrev pub is_left_next : List X → List X → Bool
  is_left_next [] ys = false
  is_left_next (x ∷ xs) [] = true
  is_left_next (x ∷ xs) (y ∷ ys) = is_first (key x) (key y)

  -- x behind those of the second list that come before it, and then what stands for the rest of both
  abbrev pub put_in : X → (List X → List X) → List X → List X
  put_in x rest [] = x ∷ rest []
  put_in x rest (y ∷ ys) = if is_first (key x) (key y) then x ∷ rest (y ∷ ys) else y ∷ put_in x rest ys

  abbrev pub merged : List X → List X → List X
  merged [] ys = ys
  merged (x ∷ xs) ys = put_in x (λ zs. merged xs zs) ys

abbrev pub key_of : Timed → ℕ × ℕ
key_of t = (t.time, t.placed.node)

abbrev pub placed_in : Timed → PlacedEvent
placed_in t = t.placed

-- the events of the nodes from this number on are merged with what is there
abbrev pub merged_on : ℕ → List NodeHistory → List Timed → List Timed
merged_on k [] all = all
merged_on k (h ∷ hs) all = merged_on (k + 1) hs (merged key_of all (timed_from k h.start (map event_in h.entries.now)))
