-- What a node keeps, plainly: lists of what was kept.
use Rattle.std.specs.Prelude.{◌≡◌, ◌↔◌, ◌==◌, ℕ, Option, Some, None, List, [], ◌∷◌, Contains, map, filter, if◌then◌else◌}
use Rattle.changes.specs.declared.Change.{Change}
use Rattle.changes.specs.declared.Held.{Held}
use Rattle.changes.specs.declared.Partition.{Partition}
use Rattle.row_change.specs.declared.entry.Hint.{Hint}
use Rattle.row_change.specs.declared.entry.Mark.{Mark}
use Rattle.row_change.specs.declared.entry.PaxosRow.{PaxosRow}
use Rattle.durable_state.specs.declared.parts.LastNumber.{LastNumber}
use Rattle.durable_state.specs.declared.parts.RowAt.{RowAt}
use Rattle.durable_state.specs.Partitions.{is_partition}

-- a change that a node holds, with the node time at which it last came to be there
pub record Stored : Type 0 where
  pub partition : Partition
  pub held : Held
  pub arrival : ℕ

abbrev pub change_of : Stored → Change
change_of x = record { partition = x.partition; held = x.held }

abbrev pub changes_of : List Stored → List Change
changes_of content = map change_of content

-- the change is held in the partition
abbrev pub Holds : List Change → Partition → Held → Type 0
Holds content p x = Contains content (record { partition = p; held = x })

-- ---- look-ups

-- the row of a partition, if it has one
abbrev pub row_at : List RowAt → Partition → Option PaxosRow
row_at [] p = None
row_at (r ∷ rows) p = if is_partition r.partition p then Some r.row else row_at rows p

-- a peer's own hints
abbrev pub hints_of : List Hint → ℕ → List Hint
hints_of hints peer = filter (λ h. h.peer == peer) hints

-- the last number that was given to a hint of a peer, 0 for none
abbrev pub last_of : List LastNumber → ℕ → ℕ
last_of [] peer = 0
last_of (n ∷ ns) peer = if n.peer == peer then n.last else last_of ns peer

-- ---- the whole

-- what a node keeps. Node time does not pass the ceiling without a new one being kept
pub record Durable : Type 0 where
  pub ceiling : ℕ
  pub content : List Stored
  pub rows : List RowAt
  pub hints : List Hint
  pub numbers : List LastNumber
  pub marks : List Mark

-- the same is kept, in whatever order; but a peer's hints are in the order in which they came
pub record IsSameKept (d d' : Durable) : Type 0 where
  pub ceiling : d'.ceiling ≡ d.ceiling
  pub content : (x : Stored) → Contains d'.content x ↔ Contains d.content x
  pub rows : (p : Partition) → row_at d'.rows p ≡ row_at d.rows p
  pub hints : (peer : ℕ) → hints_of d'.hints peer ≡ hints_of d.hints peer
  pub numbers : (peer : ℕ) → last_of d'.numbers peer ≡ last_of d.numbers peer
  pub marks : (m : Mark) → Contains d'.marks m ↔ Contains d.marks m

-- what a formatted store keeps
abbrev pub formatted : Durable
formatted = record { ceiling = 0; content = []; rows = []; hints = []; numbers = []; marks = [] }
