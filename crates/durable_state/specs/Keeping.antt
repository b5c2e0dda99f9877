-- What the items of a log's entry make of what is kept.
use Rattle.std.specs.Prelude.{◌≡◌, ◌≢◌, ◌⊎◌, ◌==◌, ◌&&◌, not, nat_lt, ℕ, Some, List, [], ◌∷◌, ◌++◌, filter, if◌then◌else◌}
use Rattle.changes.specs.declared.Partition.{Partition}
use Rattle.row_change.specs.declared.entry.Hint.{Hint}
use Rattle.row_change.specs.declared.entry.LogItem.{LogItem}
use Rattle.row_change.specs.declared.entry.LogItem.TheVariants.{Data, Paxos, HintAdd, HintGone, Ceiling, Mark, Purge}
use Rattle.row_change.specs.declared.entry.PaxosRow.{PaxosRow}
use Rattle.durable_state.specs.declared.parts.LastNumber.{LastNumber}
use Rattle.durable_state.specs.declared.parts.RowAt.{RowAt}
use Rattle.durable_state.specs.State.{Durable, IsSameKept, row_at, last_of, changes_of}
use Rattle.durable_state.specs.Taking.{TakesIn, ArriveAt, LetsGo}

-- the partition has this row now, and each other one has its own still
pub record SetsRow (rows : List RowAt) (p : Partition) (row : PaxosRow) (rows' : List RowAt) : Type 0 where
  pub here : row_at rows' p ≡ Some row
  pub others : (q : Partition) → q ≢ p → row_at rows' q ≡ row_at rows q

abbrev pub without_hint : List Hint → ℕ → ℕ → List Hint
without_hint hints peer number = filter (λ h. not ((h.peer == peer) && (h.number == number))) hints

abbrev pub with_last : List LastNumber → ℕ → ℕ → List LastNumber
with_last ns peer number = record { peer = peer; last = number } ∷ filter (λ n. not (n.peer == peer)) ns

-- a number that is gone was given
abbrev pub with_given : List LastNumber → ℕ → ℕ → List LastNumber
with_given ns peer number = if nat_lt (last_of ns peer) number then with_last ns peer number else ns

abbrev pub TakesItem : LogItem → Durable → Durable → Type 0
TakesItem (Data arrival m) d d' =
    TakesIn (changes_of d.content) m.partition m.changes (changes_of d'.content) × ArriveAt arrival d.content d'.content × (d' ≡ record d { content = d'.content })
TakesItem (Paxos p row) d d' = SetsRow d.rows p row d'.rows × (d' ≡ record d { rows = d'.rows })
TakesItem (HintAdd h) d d' = d' ≡ record d { hints = d.hints ++ h ∷ []; numbers = with_last d.numbers h.peer h.number }
TakesItem (HintGone peer number) d d' = d' ≡ record d { hints = without_hint d.hints peer number; numbers = with_given d.numbers peer number }
TakesItem (Ceiling time) d d' = d' ≡ record d { ceiling = time }
TakesItem (Mark m) d d' = d' ≡ record d { marks = m ∷ d.marks }
TakesItem (Purge x) d d' = LetsGo d.content x d'.content × (d' ≡ record d { content = d'.content })

-- its items one after another
abbrev pub Commits : List LogItem → Durable → Durable → Type 0
Commits [] d d' = d' ≡ d
Commits (x ∷ xs) d d' = (mid : Durable) × TakesItem x d mid × Commits xs mid d'

-- what was kept before, or what the items make of it
abbrev pub IsWithOrWithout : List LogItem → Durable → Durable → Type 0
IsWithOrWithout items before d = IsSameKept before d ⊎ ((after : Durable) × Commits items before after × IsSameKept after d)
