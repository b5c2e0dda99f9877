-- A step in the making, before anything of it is kept: whatever the changes that it takes in make of what the node kept, its moves
-- lead there.
use Rattle.std.specs.Prelude.{◌≡◌, ◌++◌, ℕ, List, [], flat_map}
use Rattle.cs_base.specs.declared.ids.ReqId.{ReqId}
use Rattle.row_change.specs.declared.entry.Hint.{Hint}
use Rattle.row_change.specs.declared.entry.LogItem.{LogItem}
use Rattle.peer_messages.specs.declared.chronicle.Entry.{Entry}
use Rattle.peer_messages.specs.declared.outcome.Outbound.{Outbound}
use Rattle.peer_messages.specs.declared.setting.Setting.{Setting}
use Rattle.durable_state.specs.State.{Durable}
use Rattle.durable_state.specs.Keeping.{Commits}
use Rattle.node_steps.specs.State.{NodeState, Batch, OpenWrite, OpenRead, durable_of}
use Rattle.node_steps.specs.Effects.{Effects}
use Rattle.node_steps.specs.Hints.{KeptHints}
use Rattle.node_steps.specs.Acts.{Act, Deed, Does, Chain}
use Rattle.node_steps.specs.Steps.{sends_of, entries_of}
use Rattle.node_steps.specs.Keeping.{Gone, hints_by, gone_by, hints_made, hints_gone}

-- what a node forgets at a stop
pub record Forgotten : Type 0 where
  pub time : ℕ
  pub risen : ℕ
  pub down : List ℕ
  pub batches : List Batch
  pub writes : List (ReqId × OpenWrite)
  pub reads : List (ReqId × OpenRead)

abbrev pub forgotten_of : NodeState → Forgotten
forgotten_of s = record { time = s.time; risen = s.risen; down = s.down; batches = s.batches; writes = s.writes; reads = s.reads }

-- the node with this, which keeps that
abbrev pub state_with : Forgotten → Durable → NodeState
state_with f d = record {
  ceiling = d.ceiling;
  content = d.content;
  rows = d.rows;
  hints = d.hints;
  numbers = d.numbers;
  marks = d.marks;
  time = f.time;
  risen = f.risen;
  down = f.down;
  batches = f.batches;
  writes = f.writes;
  reads = f.reads;
}

-- under this ceiling, which is kept behind all else
abbrev pub state_under : ℕ → Forgotten → Durable → NodeState
state_under ceiling f d = state_with f (record d { ceiling = ceiling })

-- what moves of a step make: the changes that they take in, the hints that come and go, and what is sent and entered
pub record Making : Type 0 where
  pub taken : List LogItem
  pub made : List Hint
  pub gone : List Gone
  pub sent : List Outbound
  pub told : List Entry

abbrev pub nothing_made : Making
nothing_made = record { taken = []; made = []; gone = []; sent = []; told = [] }

abbrev pub makes_more : Making → Making → Making
makes_more x y = record { taken = x.taken ++ y.taken; made = x.made ++ y.made; gone = x.gone ++ y.gone; sent = x.sent ++ y.sent; told = x.told ++ y.told }

abbrev pub effects_made : Making → Effects
effects_made x = record { sends = x.sent; entries = x.told }

-- these hints are kept
abbrev pub keeping : KeptHints → Durable → Durable
keeping k d = record d { hints = k.hints; numbers = k.numbers }

-- Node me began a step at s with these matters. By the moves so far it made this, keeps these hints, and is at f under this ceiling;
-- it has these of its own to hear, and these matters left
pub record IsLeading (c : Setting) (me : ℕ) (s : NodeState) (matters : List Act) (ceiling : ℕ) (x : Making) (k : KeptHints) (f : Forgotten) (pending left : List Act) : Type 0 where
  pub leads : (d : Durable) → Commits x.taken (durable_of s) d
      → (deeds : List Deed) × Chain c me s matters deeds (state_under ceiling f (keeping k d)) pending left × (flat_map sends_of deeds ≡ x.sent) × (flat_map entries_of deeds ≡ x.told)
      × (flat_map (hints_made c) deeds ≡ x.made) × (flat_map (hints_gone c) deeds ≡ x.gone)

-- behind these changes the node may make this move, by which it makes that
abbrev pub MovesOn : Setting → ℕ → NodeState → ℕ → List LogItem → KeptHints → Forgotten → Act → Making → KeptHints → Forgotten → Type 0
MovesOn c me s ceiling taken k f a y k' f' =
    (d d' : Durable) → Commits taken (durable_of s) d → Commits y.taken d d'
    → Does c me (state_under ceiling f (keeping k d)) a (effects_made y) (state_under ceiling f' (keeping k' d'))
    × (hints_by c me (state_under ceiling f (keeping k d)) a ≡ y.made) × (gone_by c (state_under ceiling f (keeping k d)) a ≡ y.gone)
