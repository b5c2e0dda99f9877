-- The hints of a node as they were kept last, and as its step has them now.
use Rattle.std.specs.Prelude.{◌≡◌, ℕ, ◌+◌, if◌then◌else◌, Option, Some, None, List, [], filter, take}
use Rattle.row_change.specs.declared.entry.Hint.{Hint}
use Rattle.peer_messages.specs.declared.setting.Setting.{Setting}
use Rattle.durable_state.specs.State.{hints_of, last_of}
use Rattle.node_steps.specs.Fitting.{is_table}
use Rattle.node_steps.specs.Hints.{KeptHints, is_full}

pub record Staged : Type 0 where
  pub before : KeptHints
  pub now : KeptHints

-- the same hints of each peer in the order in which they came, and the same last numbers; in whatever order the peers stand
pub record IsSameHints (k k' : KeptHints) : Type 0 where
  pub hints : (peer : ℕ) → hints_of k'.hints peer ≡ hints_of k.hints peer
  pub numbers : (peer : ℕ) → last_of k'.numbers peer ≡ last_of k.numbers peer

abbrev pub no_hints : KeptHints
no_hints = record { hints = []; numbers = [] }

-- the number that a further hint of the peer gets; a full store takes none
abbrev pub next_number : KeptHints → ℕ → Option ℕ
next_number k peer = if is_full k peer then None else Some (last_of k.numbers peer + 1)

-- the first 64 hints of a peer whose tables are there
abbrev pub first_of : Setting → List Hint → ℕ → List Hint
first_of c hints peer = take 64 (filter (λ h. is_table c h.mutation.partition) (hints_of hints peer))
