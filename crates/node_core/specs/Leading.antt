-- A step in the making, with all that its entry will have.
use Rattle.std.specs.Prelude.{◌≡◌, ℕ, List, flat_map}
use Rattle.peer_messages.specs.declared.setting.Setting.{Setting}
use Rattle.durable_state.specs.State.{Durable}
use Rattle.durable_state.specs.Keeping.{Commits}
use Rattle.node_steps.specs.State.{NodeState}
use Rattle.node_steps.specs.Hints.{KeptHints}
use Rattle.node_steps.specs.Acts.{Act, Deed, Chain}
use Rattle.node_steps.specs.Steps.{sends_of, entries_of}
use Rattle.node_steps.specs.Keeping.{data_in, hints_made, hints_gone}
use Rattle.node_steps.specs.Leading.{Forgotten, Making, state_under, keeping}

-- these moves from s made all that x says
pub record Made (c : Setting) (me : ℕ) (s : NodeState) (matters : List Act) (x : Making) (s' : NodeState) (pending left : List Act) : Type 0 where
  pub deeds : List Deed
  pub moves : Chain c me s matters deeds s' pending left
  pub sent : flat_map sends_of deeds ≡ x.sent
  pub told : flat_map entries_of deeds ≡ x.told
  pub taken : flat_map (data_in c) deeds ≡ x.taken
  pub made : flat_map (hints_made c) deeds ≡ x.made
  pub gone : flat_map (hints_gone c) deeds ≡ x.gone

-- whatever the changes that were taken in make of d, there are such moves to what the node forgets, what it keeps, and these hints
abbrev pub Leads : Setting → ℕ → Durable → NodeState → List Act → ℕ → Making → KeptHints → Forgotten → List Act → List Act → Type 0
Leads c me d s matters ceiling x k f pending left = (d' : Durable) → Commits x.taken d d' → Made c me s matters x (state_under ceiling f (keeping k d')) pending left
