-- What is due in a step, as its code finds it.
use Rattle.std.specs.Prelude.{◌≡◌, ◌+◌, ℕ, Bool, nat_lt, not, List, map, Contains}
use Rattle.std.specs.Ordering.{nat_cmp, ordering_then}
use Rattle.std.specs.declared.cmp.Ordering.{Ordering}
use Rattle.std.specs.List.{AllByRecursion}
use Rattle.cs_base.specs.declared.ids.ReqId.{ReqId}
use Rattle.cs_base.specs.Requests.{request_cmp}
use Rattle.peer_messages.specs.Moves.{deadline_of}
use Rattle.durable_state.specs.State.{formatted}
use Rattle.node_steps.specs.State.{NodeState, loaded}
use Rattle.node_steps.specs.Hints.{KeptHints}
use Rattle.node_steps.specs.Acts.{Act, DeadlineComes, HintExpires}
use Rattle.node_steps.specs.Steps.{Due, AreDue}
use Rattle.hint_store.specs.declared.aging.Expired.{Expired}
use Rattle.node_core.specs.declared.base.Base.{Base}
use Rattle.node_core.specs.declared.due.DueKind.{DueKind}
use Rattle.node_core.specs.declared.due.DueKind.TheVariants.{Deadline, Expiry}
use Rattle.node_core.specs.declared.due.DueKey.{DueKey}

abbrev pub act_at : DueKind → ReqId → ℕ → ℕ → Act
act_at Deadline request peer number = DeadlineComes request
act_at Expiry request peer number = HintExpires peer number

abbrev pub act_by : DueKey → Act
act_by k = act_at k.kind k.request k.peer k.number

abbrev pub due_by : DueKey → Due
due_by k = record { moment = k.moment; request = k.request; peer = k.peer; number = k.number; act = act_by k }

abbrev pub deadline_key : ReqId → DueKey
deadline_key id = record { moment = deadline_of id; request = id; kind = Deadline; peer = 0; number = 0 }

abbrev pub expiry_key : ℕ → ℕ → Expired → DueKey
expiry_key me expiry x = record { moment = x.born + expiry + 1; request = record { node = me; time = x.born }; kind = Expiry; peer = x.peer; number = x.number }

-- the deadline has come at this time
abbrev pub is_due_at : ℕ → ReqId → Bool
is_due_at time id = not (nat_lt time (deadline_of id))

abbrev pub kind_number : DueKind → ℕ
kind_number Deadline = 0
kind_number Expiry = 1

-- the order of their moments, then that of requests, and then that of kinds; hints that one request left by peer and number
abbrev pub key_cmp : DueKey → DueKey → Ordering
key_cmp a b = ordering_then (nat_cmp a.moment b.moment) (ordering_then (request_cmp a.request b.request) (ordering_then (nat_cmp (kind_number a.kind) (kind_number b.kind)) (ordering_then (nat_cmp a.peer b.peer) (nat_cmp a.number b.number))))

-- of one of these requests it is the deadline
pub record IsDeadlineKey (ids : List ReqId) (k : DueKey) : Type 0 where
  pub there : Contains ids k.request
  pub key : k ≡ deadline_key k.request

-- one of these hints is too old, as its key says
pub record IsExpiryKey (me expiry : ℕ) (all : List Expired) (k : DueKey) : Type 0 where
  pub expired : Expired
  pub there : Contains all expired
  pub key : k ≡ expiry_key me expiry expired

-- requests of the node itself
abbrev pub AreOwn : {A : Type 0} → ℕ → List (ReqId × A) → Type 0
AreOwn {A} me xs = AllByRecursion (λ (x : ReqId × A). x.0.node ≡ me) xs

-- of a node's state, that from which things come due
abbrev pub waits_in : Base → KeptHints → NodeState
waits_in b k = record (loaded formatted) { hints = k.hints; writes = b.writes.entries; reads = b.reads.entries }

-- with these keys all is told that is due at this time
abbrev pub AreDueKeys : Base → KeptHints → ℕ → List DueKey → Type 0
AreDueKeys b k time keys = AreDue b.setting b.me time (waits_in b k) (map due_by keys)
