-- What holds of each lawful history: the operations that a quorum accepted, in the order in which it did, stand once each in
-- one sequence, and a single copy that takes them in this order gives each reply that a client was told. An operation stands
-- there between its start and its reply, so that operations keep the order of callers who wait for replies. After Herlihy and
-- Wing, "Linearizability: A Correctness Condition for Concurrent Objects".
use Rattle.std.specs.Prelude.{◌≡◌, ℕ, ◌*◌, Bool, true, false, ◌==◌, ◌&&◌, ◌||◌, if◌then◌else◌, nat_lt, List, [], ◌∷◌, ◌++◌, Option, None, Some, length, count_by}
use Rattle.cs_base.specs.declared.ids.ReqId.{ReqId}
use Rattle.cs_base.specs.Requests.{is_request}
use Rattle.statement_plan.specs.declared.operation.ConditionalOperation.{ConditionalOperation}
use Rattle.single_copy.specs.Maps.{PartitionMap, empty_map}
use Rattle.single_copy.specs.ConditionalStep.{ConditionalReply, Answers, ConditionalStep}
use Rattle.paxos_history.specs.Protocol.{Event, Proposed, ProposedAgain, Accepted, Told, Setup, Result, Ever, Member, IsAsk, IsTold, Later}

-- ---- the order, computed from the acceptances

abbrev pub accepts : ℕ → ℕ → List Event → Bool
accepts n b [] = false
accepts n b (Accepted m x ∷ h) = ((m == n) && (x == b)) || accepts n b h
accepts n b (_ ∷ h) = accepts n b h

-- a quorum accepted the ballot
abbrev pub is_chosen : Setup → ℕ → List Event → Bool
is_chosen w b h = nat_lt (length w.replicas) (2 * count_by (λ n. accepts n b h) w.replicas)

-- the request whose update a ballot carries
abbrev pub carried : ℕ → List Event → Option ReqId
carried b [] = None
carried b (Proposed x c r y t ∷ h) = if x == b then Some r else carried b h
carried b (ProposedAgain x a ∷ h) = if x == b then carried a h else carried b h
carried b (_ ∷ h) = carried b h

abbrev pub is_listed : ReqId → List ReqId → Bool
is_listed r [] = false
is_listed r (x ∷ xs) = is_request x r || is_listed r xs

-- a request whose update was chosen just now comes in front, if it is not there
abbrev pub with_chosen : Bool → Option ReqId → List ReqId → List ReqId
with_chosen false r rs = rs
with_chosen true None rs = rs
with_chosen true (Some r) rs = if is_listed r rs then rs else r ∷ rs

-- the requests whose update a quorum has accepted at one ballot, each once, in the order of the first time, the last first
abbrev pub chosen_requests : Setup → List Event → List ReqId
chosen_requests w [] = []
chosen_requests w (Accepted n b ∷ h) = with_chosen (is_chosen w b (Accepted n b ∷ h)) (carried b h) (chosen_requests w h)
chosen_requests w (_ ∷ h) = chosen_requests w h

-- ---- what a single copy says in this order

-- the single copy after these operations, the last first, each of which was asked
abbrev pub IsMapAfter : (ReqId → ConditionalOperation → Type 0) → List ReqId → PartitionMap → Type 0
IsMapAfter AsksFor [] m = m ≡ empty_map
IsMapAfter AsksFor (r ∷ rs) m =
    (op : ConditionalOperation) × (before : PartitionMap) × (reply : ConditionalReply) × AsksFor r op × IsMapAfter AsksFor rs before × ConditionalStep before op m reply

abbrev pub NoRepeat : List ReqId → Type 0
NoRepeat [] = Unit {0}
NoRepeat (x ∷ xs) = (Member x xs → ⊥) × NoRepeat xs

-- the request stands in the sequence, and the reply to its operation is the single copy's, behind the operations before it
pub record IsSerialReply (AsksFor : ReqId → ConditionalOperation → Type 0) (sequence : List ReqId) (r : ReqId) (y : Result) : Type 0 where
  pub asked : AsksFor r y.operation
  pub later : List ReqId
  pub earlier : List ReqId
  pub there : sequence ≡ later ++ r ∷ earlier
  pub before : PartitionMap
  pub map : IsMapAfter AsksFor earlier before
  pub gives : Answers before y.operation y.reply

-- in a sequence whose last comes first, the first request stands before the second
pub record IsBefore (sequence : List ReqId) (first second : ReqId) : Type 0 where
  pub later : List ReqId
  pub earlier : List ReqId
  pub there : sequence ≡ later ++ second ∷ earlier
  pub behind : Member first earlier

abbrev pub WasAsked : List Event → ReqId → ConditionalOperation → Type 0
WasAsked h r op = Ever (IsAsk r op) h

pub record SerialRight (w : Setup) (h : List Event) : Type 0 where
  -- no request stands twice
  pub once : NoRepeat (chosen_requests w h)
  -- each reply that was told is the one that the single copy gives there
  pub replies : (r : ReqId) (y : Result) → Ever (IsTold r y) h → IsSerialReply (WasAsked h) (chosen_requests w h) r y
  -- what was told stood there before
  pub taken_first : (r : ReqId) (y : Result) (h' : List Event) → Later (Told r y ∷ h') h → Member r (chosen_requests w h')
  -- and what stands there at any time was asked before
  pub asked_first : (r : ReqId) (h' : List Event) → Later h' h → Member r (chosen_requests w h') → (op : ConditionalOperation) × Ever (IsAsk r op) h'
  -- a request that was told before another one was asked stands before it
  pub in_order : (r s : ReqId) (y : Result) (h' : List Event) → Later (Told r y ∷ h') h → ((op : ConditionalOperation) → Ever (IsAsk s op) h' → ⊥) → Member s (chosen_requests w h)
      → IsBefore (chosen_requests w h) r s
