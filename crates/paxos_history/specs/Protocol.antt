-- Conditional updates of one partition, as a list of events, the newest first: which events may follow which. After Lamport,
-- "Paxos Made Simple"; with a promise that carries what its replica has, a commit that is told apart from the acceptances, and
-- updates that are computed on what a quorum promised, as in Apache Cassandra's lightweight transactions (Documentation,
-- "Guarantees", "Lightweight transactions with linearizable consistency"). An event is what one step of a node does to this
-- partition. A message is the event that sent it, so that the list is also the set of all messages ever sent: any of them may
-- be taken later, again, in any order, or never.
use Rattle.std.specs.Prelude.{◌≡◌, ℕ, pos, ◌*◌, ◌<◌, ◌≤◌, Bool, true, ◌==◌, if◌then◌else◌, nat_lt, List, [], ◌∷◌, ◌⊎◌, length, map, Contains, count_by}
use Rattle.cs_base.specs.declared.ids.ReqId.{ReqId}
use Rattle.changes.specs.declared.Draft.{Draft}
use Rattle.changes.specs.declared.Held.{Held}
use Rattle.changes.specs.Contents.{IsReachedBy, IsContent}
use Rattle.statement_plan.specs.declared.operation.ConditionalOperation.{ConditionalOperation}
use Rattle.single_copy.specs.Maps.{PartitionMap, Slot, place_of, ActsOn, IsMapOf}
use Rattle.single_copy.specs.ConditionalStep.{ConditionalReply, Answers, drafts_by}

-- an operation with what it was told
pub record Result : Type 0 where
  pub operation : ConditionalOperation
  pub reply : ConditionalReply

-- Nodes and ballots are numbers. A ballot is a proposal's number, and is the timestamp of the changes that it writes; 0 stands
-- for none
pub data Event : Type 0 where
  -- a client asks for a conditional operation
  Asked : (request : ReqId) (operation : ConditionalOperation) → Event
  -- a replica promises a ballot: it accepts none below it from then on. The promise carries the ballot that the replica
  -- accepted last, its most recent commit, and what it holds of the partition
  Promised : (node ballot accepted commit : ℕ) (held : List Held) → Event
  -- the coordinator of a request proposes its own update, which it computed on the content as of the commit `base`, to these
  -- replicas
  Proposed : (ballot base : ℕ) (request : ReqId) (result : Result) (targets : List ℕ) → Event
  -- a coordinator proposes again, under a ballot of its own, the update that the ballot `from` carries
  ProposedAgain : (ballot from : ℕ) → Event
  -- a replica accepts what was proposed under a ballot, which is then its promise too
  Accepted : (node ballot : ℕ) → Event
  -- a replica refuses a proposal, since it promised a higher ballot
  Refused : (node ballot : ℕ) → Event
  -- a replica takes a commit, and the changes of its update
  Committed : (node ballot : ℕ) → Event
  -- a replica takes committed changes by another way, as read repair; what it promised, accepted and committed stays
  Mended : (node : ℕ) (changes : List Held) → Event
  -- a replica forgets what it accepted, where its commit is no older
  Trimmed : (node : ℕ) → Event
  -- a client is told the result of its operation
  Told : (request : ReqId) (result : Result) → Event

pub record Setup : Type 0 where
  -- the replicas of the partition
  pub replicas : List ℕ

-- ---- lists and quorums

-- some event of the list is such
abbrev pub Ever : (Event → Type 0) → List Event → Type 0
Ever P [] = ⊥
Ever P (e ∷ h) = P e ⊎ Ever P h

abbrev pub Member : {A : Type 0} → A → List A → Type 0
Member x [] = ⊥
Member x (y ∷ ys) = (y ≡ x) ⊎ Member x ys

-- more than half of the replicas pass the test
abbrev pub IsQuorum : Setup → (ℕ → Bool) → Type 0
IsQuorum w q = length w.replicas < 2 * count_by q w.replicas

-- the second list is the first with later events on top
pub data Later : List Event → List Event → Type 0 where
  here : {h : List Event} → Later h h
  more : {h k : List Event} {e : Event} → Later h k → Later h (e ∷ k)

-- ---- what happened

abbrev pub IsAsk : ReqId → ConditionalOperation → Event → Type 0
IsAsk r o (Asked r' o') = (r' ≡ r) × (o' ≡ o)
IsAsk r o _ = ⊥

abbrev pub IsPromise : ℕ → ℕ → ℕ → ℕ → List Held → Event → Type 0
IsPromise n b a c s (Promised n' b' a' c' s') = (n' ≡ n) × (b' ≡ b) × (a' ≡ a) × (c' ≡ c) × (s' ≡ s)
IsPromise n b a c s _ = ⊥

abbrev pub IsOwnProposal : ℕ → ℕ → ReqId → Result → List ℕ → Event → Type 0
IsOwnProposal b c r y t (Proposed b' c' r' y' t') = (b' ≡ b) × (c' ≡ c) × (r' ≡ r) × (y' ≡ y) × (t' ≡ t)
IsOwnProposal b c r y t _ = ⊥

abbrev pub IsProposalAgain : ℕ → ℕ → Event → Type 0
IsProposalAgain b a (ProposedAgain b' a') = (b' ≡ b) × (a' ≡ a)
IsProposalAgain b a _ = ⊥

abbrev pub IsProposal : ℕ → Event → Type 0
IsProposal b (Proposed b' _ _ _ _) = b' ≡ b
IsProposal b (ProposedAgain b' _) = b' ≡ b
IsProposal b _ = ⊥

abbrev pub IsAcceptance : ℕ → ℕ → Event → Type 0
IsAcceptance n b (Accepted n' b') = (n' ≡ n) × (b' ≡ b)
IsAcceptance n b _ = ⊥

abbrev pub IsRefusal : ℕ → ℕ → Event → Type 0
IsRefusal n b (Refused n' b') = (n' ≡ n) × (b' ≡ b)
IsRefusal n b _ = ⊥

abbrev pub IsCommit : ℕ → ℕ → Event → Type 0
IsCommit n b (Committed n' b') = (n' ≡ n) × (b' ≡ b)
IsCommit n b _ = ⊥

abbrev pub IsTold : ReqId → Result → Event → Type 0
IsTold r y (Told r' y') = (r' ≡ r) × (y' ≡ y)
IsTold r y _ = ⊥

-- ---- what a replica keeps: its promise, the ballot that it accepted last (0 for none, or forgotten), and its most recent commit

abbrev pub promised : ℕ → List Event → ℕ
promised n [] = 0
promised n (Promised m b _ _ _ ∷ h) = if m == n then b else promised n h
promised n (Accepted m b ∷ h) = if m == n then b else promised n h
promised n (_ ∷ h) = promised n h

abbrev pub accepted : ℕ → List Event → ℕ
accepted n [] = 0
accepted n (Accepted m b ∷ h) = if m == n then b else accepted n h
accepted n (Trimmed m ∷ h) = if m == n then 0 else accepted n h
accepted n (_ ∷ h) = accepted n h

abbrev pub commit : ℕ → List Event → ℕ
commit n [] = 0
commit n (Committed m b ∷ h) = if m == n then (if nat_lt (commit n h) b then b else commit n h) else commit n h
commit n (_ ∷ h) = commit n h

-- a quorum has accepted the ballot: its update is decided, whether or not anyone knows it yet
abbrev pub Chosen : Setup → ℕ → List Event → Type 0
Chosen w b h = (q : ℕ → Bool) × IsQuorum w q × ((n : ℕ) → q n ≡ true → Ever (IsAcceptance n b) h)

-- ---- chains of updates

-- an update, with the ballot under which it was first proposed
pub record Update : Type 0 where
  pub origin : ℕ
  pub request : ReqId
  pub result : Result

-- the update that a ballot carries, and those below it: that of the commit on which it was computed, and so on, the last first
abbrev pub chain : ℕ → List Event → List Update
chain b [] = []
chain b (Proposed b' c r y _ ∷ h) = if b' == b then record { origin = b'; request = r; result = y } ∷ chain c h else chain b h
chain b (ProposedAgain b' a ∷ h) = if b' == b then chain a h else chain b h
chain b (_ ∷ h) = chain b h

-- the first chain is the second, or what stands below some of its last updates
pub data Under : List Update → List Update → Type 0 where
  same : {us : List Update} → Under us us
  below : {us vs : List Update} {v : Update} → Under us vs → Under us (v ∷ vs)

-- ---- changes

-- what an operation with this result writes
abbrev pub drafts_in : Result → List Draft
drafts_in y = drafts_by y.reply.applied y.operation.changes

-- a draft as a change of a ballot
abbrev pub proposed_at : ℕ → ReqId → Draft → Held
proposed_at b r d = record { place = d.place; value = d.value; timestamp = pos b; submitted = b; request = r }

-- the changes of an update under this ballot
abbrev pub changes_of : ℕ → List Update → List Held
changes_of b [] = []
changes_of b (u ∷ us) = map (proposed_at b u.request) (drafts_in u.result)

-- the replica has taken this change, by a commit or otherwise
abbrev pub Taken : ℕ → List Event → Held → Type 0
Taken n [] x = ⊥
Taken n (Committed m b ∷ h) x = ((m ≡ n) × Contains (changes_of b (chain b h)) x) ⊎ Taken n h x
Taken n (Mended m xs ∷ h) x = ((m ≡ n) × Contains xs x) ⊎ Taken n h x
Taken n (_ ∷ h) x = Taken n h x

-- some promise of ballot b, with the commit c, by a member of q carried the change
abbrev pub Gathered : (ℕ → Bool) → ℕ → ℕ → List Event → Held → Type 0
Gathered q b c h x = (n : ℕ) × (a : ℕ) × (s : List Held) × (q n ≡ true) × Ever (IsPromise n b a c s) h × Contains s x

-- ---- the rules: what may happen after h

-- a ballot above the promise; what the promise carries is so
pub record MayPromise (h : List Event) (n b a c : ℕ) (s : List Held) : Type 0 where
  pub above : promised n h < b
  pub accepts : a ≡ accepted n h
  pub commits : c ≡ commit n h
  pub holds : IsContent s (Taken n h)

-- an own update under a ballot that nobody has used: it is computed on the merge of what a quorum promised, none of which
-- accepted anything that is newer than the commit that they all have
pub record MayPropose (w : Setup) (h : List Event) (b c : ℕ) (r : ReqId) (y : Result) : Type 0 where
  pub unused : Ever (IsProposal b) h → ⊥
  pub positive : 0 < b
  pub asked : Ever (IsAsk r y.operation) h
  -- each earlier proposal of the operation's own update was refused by all replicas to which it went
  pub dead : (b' c' : ℕ) (y' : Result) (t : List ℕ) → Ever (IsOwnProposal b' c' r y' t) h → (n : ℕ) → Member n t → Ever (IsRefusal n b') h
  pub quorum : ℕ → Bool
  pub big : IsQuorum w quorum
  pub promises : (n : ℕ) → quorum n ≡ true → (a : ℕ) × (s : List Held) × Ever (IsPromise n b a c s) h × (a ≤ c)
  pub content : List Held
  pub merged : IsContent content (Gathered quorum b c h)
  pub shown : PartitionMap
  pub shows : IsMapOf content shown
  pub computed : Answers shown y.operation y.reply

-- the update of the newest ballot that a quorum of promises says was accepted, if it is newer than each commit among them
pub record MayProposeAgain (w : Setup) (h : List Event) (b a : ℕ) : Type 0 where
  pub unused : Ever (IsProposal b) h → ⊥
  pub positive : 0 < b
  pub quorum : ℕ → Bool
  pub big : IsQuorum w quorum
  pub promises : (n : ℕ) → quorum n ≡ true → (x : ℕ) × (c : ℕ) × (s : List Held) × Ever (IsPromise n b x c s) h × (x ≤ a) × (c < a)
  pub witness : (n : ℕ) × (c : ℕ) × (s : List Held) × Ever (IsPromise n b a c s) h

-- a proposal that is not below the promise, and went to this replica
pub record MayAccept (h : List Event) (n b : ℕ) : Type 0 where
  pub above : promised n h ≤ b
  pub proposed : Ever (IsProposal b) h
  pub target : (c : ℕ) (r : ReqId) (y : Result) (t : List ℕ) → Ever (IsOwnProposal b c r y t) h → Member n t

-- a proposal below the promise that the replica never accepted
pub record MayRefuse (h : List Event) (n b : ℕ) : Type 0 where
  pub below : b < promised n h
  pub never : Ever (IsAcceptance n b) h → ⊥

-- each change is of a chosen ballot, and what else of that ballot acts on the slot in which it stands comes too, or is
-- outranked by what comes
pub record MayMend (w : Setup) (h : List Event) (changes : List Held) (x : Held) : Type 0 where
  pub ballot : ℕ
  pub chosen : Chosen w ballot h
  pub of : Contains (changes_of ballot (chain ballot h)) x
  pub beside : (k : Slot) → x.place ≡ place_of k → (y : Held) → Contains (changes_of ballot (chain ballot h)) y → ActsOn y.place k → IsReachedBy changes y

abbrev pub Allowed : Setup → Event → List Event → Type 0
Allowed w (Asked r o) h = Unit {0}
Allowed w (Promised n b a c s) h = MayPromise h n b a c s
Allowed w (Proposed b c r y t) h = MayPropose w h b c r y
Allowed w (ProposedAgain b a) h = MayProposeAgain w h b a
Allowed w (Accepted n b) h = MayAccept h n b
Allowed w (Refused n b) h = MayRefuse h n b
Allowed w (Committed n b) h = Chosen w b h
Allowed w (Mended n xs) h = (x : Held) → Contains xs x → MayMend w h xs x
Allowed w (Trimmed n) h = accepted n h ≤ commit n h
-- an own proposal with this result is chosen
Allowed w (Told r y) h = (b : ℕ) × (c : ℕ) × (t : List ℕ) × Ever (IsOwnProposal b c r y t) h × Chosen w b h

-- each event was allowed by those before it
abbrev pub Lawful : Setup → List Event → Type 0
Lawful w [] = Unit {0}
Lawful w (e ∷ h) = Lawful w h × Allowed w e h
