-- A reply that a read can use, with those before it.
use Rattle.std.specs.Prelude.{◌≡◌, ℕ, Bool, ◌==◌, ◌&&◌, not, nat_lt, Option, Some, None, List, [], ◌∷◌, ◌++◌, filter, Contains}
use Rattle.std.specs.List.{list_any}
use Rattle.cs_base.specs.declared.ids.ReqId.{ReqId}
use Rattle.cs_base.specs.Quorums.{is_in, heard_of}
use Rattle.changes.specs.declared.Held.{Held}
use Rattle.changes.specs.declared.Mutation.{Mutation}
use Rattle.changes.specs.declared.Partition.{Partition}
use Rattle.changes.specs.declared.Query.{Query}
use Rattle.changes.specs.declared.ShownRow.{ShownRow}
use Rattle.changes.specs.Shown.{IsShown}
use Rattle.peer_messages.specs.declared.chronicle.Entry.TheVariants.{Rows}
use Rattle.peer_messages.specs.declared.outcome.Move.{Move}
use Rattle.peer_messages.specs.declared.setting.Setting.{Setting}
use Rattle.peer_messages.specs.Settings.{replicas_of}
use Rattle.peer_messages.specs.Moves.{tells}
use Rattle.node_steps.specs.State.{OpenRead, Replied}
use Rattle.node_steps.specs.Reads.{heard_by, is_same, is_stray, read_needs, mends, AwaitsMends, IsMergedInOrder}
use Rattle.read_coord.specs.Merges.{agrees}

abbrev pub is_among : List Replied → ℕ → Bool
is_among replies k = list_any (λ (x : Replied). x.from == k) replies

abbrev pub replies_with : OpenRead → ℕ → List Held → List Replied
replies_with r from content = r.replies ++ record { from = from; content = content } ∷ []

abbrev pub with_reply : OpenRead → ℕ → List Held → List Held → OpenRead
with_reply r from content merged = record r { replies = replies_with r from content; merged = merged }

-- it is kept, and merged
pub record Keeps (from : ℕ) (content : List Held) (r next : OpenRead) : Type 0 where
  pub next_is : next ≡ with_reply r from content next.merged
  pub merge : IsMergedInOrder next.merged r.merged content

-- the rows of a merge are told, which rests on the replies of these
abbrev pub TellsMerge : ReqId → Query → List ℕ → List Held → Move → Type 0
TellsMerge id q heard merged turn =
    (rows : List ShownRow) × (more : Bool) × IsShown (Contains merged) q rows more × (turn ≡ tells (Rows id rows more (record { heard = heard; merged = merged })))

-- ---- the last reply that a read waits for

-- one of these replies of the node is another than the merge
abbrev pub differs_from : List Held → List Replied → ℕ → Bool
differs_from merged replies k = list_any (λ (x : Replied). (x.from == k) && not (is_same x.content merged)) replies

-- of these replicas, those whose reply is
abbrev pub differing_from : List Held → List Replied → List ℕ → List ℕ
differing_from merged replies replicas = filter (λ k. differs_from merged replies k) replicas

abbrev pub differing_in : List ℕ → OpenRead → List ℕ
differing_in replicas r = differing_from r.merged r.replies replicas

abbrev pub mend_with : Partition → List Held → Mutation
mend_with p merged = record { partition = p; changes = merged }

-- the merge goes to these, and the read waits for them
abbrev pub IsMending : ReqId → List ℕ → OpenRead → Move → OpenRead → Type 0
IsMending id ks r turn next = (turn ≡ mends id r ks) × (next ≡ record r { mending = Some ks })

-- with this merge of the replies it is answered, or waits for those that lack it
abbrev pub Fixes : ReqId → List ℕ → OpenRead → Move → OpenRead → Type 0
Fixes id replicas r turn next = AwaitsMends id r (differing_in replicas r) (mends id r (differing_in replicas r)) turn next

-- the reply is merged with the others for good
abbrev pub Decides : ReqId → List ℕ → ℕ → List Held → OpenRead → Move → OpenRead → Type 0
Decides id replicas from content r turn next =
    (merged : List Held) × IsMergedInOrder merged r.merged content × Fixes id replicas (with_reply r from content merged) turn next

-- the node's reply is one that the read can use, and the last that it waits for
abbrev pub is_last : Setting → ℕ → OpenRead → Bool
is_last c from r = not (is_stray c from r) && not (nat_lt (heard_of (replicas_of c r.query.partition) (heard_by r ++ from ∷ [])) (read_needs c r))

-- and it is the same as each of those before, so that the read is answered at once
abbrev pub ends : Setting → ℕ → List Held → OpenRead → Bool
ends c from content r = is_last c from r && agrees r.replies content

-- ---- the deadline

-- those that have replied, or have the merge once there is one
abbrev pub counted : Option (List ℕ) → List ℕ → List ℕ
counted None heard = heard
counted (Some ks) heard = filter (λ k. not (is_in ks k)) heard
