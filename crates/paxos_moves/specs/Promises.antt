-- What the promises of a quorum say.
use Rattle.std.specs.Prelude.{ℕ, ◌==◌, ◌&&◌, ◌||◌, not, nat_lt, if◌then◌else◌, Bool, Option, Some, None, List, [], ◌∷◌, map, filter, length, Contains}
use Rattle.std.specs.List.{list_any}
use Rattle.cs_base.specs.Quorums.{is_in}
use Rattle.changes.specs.declared.Held.{Held}
use Rattle.changes.specs.Contents.{IsContent}
use Rattle.changes.specs.Places.{AreInOrder}
use Rattle.row_change.specs.declared.entry.Stamped.{Stamped}
use Rattle.paxos_moves.specs.declared.operation.Context.{Context}
use Rattle.paxos_moves.specs.declared.operation.Promised.{Promised}
use Rattle.paxos_moves.specs.declared.operation.Promises.{Promises}

abbrev pub from_of : Promised → ℕ
from_of p = p.from

-- those that promised, in order
abbrev pub promisers : List Promised → List ℕ
promisers ps = map from_of ps

-- no ballot is 0
abbrev pub ballot_of : Option Stamped → ℕ
ballot_of None = 0
ballot_of (Some s) = s.ballot

abbrev pub later_of : Option Stamped → Option Stamped → Option Stamped
later_of a b = if nat_lt (ballot_of a) (ballot_of b) then b else a

-- of the updates that they had accepted last, the one of the highest ballot
abbrev pub newest_accepted : List Promised → Option Stamped
newest_accepted [] = None
newest_accepted (p ∷ ps) = later_of p.row.accepted (newest_accepted ps)

-- of their commits, the one of the highest ballot
abbrev pub newest_commit : List Promised → Option Stamped
newest_commit [] = None
newest_commit (p ∷ ps) = later_of p.row.commit (newest_commit ps)

-- the node promised with an older commit than this
abbrev pub lacks : ℕ → List Promised → ℕ → Bool
lacks commit ps k = list_any (λ (p : Promised). (p.from == k) && nat_lt (ballot_of p.row.commit) commit) ps

-- the replicas that did, by rising number
abbrev pub lacking : Context → ℕ → List Promised → List ℕ
lacking c commit ps = filter (λ k. lacks commit ps k) c.members

-- some promiser holds it
abbrev pub Gathered : List Promised → Held → Type 0
Gathered ps x = (p : Promised) × Contains ps p × Contains p.content x

-- the merge of what they hold, in the order of places
abbrev pub IsMergeOfAll : List Promised → List Held → Type 0
IsMergeOfAll ps merged = IsContent merged (Gathered ps) × AreInOrder merged

-- ---- whether a quorum can still come

-- the ballot went to these, and no promise and no refusal has come
abbrev pub no_promises : List ℕ → Promises
no_promises targets = record { targets = targets; got = []; refused = [] }

-- the node has promised, or has not refused
abbrev pub is_left : Promises → ℕ → Bool
is_left w k = is_in (promisers w.got) k || not (is_in w.refused k)

-- those to which the ballot went that are left are too few for a quorum
abbrev pub is_lost : Context → Promises → Bool
is_lost c w = nat_lt (length (filter (λ k. is_left w k) w.targets)) c.majority
