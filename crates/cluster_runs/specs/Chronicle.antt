-- What a reader of a chronicle, newest entry first, finds in it.
use Rattle.std.specs.Prelude.{◌≡◌, if◌then◌else◌, Option, Some, None, List, [], ◌∷◌, Contains, ◌⊎◌}
use Rattle.cs_base.specs.declared.ids.ReqId.{ReqId}
use Rattle.cs_base.specs.Requests.{is_request}
use Rattle.changes.specs.declared.Mutation.{Mutation}
use Rattle.peer_messages.specs.declared.chronicle.Entry.{Entry}
use Rattle.peer_messages.specs.declared.chronicle.Entry.TheVariants.{Asked, Submitted, Acked, Refused, Used, Began, Rows, Marks, Time, Turned, Tables, Stopped}

-- what was submitted last under this id
abbrev pub submission_of : List Entry → ReqId → Option Mutation
submission_of [] id = None
submission_of (Submitted r m ∷ earlier) id = if is_request r id then Some m else submission_of earlier id
submission_of (Asked r ∷ earlier) id = submission_of earlier id
submission_of (Acked r l heard ∷ earlier) id = submission_of earlier id
submission_of (Refused r refusal ∷ earlier) id = submission_of earlier id
submission_of (Used r keyspace ∷ earlier) id = submission_of earlier id
submission_of (Began r q l columns ∷ earlier) id = submission_of earlier id
submission_of (Rows r rows more grounds ∷ earlier) id = submission_of earlier id
submission_of (Marks k alive ∷ earlier) id = submission_of earlier id
submission_of (Time k t ∷ earlier) id = submission_of earlier id
submission_of (Turned k refusal ∷ earlier) id = submission_of earlier id
submission_of (Tables k n ∷ earlier) id = submission_of earlier id
submission_of (Stopped k ∷ earlier) id = submission_of earlier id

-- the entry is the start of the read of this id
abbrev pub IsStart : Entry → ReqId → Type 0
IsStart (Began r q l columns) id = r ≡ id
IsStart (Submitted r m) id = ⊥
IsStart (Asked r) id = ⊥
IsStart (Acked r l heard) id = ⊥
IsStart (Refused r refusal) id = ⊥
IsStart (Used r keyspace) id = ⊥
IsStart (Rows r rows more grounds) id = ⊥
IsStart (Marks k alive) id = ⊥
IsStart (Time k t) id = ⊥
IsStart (Turned k refusal) id = ⊥
IsStart (Tables k n) id = ⊥
IsStart (Stopped k) id = ⊥

-- the entry stands before the start of the read of this id
abbrev pub StandsBefore : List Entry → ReqId → Entry → Type 0
StandsBefore [] id e = ⊥
StandsBefore (x ∷ earlier) id e = (IsStart x id × Contains earlier e) ⊎ StandsBefore earlier id e
