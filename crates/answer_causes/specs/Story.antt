-- What happened to the nodes of a run, one event after another, and what of a client's request can be read off it.
use Rattle.std.specs.Prelude.{ℕ, ◌+◌, ◌==◌, nat_lt, if◌then◌else◌, Bool, false, Option, Some, None, List, [], ◌∷◌, ◌++◌, filter}
use Rattle.cs_base.specs.declared.ids.ReqId.{ReqId}
use Rattle.cs_base.specs.Requests.{is_request}
use Rattle.peer_messages.specs.declared.event.Event.{Event}
use Rattle.peer_messages.specs.declared.chronicle.Entry.{Entry}
use Rattle.peer_messages.specs.declared.chronicle.Entry.TheVariants.{Asked, Submitted, Acked, Refused, Used, Began, Rows, Marks, Time, Turned, Tables, Stopped}
use Rattle.peer_messages.specs.declared.chronicle.Refusal.{Refusal}
use Rattle.peer_messages.specs.declared.outcome.Outputs.{Outputs}
use Rattle.peer_messages.specs.declared.setting.Setting.{Setting}
use Rattle.node_steps.specs.Acts.{Deed}
use Rattle.cluster_runs.specs.World.{World}
use Rattle.cluster_runs.specs.Run.{Run}
use Rattle.cluster_runs.specs.Run.RunFrom.{begun as fresh, more as went_on, stopped_in, stopped, load, load_failed, turned}

-- One event: a step of a node with the moves that it made, in order; a stop of a node, inside a step or between two; a load;
-- or a request that the node turned away
pub data Happening : Type 0 where
  Step : (k : ℕ) (e : Event) (deeds : List Deed) (o : Outputs) → Happening
  Halt : (k : ℕ) → Happening
  Load : (k : ℕ) → Happening
  Away : (k : ℕ) (refusal : Refusal) → Happening

-- all that happened in a run, the newest first
abbrev pub story : (c : Setting) (w : World) → Run c w → List Happening
story c _ fresh = []
story c _ (went_on w w' k e run step) = Step k e step.deeds step.outputs ∷ story c w run
story c _ (stopped_in w w' k e made failed run step) = Halt k ∷ story c w run
story c _ (stopped w w' k run step) = Halt k ∷ story c w run
story c _ (load w w' k run step) = Load k ∷ story c w run
story c _ (load_failed w w' k run step) = story c w run
story c _ (turned w w' k run step) = Away k step.refusal ∷ story c w run

-- ---- answers

-- the entry answers the request
abbrev pub answers : Entry → ReqId → Bool
answers (Acked r l heard) id = is_request r id
answers (Refused r refusal) id = is_request r id
answers (Used r keyspace) id = is_request r id
answers (Rows r rows more grounds) id = is_request r id
answers (Asked r) id = false
answers (Submitted r m) id = false
answers (Began r q l columns) id = false
answers (Marks k alive) id = false
answers (Time k t) id = false
answers (Turned k refusal) id = false
answers (Tables k n) id = false
answers (Stopped k) id = false

abbrev pub one_if : Bool → ℕ
one_if b = if b then 1 else 0

-- how many of the entries answer it
abbrev pub answers_to : List Entry → ReqId → ℕ
answers_to [] id = 0
answers_to (e ∷ es) id = one_if (answers e id) + answers_to es id

abbrev pub is_unanswered : List Entry → ReqId → Bool
is_unanswered es id = nat_lt (answers_to es id) 1

-- the request that a step began, if it did
abbrev pub asked_in : Option ReqId → List ReqId
asked_in None = []
asked_in (Some id) = id ∷ []

-- The requests of node k without an answer: those that were asked since the node was last stopped or loaded, but for those
-- that were answered since
abbrev pub waiting_at : ℕ → List Happening → List ReqId
waiting_at k [] = []
waiting_at k (Step j e deeds o ∷ earlier) = if j == k then filter (is_unanswered o.entries) (asked_in o.started ++ waiting_at k earlier) else waiting_at k earlier
waiting_at k (Halt j ∷ earlier) = if j == k then [] else waiting_at k earlier
waiting_at k (Load j ∷ earlier) = if j == k then [] else waiting_at k earlier
waiting_at k (Away j refusal ∷ earlier) = waiting_at k earlier
