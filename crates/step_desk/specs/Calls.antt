-- What the calls of a desk do to its cluster, and what they answer.
use Rattle.std.specs.Prelude.{◌≡◌, ◌⊎◌, ◌++◌, true, false, Option, Some, None, Result, Ok, Err, List, ◌∷◌, Contains, slice_get}
use Rattle.cs_base.specs.declared.ids.ReqId.{ReqId}
use Rattle.peer_messages.specs.declared.event.Ask.{Ask}
use Rattle.peer_messages.specs.declared.chronicle.Entry.{Entry}
use Rattle.peer_messages.specs.declared.chronicle.Entry.TheVariants.{Asked, Turned}
use Rattle.peer_messages.specs.declared.chronicle.Refusal.{Refusal}
use Rattle.peer_messages.specs.declared.chronicle.Refusal.TheVariants.{Down}
use Rattle.client_desk.specs.declared.answer.Answer.{Answer}
use Rattle.client_desk.specs.declared.answer.Answer.TheVariants as answer
use Rattle.cluster_model.specs.State.{ClusterState, runs_at}
use Rattle.cluster_model.specs.Takes.{Takes}
use Rattle.cluster_model.specs.declared.event.ClusterEvent.TheVariants as event
use Rattle.step_desk.specs.Tellings.{told, HasRows}

-- ---- a request is submitted

-- its node began it, and named it so
pub record IsNamed (v : ClusterState) (id : ReqId) (v' : ClusterState) : Type 0 where
  pub entered : List Entry
  pub chronicle : v'.chronicle ≡ entered ++ v.chronicle
  pub named : Contains entered (Asked (Some id))

-- its node took no step with it, for this cause; where there is no such node nothing is entered
abbrev pub IsTurnedAway : ClusterState → Refusal → ClusterState → Type 0
IsTurnedAway v refusal v' =
    (v'.chronicle ≡ Turned 0 refusal ∷ Asked None ∷ v.chronicle) ⊎ ((slice_get v.sites 0 ≡ None) × (refusal ≡ Down))

abbrev pub AsksNode : ClusterState → Ask → Result ReqId Answer → ClusterState → Type 0
AsksNode v ask (Ok id) v' = Takes v (event.Ask 0 ask) v' × IsNamed v id v'
AsksNode v ask (Err (answer.Refused refusal)) v' = Takes v (event.Ask 0 ask) v' × IsTurnedAway v refusal v'
AsksNode v ask (Err answer.NoMemory) v' = v' ≡ v
AsksNode v ask (Err answer.Acknowledged) v' = ⊥
AsksNode v ask (Err (answer.Rows rows more)) v' = ⊥

-- ---- an answer is collected

-- it is told so, or the node does not run and has forgotten what it kept
abbrev pub IsRefusedBy : ClusterState → ReqId → Refusal → Type 0
IsRefusedBy v id refusal = ((told v.chronicle id ≡ Some (answer.Refused refusal)) × (runs_at v 0 ≡ true)) ⊎ ((refusal ≡ Down) × (runs_at v 0 ≡ false))

-- there was no memory to step, or for the rows that are told
abbrev pub IsNotGiven : ClusterState → ReqId → ClusterState → Type 0
IsNotGiven v id v' = (v' ≡ v) ⊎ (Takes v (event.Collect 0 id) v' × HasRows (told v'.chronicle id) × (runs_at v' 0 ≡ true))

-- the node runs, and this is told
abbrev pub IsKept : ClusterState → ReqId → Option Answer → Type 0
IsKept v id kept = (told v.chronicle id ≡ kept) × (runs_at v 0 ≡ true)

abbrev pub AnswersFor : ClusterState → ReqId → Option Answer → ClusterState → Type 0
AnswersFor v id None v' = Takes v (event.Collect 0 id) v' × IsKept v' id None
AnswersFor v id (Some answer.Acknowledged) v' = Takes v (event.Collect 0 id) v' × IsKept v' id (Some answer.Acknowledged)
AnswersFor v id (Some (answer.Rows rows more)) v' = Takes v (event.Collect 0 id) v' × IsKept v' id (Some (answer.Rows rows more))
AnswersFor v id (Some (answer.Refused refusal)) v' = Takes v (event.Collect 0 id) v' × IsRefusedBy v' id refusal
AnswersFor v id (Some answer.NoMemory) v' = IsNotGiven v id v'
