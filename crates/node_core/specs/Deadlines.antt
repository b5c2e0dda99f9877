-- How a step takes what is due.
use Rattle.std.specs.Prelude.{◌≡◌, ◌⊎◌, ◌++◌, ◌-◌, if◌then◌else◌, Option, Some, None, List, [], ◌∷◌, Contains}
use Rattle.cs_base.specs.declared.ids.ReqId.{ReqId}
use Rattle.durable_state.specs.State.{Durable}
use Rattle.node_steps.specs.State.{OpenWrite, OpenRead}
use Rattle.node_steps.specs.Writes.{write_told, unheard}
use Rattle.node_steps.specs.Reads.{timeout_of}
use Rattle.node_core.specs.declared.base.Base.{Base}
use Rattle.node_core.specs.declared.due.DueKind.TheVariants.{Deadline}
use Rattle.node_core.specs.declared.due.DueKey.{DueKey}
use Rattle.node_core.specs.declared.work.Given.{Given}
use Rattle.node_core.specs.declared.work.Work.{Work}
use Rattle.node_core.specs.Asking.{IsUnmoved}
use Rattle.node_core.specs.Due.{act_by}
use Rattle.node_core.specs.Hinting.{Stage, at, LeavesHints}
use Rattle.node_core.specs.Moving.{EndsOne}
use Rattle.node_core.specs.Working.{IsSound}

-- ---- one request

-- the write is told so, leaves hints, and ends
pub record EndsWrite (b : Base) (id : ReqId) (o : OpenWrite) (x : Stage) (g : Given) (x' : Stage) : Type 0 where
  pub sends : g.sends ≡ []
  pub entries : g.entries ≡ write_told b.setting id o
  pub mid : Stage
  pub leaves : LeavesHints (unheard b.setting o) id.time o.mutation x mid
  pub ends : x' ≡ at (record mid.work { ended_writes = x.work.ended_writes ++ id ∷ []; unanswered = x.work.unanswered - (if o.answered then 0 else 1) }) mid.hints

-- the read is told so, and ends
pub record EndsRead (b : Base) (id : ReqId) (r : OpenRead) (w : Work) (g : Given) (w' : Work) : Type 0 where
  pub sends : g.sends ≡ []
  pub entries : g.entries ≡ (timeout_of b.setting id r).entries
  pub ends : w' ≡ record w { ended_reads = w.ended_reads ++ id ∷ []; open_reads = w.open_reads - 1 }

abbrev pub EndsRequest : Base → ReqId → Option OpenWrite → Option OpenRead → Stage → Given → Stage → Type 0
EndsRequest b id (Some o) r x g x' = EndsWrite b id o x g x'
EndsRequest b id None (Some r) x g x' = EndsRead b id r x.work g x'.work × (x'.hints ≡ x.hints)
EndsRequest b id None None x g x' = (g.sends ≡ []) × (g.entries ≡ []) × (x' ≡ x)

-- the step has not ended it
pub record IsNext (id : ReqId) (w : Work) : Type 0 where
  pub writes : (e : ReqId) → Contains w.ended_writes e → e ≡ id → ⊥
  pub reads : (e : ReqId) → Contains w.ended_reads e → e ≡ id → ⊥

-- ---- what is due

abbrev pub IsNextDue : DueKey → Work → Type 0
IsNextDue k w = k.kind ≡ Deadline → IsNext k.request w

-- of these requests each was there before, or its deadline is this
abbrev pub EndedBy : DueKey → List ReqId → List ReqId → Type 0
EndedBy k ids ids' = (e : ReqId) → Contains ids' e → Contains ids e ⊎ ((k.kind ≡ Deadline) × (e ≡ k.request))

pub record EndsDue (b : Base) (k : DueKey) (x x' : Stage) : Type 0 where
  pub one : (d : Durable) → EndsOne b d x (act_by k) x'
  pub sound : IsSound b x'.work
  pub unmoved : IsUnmoved x'.work
  pub writes : EndedBy k x.work.ended_writes x'.work.ended_writes
  pub reads : EndedBy k x.work.ended_reads x'.work.ended_reads
  pub time : x'.work.time ≡ x.work.time
  pub ceiling : x'.work.ceiling ≡ x.work.ceiling
  pub request : x'.work.request ≡ x.work.request
