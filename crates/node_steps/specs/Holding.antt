-- Whether what a node holds for later can be written in a log.
use Rattle.std.specs.Prelude.{Contains, IsTrue}
use Rattle.cs_base.specs.declared.ids.ReqId.{ReqId}
use Rattle.row_change.specs.declared.entry.Hint.{Hint}
use Rattle.node_steps.specs.Fitting.{mutation_fits}
use Rattle.node_steps.specs.State.{NodeState, OpenWrite}

-- the mutations of its open writes and of its hints can
pub record HoldsFit (s : NodeState) : Type 0 where
  pub writes : (id : ReqId) (w : OpenWrite) → Contains s.writes (id, w) → IsTrue (mutation_fits w.mutation)
  pub hints : (h : Hint) → Contains s.hints h → IsTrue (mutation_fits h.mutation)
