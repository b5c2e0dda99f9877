-- A commit that fails is a stop inside its step.
use Rattle.std.proofs.Common.{◌≡◌, ℕ, inl, inr, List, [], refl, sym, ap, subst}
use Rattle.row_change.specs.declared.entry.LogItem.{LogItem}
use Rattle.peer_messages.specs.declared.event.Event.{Event}
use Rattle.peer_messages.specs.declared.outcome.Outputs.{Outputs}
use Rattle.peer_messages.specs.declared.setting.Setting.{Setting}
use Rattle.durable_state.specs.State.{Durable, IsSameKept}
use Rattle.durable_state.specs.Keeping.{IsWithOrWithout}
use Rattle.node_steps.specs.State.{NodeState, durable_of}
use Rattle.node_steps.specs.Acts.{Deed}
use Rattle.node_steps.specs.Steps.{NodeStep}
use Rattle.cs_base.proofs.Members.{contains_nil}
use Rattle.node_steps.specs.Stops.{remains_of, remains_in, CutStep, MayBeLeft, Leads}

pub failed_stops : (c : Setting) (me : ℕ) (s : NodeState) (e : Event) (o : Outputs) (entry : List LogItem) (d : Durable) → Leads c me s e o entry → IsWithOrWithout entry (durable_of s) d → MayBeLeft c me s e (remains_of o) d
failed_stops c me s e o entry d leads (inl same) = inl same
failed_stops c me s e o entry d leads (inr (after, commits, same)) =
    let step = leads after commits in
    inr (record { deeds = step.0; outputs = o; after = step.1; step = step.2; remain = refl; kept = subst (λ (x : Durable). IsSameKept x d) (sym step.3) same })

pub step_is_cut : (c : Setting) (me : ℕ) (s : NodeState) (e : Event) (deeds : List Deed) (o : Outputs) (s' : NodeState) → NodeStep c me s e deeds o s' → CutStep c me s e deeds × (remains_of o ≡ remains_in me s e deeds)
step_is_cut c me s e deeds o s' step = (
  record { reached = s'; pending = []; left = []; due = step.due; are_due = step.are_due; moves = step.moves; taken = λ ask h. contains_nil _ h },
  ap remains_of step.outputs,
)
