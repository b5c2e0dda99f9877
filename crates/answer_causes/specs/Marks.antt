-- Which nodes a node takes for dead, over the story of a run.
use Rattle.std.specs.Prelude.{◌≡◌, ℕ, ◌==◌, if◌then◌else◌, List, [], ◌∷◌, Contains}
use Rattle.peer_messages.specs.declared.event.Ask.{Ask}
use Rattle.peer_messages.specs.declared.event.Event.{Event}
use Rattle.peer_messages.specs.declared.event.What.{What}
use Rattle.peer_messages.specs.declared.event.What.TheVariants.{Client, Deliver, Alive, Collect, Flush, Tick}
use Rattle.peer_messages.specs.declared.outcome.Outputs.{Outputs}
use Rattle.peer_messages.specs.declared.setting.Setting.{Setting}
use Rattle.peer_messages.specs.Settings.{marked}
use Rattle.node_steps.specs.Fitting.{mark_fits}
use Rattle.node_steps.specs.Acts.{Asks, Deed}
use Rattle.answer_causes.specs.Story.{Happening, Step, Halt, Load, Away}

-- what an event makes of them
abbrev pub marked_by : Setting → ℕ → What → List ℕ → List ℕ
marked_by c k (Alive peer up) down = if mark_fits c k peer then marked down peer up else down
marked_by c k (Client ask) down = down
marked_by c k (Deliver m) down = down
marked_by c k (Collect request) down = down
marked_by c k Flush down = down
marked_by c k Tick down = down

-- the nodes that node k takes for dead: those marked so since it was last loaded
abbrev pub down_at : Setting → ℕ → List Happening → List ℕ
down_at c k [] = []
down_at c k (Step j e deeds o ∷ earlier) = if j == k then marked_by c k e.what (down_at c k earlier) else down_at c k earlier
down_at c k (Halt j ∷ earlier) = if j == k then [] else down_at c k earlier
down_at c k (Load j ∷ earlier) = if j == k then [] else down_at c k earlier
down_at c k (Away j refusal ∷ earlier) = down_at c k earlier

-- a request sees these marks
pub record SeesMarks (c : Setting) (k : ℕ) (e : Event) (deeds : List Deed) (o : Outputs) (earlier : List Happening) : Type 0 where
  pub seen : (d : Deed) (ask : Ask) → Contains deeds d → d.act ≡ Asks ask → d.before.down ≡ down_at c k earlier
