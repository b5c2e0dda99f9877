-- What a step keeps: one entry of a log.
use Rattle.std.specs.Prelude.{ℕ, ◌==◌, if◌then◌else◌, Option, Some, None, List, [], ◌∷◌, ◌++◌, map, flat_map}
use Rattle.cs_base.specs.declared.ids.ReqId.{ReqId}
use Rattle.changes.specs.Drafts.{mutation_of}
use Rattle.row_change.specs.declared.entry.Hint as hint
use Rattle.row_change.specs.declared.entry.LogItem.{LogItem}
use Rattle.row_change.specs.declared.entry.LogItem.TheVariants.{Data, HintAdd, HintGone, Ceiling}
use Rattle.peer_messages.specs.declared.chronicle.Refusal.{Refusal}
use Rattle.peer_messages.specs.declared.event.Plan.{Plan}
use Rattle.peer_messages.specs.declared.event.Plan.TheVariants as plan
use Rattle.peer_messages.specs.declared.message.Body.{Body}
use Rattle.peer_messages.specs.declared.message.Body.TheVariants.{Write, WriteAck, Read, ReadReply, Mend, MendAck, Hint, HintAck}
use Rattle.peer_messages.specs.declared.setting.Setting.{Setting}
use Rattle.node_steps.specs.State.{NodeState, OpenWrite}
use Rattle.node_steps.specs.Effects.{open_at}
use Rattle.node_steps.specs.Hints.{KeptHints, hints_in, is_kept, pushed_hints}
use Rattle.node_steps.specs.Fitting.{write_fits}
use Rattle.node_steps.specs.Writes.{unheard}
use Rattle.node_steps.specs.Requests.{refusal_of, hinted_at}
use Rattle.node_steps.specs.Replicas.{Asker}
use Rattle.node_steps.specs.Acts.{Act, Rises, Hears, Asks, Marks, DeadlineComes, HintExpires, Deed, is_old, asker_of, request_at}

-- ---- changes that are taken in

abbrev pub data_of : Setting → ℕ → Body → List LogItem
data_of c arrival (Write m) = Data arrival m ∷ []
data_of c arrival WriteAck = []
data_of c arrival (Read q) = []
data_of c arrival (ReadReply content) = []
data_of c arrival (Mend m) = if write_fits c m then Data arrival m ∷ [] else []
data_of c arrival MendAck = []
data_of c arrival (Hint number m) = Data arrival m ∷ []
data_of c arrival (HintAck number) = []

-- of a move in a step that rose to this time: they arrive then
abbrev pub data_by : Setting → ℕ → Act → List LogItem
data_by c risen (Hears m) = if is_old c risen m.born then [] else data_of c risen m.body
data_by c risen (Rises t) = []
data_by c risen (Asks ask) = []
data_by c risen (Marks peer up) = []
data_by c risen (DeadlineComes id) = []
data_by c risen (HintExpires peer number) = []

-- ---- hints that come

abbrev pub hints_of_plan : Setting → ReqId → Plan → Option Refusal → NodeState → List hint.Hint
hints_of_plan c id p (Some refusal) s = []
hints_of_plan c id (plan.Write draft) None s = pushed_hints (hinted_at c s draft) id.time (mutation_of id draft) (hints_in s)
hints_of_plan c id (plan.Read q columns) None s = []
hints_of_plan c id (plan.Use keyspace) None s = []
hints_of_plan c id (plan.Invalid fault) None s = []

abbrev pub hints_at_end : Setting → ReqId → Option OpenWrite → NodeState → List hint.Hint
hints_at_end c id None s = []
hints_at_end c id (Some w) s = pushed_hints (unheard c w) id.time w.mutation (hints_in s)

-- of a move of node me from this state
abbrev pub hints_by : Setting → ℕ → NodeState → Act → List hint.Hint
hints_by c me s (Asks ask) = hints_of_plan c (request_at me s.risen) ask.plan (refusal_of c s (request_at me s.risen) ask.plan ask.level) s
hints_by c me s (DeadlineComes id) = hints_at_end c id (open_at s.writes id) s
hints_by c me s (Rises t) = []
hints_by c me s (Hears m) = []
hints_by c me s (Marks peer up) = []
hints_by c me s (HintExpires peer number) = []

-- ---- and hints that go

pub record Gone : Type 0 where
  pub peer : ℕ
  pub number : ℕ

abbrev pub gone_if_kept : KeptHints → ℕ → ℕ → List Gone
gone_if_kept k peer number = if is_kept k peer number then record { peer = peer; number = number } ∷ [] else []

abbrev pub gone_by_body : Asker → Body → NodeState → List Gone
gone_by_body a (HintAck number) s = gone_if_kept (hints_in s) a.from number
gone_by_body a (Write m) s = []
gone_by_body a WriteAck s = []
gone_by_body a (Read q) s = []
gone_by_body a (ReadReply content) s = []
gone_by_body a (Mend m) s = []
gone_by_body a MendAck s = []
gone_by_body a (Hint number m) s = []

abbrev pub gone_by : Setting → NodeState → Act → List Gone
gone_by c s (Hears m) = if is_old c s.risen m.born then [] else gone_by_body (asker_of m) m.body s
gone_by c s (HintExpires peer number) = gone_if_kept (hints_in s) peer number
gone_by c s (Rises t) = []
gone_by c s (Asks ask) = []
gone_by c s (Marks peer up) = []
gone_by c s (DeadlineComes id) = []

-- ---- the entry

abbrev pub data_in : Setting → Deed → List LogItem
data_in c d = data_by c d.before.risen d.act

abbrev pub hints_made : Setting → Deed → List hint.Hint
hints_made c d = hints_by c d.node d.before d.act

abbrev pub hints_gone : Setting → Deed → List Gone
hints_gone c d = gone_by c d.before d.act

abbrev pub add_item : hint.Hint → LogItem
add_item h = HintAdd h

abbrev pub gone_item : Gone → LogItem
gone_item x = HintGone x.peer x.number

-- a ceiling that is raised
abbrev pub ceiling_in : ℕ → ℕ → List LogItem
ceiling_in before after = if before == after then [] else Ceiling after ∷ []

-- these hints come and go
abbrev pub hint_items : List hint.Hint → List Gone → List LogItem
hint_items made gone = map add_item made ++ map gone_item gone

-- The entry of a step from s by these deeds to s', kind by kind: the changes that it takes in, the hints that come and those that
-- go, each as it took them, and its new ceiling. Without an item nothing is kept
abbrev pub entry_of : Setting → NodeState → List Deed → NodeState → List LogItem
entry_of c s deeds s' = flat_map (data_in c) deeds ++ (hint_items (flat_map (hints_made c) deeds) (flat_map (hints_gone c) deeds) ++ ceiling_in s.ceiling s'.ceiling)
