-- The nodes of a run are those of the ring, and what they sent fits where it comes to.
use Rattle.std.proofs.Common.{◌≡◌, ℕ, zero, suc, ◌<◌, inl, inr, Bool, true, Option, Some, None, List, [], ◌∷◌, length, refl, sym, ap, subst, ◌∙◌, arith, Contains}
use Rattle.std.specs.Prelude.{◌==◌, slice_get, slice_set, replicate, IsTrue}
use Rattle.std.proofs.lemmas.Bool.{eq-eqb, lt-ltb}
use Rattle.std.proofs.lemmas.List.Elements.{Contains-append_cases}
use Rattle.cs_base.proofs.Members.{contains_nil, contains_filter, contains_from_filter}
use Rattle.cs_base.proofs.Slots.{get_set}
use Rattle.changes.specs.declared.Held.{Held}
use Rattle.changes.specs.declared.Mutation.{Mutation}
use Rattle.row_change.specs.declared.entry.Hint.{Hint}
use Rattle.peer_messages.specs.declared.chronicle.Entry.{Entry}
use Rattle.peer_messages.specs.declared.message.Body.TheVariants.{ReadReply, Mend}
use Rattle.peer_messages.specs.declared.message.Message.{Message}
use Rattle.peer_messages.specs.declared.event.Event.{Event}
use Rattle.peer_messages.specs.declared.setting.Setting.{Setting}
use Rattle.durable_state.specs.State.{Durable, IsSameKept, hints_of}
use Rattle.node_steps.specs.State.{NodeState, loaded, fresh_node}
use Rattle.node_steps.specs.Fitting.{is_node, changes_fit, mutation_fits, write_fits, message_fits}
use Rattle.node_steps.specs.Holding.{HoldsFit}
use Rattle.node_steps.specs.Stops.{remains_in}
use Rattle.node_steps.proofs.Written.{held_written, sent_written}
use Rattle.cluster_runs.specs.World.{World, Standing, Running, Down, Made, state_of, left_by, start}
use Rattle.cluster_runs.specs.Run.{RunFrom, ClusterStep, IsMade, StoppedStep, Stop, Load}
use Rattle.cluster_runs.specs.Run.RunFrom.{begun, more, stopped_in, stopped, load, load_failed, turned}
use Rattle.cluster_runs.specs.Laws.{WhatWasSentFits}
use Rattle.cluster_runs.proofs.Lists.{all_same}

got_below : {X : Type 0} (xs : List X) (k : ℕ) (x : X) → slice_get xs k ≡ Some x → k < length xs
got_below [] k x h = cc
got_below (y ∷ ys) zero x h = omega arith
got_below (y ∷ ys) (suc k) x h = let below = got_below ys k x h in omega (arith, below)

set_length : {X : Type 0} (xs : List X) (k : ℕ) (v : X) → length (slice_set xs k v) ≡ length xs
set_length [] k v = refl
set_length (y ∷ ys) zero v = refl
set_length (y ∷ ys) (suc k) v = ap suc (set_length ys k v)

same_length : {X : Type 0} (n : ℕ) (x : X) → length (replicate n x) ≡ n
same_length zero x = refl
same_length (suc n) x = ap suc (same_length n x)

abbrev FitsThere : Setting → Message → Type 0
FitsThere c m =
    ((content : List Held) → m.body ≡ ReadReply content → IsTrue (changes_fit content)) → ((merged : Mutation) → m.body ≡ Mend merged → IsTrue (write_fits c merged)) → IsTrue (message_fits c m.upto m)

-- what a node keeps in its store can be written
abbrev KeepsFit : Durable → Type 0
KeepsFit d = (h : Hint) → Contains d.hints h → IsTrue (mutation_fits h.mutation)

-- what a node holds, and what its store has
record StandsFit (x : Standing) : Type 0 where
  pub held : HoldsFit (state_of x)
  pub stored : (s : NodeState) (made : Option Made) → x ≡ Down s made → KeepsFit (left_by s made)

record AllFit (c : Setting) (w : World) : Type 0 where
  pub nodes : length w.standing ≡ length c.ring
  pub stand : (k : ℕ) (x : Standing) → slice_get w.standing k ≡ Some x → StandsFit x
  pub sent : (m : Message) → Contains w.sent m → FitsThere c m

running_not : (s r : NodeState) (made : Option Made) → Running s ≡ Down r made → ⊥
running_not s r made e = cc

running_fits : (s : NodeState) → HoldsFit s → StandsFit (Running s)
running_fits s held = record { held = held; stored = λ r made e. absurd (running_not s r made e) }

down_parts : (s r : NodeState) (m n : Option Made) → Down s m ≡ Down r n → (s ≡ r) × (m ≡ n)
down_parts s r m n e = (cc, cc)

down_fits : (s : NodeState) (made : Option Made) → HoldsFit s → KeepsFit (left_by s made) → StandsFit (Down s made)
down_fits s made held kept = record {
  held = held;
  stored = λ r m e. let both = down_parts s r made m e in subst (λ (x : Option Made). KeepsFit (left_by r x)) both.1 (subst (λ (x : NodeState). KeepsFit (left_by x made)) both.0 kept);
}

-- a hint stands among those of its peer
same_there : (a b : Durable) → IsSameKept a b → KeepsFit a → KeepsFit b
same_there a b same fit h there =
    let mine : Contains (hints_of b.hints h.peer) h = contains_filter (λ x. x.peer == h.peer) b.hints h there (eq-eqb h.peer h.peer refl) in
    fit h (contains_from_filter (λ x. x.peer == h.peer) a.hints h (subst (λ (hs : List Hint). Contains hs h) (same.hints h.peer) mine)).0

loaded_fits : (d : Durable) → KeepsFit d → HoldsFit (loaded d)
loaded_fits d fit = record { writes = λ id w there. absurd (contains_nil (id, w) there); hints = fit }

stands_on : (w : World) (k : ℕ) (x : Standing) → ((j : ℕ) (y : Standing) → slice_get w.standing j ≡ Some y → StandsFit y) → StandsFit x → (j : ℕ) (y : Standing) → slice_get (slice_set w.standing k x) j ≡ Some y → StandsFit y
stands_on w k x before fit j y at = elim (get_set w.standing k x j y at) [
  | inl (here, is) ↦ subst (λ (z : Standing). StandsFit z) (sym is) fit
  | inr (away, old) ↦ before j y old
]

-- where one node comes to stand otherwise, and nothing is sent
fits_on : (c : Setting) (w w' : World) (k : ℕ) (x : Standing) → AllFit c w → StandsFit x → w'.standing ≡ slice_set w.standing k x → w'.sent ≡ w.sent → AllFit c w'
fits_on c w w' k x h fit standing sent = record {
  nodes = ap (λ (xs : List Standing). length xs) standing ∙ set_length w.standing k x ∙ h.nodes;
  stand = λ j y at. stands_on w k x h.stand fit j y (subst (λ (xs : List Standing). slice_get xs j ≡ Some y) standing at);
  sent = λ m there. h.sent m (subst (λ (ms : List Message). Contains ms m) sent there);
}

fits_same : (c : Setting) (w w' : World) → AllFit c w → w'.standing ≡ w.standing → w'.sent ≡ w.sent → AllFit c w'
fits_same c w w' h standing sent = record {
  nodes = ap (λ (xs : List Standing). length xs) standing ∙ h.nodes;
  stand = λ j y at. h.stand j y (subst (λ (xs : List Standing). slice_get xs j ≡ Some y) standing at);
  sent = λ m there. h.sent m (subst (λ (ms : List Message). Contains ms m) sent there);
}

fits_step : (c : Setting) (w w' : World) (k : ℕ) (e : Event) → AllFit c w → ClusterStep c w k e w' → AllFit c w'
fits_step c w w' k e h step =
    let below = got_below w.standing k (Running step.before) step.at in
    let nodes = h.nodes in
    let mine : is_node c k ≡ true = lt-ltb k (length c.ring) (omega (arith, below, nodes)) in
    let held = (h.stand k (Running step.before) step.at).held in
    let standing : w'.standing ≡ slice_set w.standing k (Running step.after) = ap (λ (v : World). v.standing) step.world in
    record {
      nodes = ap (λ (xs : List Standing). length xs) standing ∙ set_length w.standing k (Running step.after) ∙ h.nodes;
      stand = λ j y at.
          stands_on w k (Running step.after) h.stand (running_fits step.after (held_written c k step.before e step.deeds step.outputs step.after step.step held)) j y (subst (λ (xs : List Standing). slice_get xs j ≡ Some y) standing at);
      sent = λ m there. elim (Contains-append_cases w.sent step.outputs.sends m (subst (λ (v : World). Contains v.sent m) step.world there)) [
        | inl old ↦ h.sent m old
        | inr new ↦ sent_written c k step.before e step.deeds step.outputs step.after step.step mine held m new
      ];
    }

-- what a stop leaves of a step
made_fits : (c : Setting) (k : ℕ) (s : NodeState) (e : Event) (es : List Entry) (made : Option Made) → HoldsFit s → IsMade c k s e es made → KeepsFit (left_by s made)
made_fits c k s e es None held is = held.hints
made_fits c k s e es (Some m) held (o, step, remain) = (held_written c k s e m.deeds o m.after step held).hints

fits_stopped : (c : Setting) (w w' : World) (k : ℕ) (e : Event) (made : Option Made) (failed : Bool) → AllFit c w → StoppedStep c w k e made failed w' → AllFit c w'
fits_stopped c w w' k e made failed h step =
    let held = (h.stand k (Running step.before) step.at).held in
    fits_on c w w' k (Down step.before made) h (down_fits step.before made held (made_fits c k step.before e (remains_in k step.before e step.deeds) made held step.is_made))
    (ap (λ (v : World). v.standing) step.world) (ap (λ (v : World). v.sent) step.world)

fits_stop : (c : Setting) (w w' : World) (k : ℕ) → AllFit c w → Stop w k w' → AllFit c w'
fits_stop c w w' k h step =
    let held = (h.stand k (Running step.before) step.at).held in
    fits_on c w w' k (Down step.before None) h (down_fits step.before None held held.hints) (ap (λ (v : World). v.standing) step.world) (ap (λ (v : World). v.sent) step.world)

fits_load : (c : Setting) (w w' : World) (k : ℕ) → AllFit c w → Load w k w' → AllFit c w'
fits_load c w w' k h step =
    let stored = (h.stand k (Down step.before step.made) step.at).stored step.before step.made refl in
    fits_on c w w' k (Running (loaded step.found)) h (running_fits (loaded step.found) (loaded_fits step.found (same_there (left_by step.before step.made) step.found step.same stored)))
    (ap (λ (v : World). v.standing) step.world) (ap (λ (v : World). v.sent) step.world)

all_fit : (c : Setting) (first w : World) → AllFit c first → RunFrom c first w → AllFit c w
all_fit c first _ h begun = h
all_fit c first _ h (more w w' k e run step) = fits_step c w w' k e (all_fit c first w h run) step
all_fit c first _ h (stopped_in w w' k e made failed run step) = fits_stopped c w w' k e made failed (all_fit c first w h run) step
all_fit c first _ h (stopped w w' k run step) = fits_stop c w w' k (all_fit c first w h run) step
all_fit c first _ h (load w w' k run step) = fits_load c w w' k (all_fit c first w h run) step
all_fit c first _ h (load_failed w w' k run step) = fits_same c w w' (all_fit c first w h run) (ap (λ (v : World). v.standing) step.world) (ap (λ (v : World). v.sent) step.world)
all_fit c first _ h (turned w w' k run step) = fits_same c w w' (all_fit c first w h run) (ap (λ (v : World). v.standing) step.world) (ap (λ (v : World). v.sent) step.world)

fresh_fits : StandsFit (Running fresh_node)
fresh_fits = running_fits fresh_node (record { writes = λ id w there. absurd (contains_nil (id, w) there); hints = λ h there. absurd (contains_nil h there) })

start_fits : (c : Setting) → AllFit c (start c)
start_fits c = record {
  nodes = same_length (length c.ring) (Running fresh_node);
  stand = λ k x at. subst (λ (y : Standing). StandsFit y) (all_same (length c.ring) (Running fresh_node) k x at) fresh_fits;
  sent = λ m there. absurd (contains_nil m there);
}

pub sent_fits : WhatWasSentFits
sent_fits c w run = (all_fit c (start c) w (start_fits c) run).sent
