-- A lawful order of histories is a run.
use Rattle.std.proofs.Common.{◌≡◌, ◌≢◌, ℕ, suc, ◌<◌, inl, inr, Some, List, [], ◌∷◌, ◌++◌, Contains, length, append_assoc, append-nil, refl, sym, ap, subst, ◌∙◌, arith}
use mathlib.Core.Logic.{dite}
use native.Mathlib.Decide.{ℕ_discrete}
use Rattle.std.specs.Prelude.{slice_get, slice_set, map}
use Rattle.peer_messages.specs.declared.message.Message.{Message}
use Rattle.peer_messages.specs.declared.outcome.Outputs.{Outputs}
use Rattle.peer_messages.specs.declared.setting.Setting.{Setting}
use Rattle.node_steps.specs.State.{NodeState}
use Rattle.node_steps.specs.Steps.{NodeStep}
use Rattle.cluster_runs.specs.World.{World, Standing, Running}
use Rattle.cluster_runs.specs.Run.{RunFrom, WasSent, stepped}
use Rattle.cluster_runs.specs.Run.RunFrom.{more}
use Rattle.cs_base.proofs.Members.{contains_here, contains_there}
use Rattle.cs_base.proofs.Slots.{get_set, set_get, set_other, some_one}
use Rattle.lawful_orders.specs.Histories.{Taken, StepsThrough, AllStepThrough, running}
use Rattle.lawful_orders.specs.Orders.{Placed, history_in, IsOrderOf, IsLawful, Takes, RunsThrough, sent_along}
use Rattle.lawful_orders.specs.Laws.{LawfulOrdersAreRuns, OrdersAreLawful, OrdersGoOn}
use Rattle.lawful_orders.proofs.Orders.{history_here, history_away}
use Rattle.lawful_orders.proofs.Places.{get_below, get_from_map, get_within, length_map, length_set}

-- ---- how far an order has been gone through

-- a node that stands so runs, and what is left of its history leads to its end
record IsAlong (c : Setting) (ends : List NodeState) (order : List Placed) (k : ℕ) (x : Standing) : Type 0 where
  state : NodeState
  last : NodeState
  runs : x ≡ Running state
  at : slice_get ends k ≡ Some last
  through : StepsThrough c k state (history_in k order) last

record AreAlong (c : Setting) (w : World) (ends : List NodeState) (order : List Placed) : Type 0 where
  as_many : length ends ≡ length w.standing
  within : (p : Placed) → Contains order p → p.node < length w.standing
  each : (k : ℕ) (x : Standing) → slice_get w.standing k ≡ Some x → IsAlong c ends order k x

along_here : (c : Setting) (ends : List NodeState) (p : Placed) (ps : List Placed) (last next : NodeState) → slice_get ends p.node ≡ Some last → StepsThrough c p.node next (history_in p.node ps) last
    → (j : ℕ) (x : Standing) → j ≡ p.node → x ≡ Running next → IsAlong c ends ps j x
along_here c ends p ps last next at through j x same is = record {
  state = next;
  last = last;
  runs = is;
  at = subst (λ (i : ℕ). slice_get ends i ≡ Some last) (sym same) at;
  through = subst (λ (i : ℕ). StepsThrough c i next (history_in i ps) last) (sym same) through;
}

along_away : (c : Setting) (ends : List NodeState) (p : Placed) (ps : List Placed) (j : ℕ) (x : Standing) → j ≢ p.node → IsAlong c ends (p ∷ ps) j x → IsAlong c ends ps j x
along_away c ends p ps j x other a = record {
  state = a.state;
  last = a.last;
  runs = a.runs;
  at = a.at;
  through = subst (λ (h : List Taken). StepsThrough c j a.state h a.last) (history_away j p ps (λ e. other (sym e))) a.through;
}

-- the next entry
goes : (c : Setting) (w : World) (ends : List NodeState) (p : Placed) (ps : List Placed) → AreAlong c w ends (p ∷ ps) → WasSent w.sent p.node p.taken.event.what
    → (next : World) × Takes c w p next × AreAlong c next ends ps × (next.sent ≡ w.sent ++ p.taken.outputs.sends)
goes c w ends p ps a sent =
    let there = get_below w.standing p.node (a.within p (contains_here p ps)) in
    let here = a.each p.node there.0 there.1 in
    let steps : StepsThrough c p.node here.state (p.taken ∷ history_in p.node ps) here.last =
    subst (λ (h : List Taken). StepsThrough c p.node here.state h here.last) (history_here p.node p ps refl) here.through in
    let next : World = stepped c w p.node steps.0 p.taken.outputs steps.1 in
    let same : length next.standing ≡ length w.standing = length_set w.standing p.node (Running steps.1) in
    let at : slice_get w.standing p.node ≡ Some (Running here.state) = there.1 ∙ ap (λ (x : Standing). Some x) here.runs in (
      next,
      record {
        step = record { before = here.state; deeds = steps.0; outputs = p.taken.outputs; after = steps.1; at = at; was_sent = sent; step = steps.2; world = refl };
        outputs = refl;
        world = refl;
      },
      record {
        as_many = a.as_many ∙ sym same;
        within = λ q h. subst (λ (n : ℕ). q.node < n) (sym same) (a.within q (contains_there p ps q h));
        each = λ j x h. elim (get_set w.standing p.node (Running steps.1) j x h) [
          | inl (here_too, is) ↦ along_here c ends p ps here.last steps.1 here.at steps.3 j x here_too is
          | inr (away, old) ↦ along_away c ends p ps j x away (a.each j x old)
        ];
      },
      refl,
    )

-- ---- the end

same_running : (xs : List Standing) (ends : List NodeState) → length ends ≡ length xs → ((k : ℕ) (x : Standing) → slice_get xs k ≡ Some x → (s : NodeState) × (x ≡ Running s) × (slice_get ends k ≡ Some s)) → xs ≡ map running ends
same_running [] [] as_many each = refl
same_running [] (s ∷ ss) as_many each = absurd (omega (arith, as_many))
same_running (x ∷ xs) [] as_many each = absurd (omega (arith, as_many))
same_running (x ∷ xs) (s ∷ ss) as_many each =
    let first = each 0 x refl in
    let rest : xs ≡ map running ss = same_running xs ss (omega (arith, as_many)) (λ k y at. each (suc k) y at) in
    (λ i. (first.1 ∙ ap running (sym (some_one first.2))) i ∷ rest i)

all_end : (c : Setting) (w : World) (ends : List NodeState) → AreAlong c w ends [] → w.standing ≡ map running ends
all_end c w ends a = same_running w.standing ends a.as_many (λ k x at. let h = a.each k x at in (h.state, h.runs, h.at ∙ ap (λ (s : NodeState). Some s) (sym h.through)))

-- ---- the whole order

all_go : (c : Setting) (ends : List NodeState) (order : List Placed) (w : World) → AreAlong c w ends order → IsLawful w.sent order
    → (w' : World) × RunsThrough c w order w' × (w'.standing ≡ map running ends) × (w'.sent ≡ w.sent ++ sent_along order)
all_go c ends [] w a lawful = (w, refl, all_end c w ends a, sym (append-nil w.sent))
all_go c ends (p ∷ ps) w a lawful =
    let next = goes c w ends p ps a lawful.0 in
    let rest = all_go c ends ps next.0 next.2 (subst (λ (ms : List Message). IsLawful ms ps) (sym next.3) lawful.1) in (
      rest.0,
      (next.0, next.1, rest.1),
      rest.2,
      rest.3 ∙ ap (λ (ms : List Message). ms ++ sent_along ps) next.3 ∙ append_assoc w.sent p.taken.outputs.sends (sent_along ps),
    )

begin : (c : Setting) (w : World) (starts ends : List NodeState) (histories : List (List Taken)) (order : List Placed) → w.standing ≡ map running starts → AllStepThrough c starts histories ends → IsOrderOf histories order → AreAlong c w ends order
begin c w starts ends histories order standing steps is =
    let many : length w.standing ≡ length starts = ap (λ (xs : List Standing). length xs) standing ∙ length_map running starts in
    record {
      as_many = steps.as_many_ends ∙ sym many;
      within = λ p h. subst (λ (n : ℕ). p.node < n) (steps.as_many ∙ sym many) (is.within p h);
      each = λ k x at.
          let from = get_from_map running starts k x (subst (λ (xs : List Standing). slice_get xs k ≡ Some x) standing at) in
          let below : k < length starts = get_within starts k from.0 from.1 in
          let history = get_below histories k (subst (λ (n : ℕ). k < n) (sym steps.as_many) below) in
          let last = get_below ends k (subst (λ (n : ℕ). k < n) (sym steps.as_many_ends) below) in
          record {
            state = from.0;
            last = last.0;
            runs = sym from.2;
            at = last.1;
            through = subst (λ (h : List Taken). StepsThrough c k from.0 h last.0) (sym (is.each k history.0 history.1)) (steps.each k from.0 last.0 history.0 from.1 history.1 last.1);
          };
    }

pub order_on : OrdersGoOn
order_on c first w w' [] run through = subst (λ (v : World). RunFrom c first v) through run
order_on c first w w' (p ∷ ps) run (next, takes, rest) = order_on c first next w' ps (more w next p.node p.taken.event run takes.step) rest

pub lawful_run : LawfulOrdersAreRuns
lawful_run c first w starts ends histories order run standing steps is lawful =
    let all = all_go c ends order w (begin c w starts ends histories order standing steps is) lawful in
    record { last = all.0; through = all.1; run = order_on c first w all.0 order run all.1; standing = all.2; sent = all.3 }

-- ---- a cluster that went through an order

same_state : (s r : NodeState) → Running s ≡ Running r → s ≡ r
same_state s r e = cc

abbrev WentThrough : Setting → World → World → List Placed → ℕ → NodeState → Type 0
WentThrough c w w' order k s = (s' : NodeState) × (slice_get w'.standing k ≡ Some (Running s')) × StepsThrough c k s (history_in k order) s'

went_here : (c : Setting) (w next w' : World) (p : Placed) (ps : List Placed) (k : ℕ) (s : NodeState) → p.node ≡ k → slice_get w.standing k ≡ Some (Running s) → (takes : Takes c w p next) → WentThrough c next w' ps k takes.step.after
    → WentThrough c w w' (p ∷ ps) k s
went_here c w next w' p ps k s here at takes rest =
    let step = takes.step in
    let before : step.before ≡ s = same_state step.before s (some_one (sym step.at ∙ ap (λ (j : ℕ). slice_get w.standing j) here ∙ at)) in
    let outputs : NodeStep c p.node step.before p.taken.event step.deeds p.taken.outputs step.after = subst (λ (o : Outputs). NodeStep c p.node step.before p.taken.event step.deeds o step.after) takes.outputs step.step in
    let node : NodeStep c k step.before p.taken.event step.deeds p.taken.outputs step.after = subst (λ (j : ℕ). NodeStep c j step.before p.taken.event step.deeds p.taken.outputs step.after) here outputs in
    let state : NodeStep c k s p.taken.event step.deeds p.taken.outputs step.after = subst (λ (r : NodeState). NodeStep c k r p.taken.event step.deeds p.taken.outputs step.after) before node in
    (rest.0, rest.1, subst (λ (ts : List Taken). StepsThrough c k s ts rest.0) (sym (history_here k p ps here)) (step.deeds, step.after, state, rest.2))

went : (c : Setting) (order : List Placed) (w w' : World) (k : ℕ) (s : NodeState) → RunsThrough c w order w' → slice_get w.standing k ≡ Some (Running s) → WentThrough c w w' order k s
went c [] w w' k s through at = (s, subst (λ (v : World). slice_get v.standing k ≡ Some (Running s)) through at, refl)
went c (p ∷ ps) w w' k s (next, takes, rest) at =
    let after : Standing = Running takes.step.after in
    let standing : next.standing ≡ slice_set w.standing p.node after = ap (λ (v : World). v.standing) takes.world in
    dite (ℕ_discrete p.node k)
    (λ here.
    let there : slice_get next.standing k ≡ Some after = ap (λ (xs : List Standing). slice_get xs k) standing ∙ ap (λ (j : ℕ). slice_get (slice_set w.standing j after) k) here ∙ set_get w.standing k (Running s) after at in
    went_here c w next w' p ps k s here at takes (went c ps next w' k takes.step.after rest there))
    (λ away.
    let there : slice_get next.standing k ≡ Some (Running s) = ap (λ (xs : List Standing). slice_get xs k) standing ∙ set_other w.standing p.node after k (Running s) (λ e. away (sym e)) at in
    let more = went c ps next w' k s rest there in
    (more.0, more.1, subst (λ (ts : List Taken). StepsThrough c k s ts more.0) (sym (history_away k p ps away)) more.2))

sent_lawful : (c : Setting) (order : List Placed) (w w' : World) → RunsThrough c w order w' → IsLawful w.sent order
sent_lawful c [] w w' through = tt
sent_lawful c (p ∷ ps) w w' (next, takes, rest) =
    (takes.step.was_sent, subst (λ (ms : List Message). IsLawful ms ps) (ap (λ (v : World). v.sent) takes.world) (sent_lawful c ps next w' rest))

pub order_lawful : OrdersAreLawful
order_lawful c w w' order through = (sent_lawful c order w w' through, λ k s at. went c order w w' k s through at)
