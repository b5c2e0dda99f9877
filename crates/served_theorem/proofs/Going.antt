-- A run goes on by what the nodes of a served run did.
use Rattle.std.proofs.Common.{◌≡◌, ℕ, zero, suc, ◌+◌, Option, Some, List, [], ◌∷◌, length, map, refl, sym, ap, subst, ◌∙◌, arith}
use Rattle.std.specs.Prelude.{slice_get}
use Rattle.std.specs.List.{AllZip}
use Rattle.cs_base.proofs.Slots.{some_one}
use Rattle.peer_messages.specs.declared.message.Message.{Message}
use Rattle.peer_messages.specs.declared.setting.Setting.{Setting}
use Rattle.durable_state.specs.State.{Durable, IsSameKept}
use Rattle.durable_state.proofs.Same.{same_on}
use Rattle.node_steps.specs.State.{NodeState, loaded}
use Rattle.node_core.specs.Nodes.{state_with}
use Rattle.node_core.specs.declared.node.Node.{Node}
use Rattle.cluster_runs.specs.World.{World, Standing, Running, start}
use Rattle.cluster_runs.specs.Run.{Run}
use Rattle.read_consistency.specs.Laws.{ReadsAreRight}
use Rattle.reads_forward.specs.Laws.{ReadsGoForward}
use Rattle.answer_causes.specs.Laws.{AnswersAreRight}
use Rattle.lawful_orders.specs.Histories.{AllStepThrough, DeliverTheirOwn, StepsThrough, Taken, running}
use Rattle.lawful_orders.specs.Laws.{ComesTo, HistoriesMerge, LawfulOrdersAreRuns, MergedIsARun, MergedIsLawful, RestartsAreRuns}
use Rattle.lawful_orders.specs.Orders.{IsLawful, Placed}
use Rattle.lawful_orders.specs.Restarts.{AreFound, IsFound}
use Rattle.lawful_orders.proofs.Places.{get_from_map, length_map}
use Rattle.wired_node.specs.States.{Wiring}
use Rattle.wired_node.specs.declared.entry.NodeEntry.{NodeEntry}
use Rattle.wired_histories.specs.Laws.{HistoriesAreSteps}
use Rattle.wired_histories.specs.Told.{node_state, taken_in}
use Rattle.served_nodes.specs.declared.node.NodeLeft.{NodeLeft}
use Rattle.served_stores.specs.Loading.{AreTakenFrom, IsLoaded, IsTaken, Keeper}
use Rattle.served_stores.specs.Shown.{Shown}
use Rattle.served_run.specs.declared.desk.Desk.{Desk}
use Rattle.served_run.specs.declared.host.Host.{Host}
use Rattle.served_cluster.specs.declared.ending.ServedRun.{ServedRun}
use Rattle.served_cluster.specs.Kinds.{ReplicaKind, DoorKind, StreamKind, keeper_of}
use Rattle.served_cluster.specs.Served.{AreHomeFrom, EndsWell, IsHome, IsServed}
use Rattle.served_theorem.specs.Left.{histories_of, states_of, HoldWhatIsLeft}
use Rattle.served_theorem.specs.Runs.{GoesOnBy, HoldsOf, IsServedRun}
use Rattle.served_theorem.proofs.Counts.{run_nodes}
use Rattle.served_theorem.proofs.Lists.{all_at}
use Rattle.served_theorem.proofs.Places.{as_many_left, placed}

zip_from : {A B : Type 0} (P : A → B → Type 0) (xs : List A) (ys : List B) → length xs ≡ length ys → ((k : ℕ) (x : A) (y : B) → slice_get xs k ≡ Some x → slice_get ys k ≡ Some y → P x y) → AllZip P xs ys
zip_from P [] [] long each = tt
zip_from P [] (y ∷ ys) long each = absurd (omega (arith, long))
zip_from P (x ∷ xs) [] long each = absurd (omega (arith, long))
zip_from P (x ∷ xs) (y ∷ ys) long each = (each 0 x y refl refl, zip_from P xs ys (omega (arith, long)) (λ k a b at bt. each (suc k) a b at bt))

-- what three theorems say of all runs
pub record AllRunsHold : Type 0 where
  pub reads : ReadsAreRight
  pub forward : ReadsGoForward
  pub causes : AnswersAreRight

pub holds_of : AllRunsHold → (c : Setting) (w : World) → Run c w → HoldsOf c w
holds_of all c w run = record { run = run; reads = all.reads c w run; forward = all.forward c w run; causes = all.causes c w run }

-- ---- each node at its number

-- P holds of each item with its number, from n on
abbrev AllNumbered : {X : Type 0} → (ℕ → X → Type 0) → ℕ → List X → Type 0
AllNumbered P n [] = Unit {0}
AllNumbered P n (x ∷ xs) = P n x × AllNumbered P (n + 1) xs

numbered_at : {X : Type 0} (P : ℕ → X → Type 0) (n : ℕ) (xs : List X) → AllNumbered P n xs → (k : ℕ) (x : X) → slice_get xs k ≡ Some x → P (n + k) x
numbered_at P n [] all k x at = cc
numbered_at {X} P n (y ∷ ys) all zero x at = let same : n ≡ n + 0 = omega arith in subst (λ (j : ℕ). P j x) same (subst (λ (z : X). P n z) (some_one at) all.0)
numbered_at P n (y ∷ ys) all (suc k) x at = let same : (n + 1) + k ≡ n + suc k = omega arith in subst (λ (j : ℕ). P j x) same (numbered_at P (n + 1) ys all.1 k x at)

all_taken : {R K : Type 0} (m : Keeper R) (c : Setting) (n : ℕ) (nodes : List (Node R K)) (old new : Shown) → AreTakenFrom m c n nodes old new → AllNumbered (λ (j : ℕ) (x : Node R K). IsTaken m c j old new x.core x.replica) n nodes
all_taken m c n [] old new taken = tt
all_taken m c n (x ∷ xs) old new taken = (taken.0, all_taken m c (n + 1) xs old new taken.1)

all_home : {R D : Type 0} (r : ReplicaKind R) (n : ℕ) (left : List (NodeLeft (Wiring R) D NodeEntry)) (old new : Shown) → AreHomeFrom r n left old new → AllNumbered (λ (j : ℕ) (x : NodeLeft (Wiring R) D NodeEntry). IsHome r j x old new) n left
all_home r n [] old new home = tt
all_home r n (x ∷ xs) old new home = (home.0, all_home r (n + 1) xs old new home.1)

home_at : {R D : Type 0} (r : ReplicaKind R) (left : List (NodeLeft (Wiring R) D NodeEntry)) (old new : Shown) → AreHomeFrom r 0 left old new → (k : ℕ) (x : NodeLeft (Wiring R) D NodeEntry) → slice_get left k ≡ Some x → IsHome r k x old new
home_at {R} {D} r left old new home k x at =
    let same : 0 + k ≡ k = omega arith in
    subst (λ (j : ℕ). IsHome r j x old new) same (numbered_at (λ (j : ℕ) (y : NodeLeft (Wiring R) D NodeEntry). IsHome r j y old new) 0 left (all_home r 0 left old new home) k x at)

loaded_at : {R K : Type 0} (m : Keeper R) (c : Setting) (nodes : List (Node R K)) (old new : Shown) → AreTakenFrom m c 0 nodes old new → (k : ℕ) (node : Node R K) → slice_get nodes k ≡ Some node → IsLoaded m c k (old.holds k) node.core node.replica
loaded_at {R} {K} m c nodes old new taken k node at =
    let same : 0 + k ≡ k = omega arith in
    (subst (λ (j : ℕ). IsTaken m c j old new node.core node.replica) same
    (numbered_at (λ (j : ℕ) (x : Node R K). IsTaken m c j old new x.core x.replica) 0 nodes (all_taken m c 0 nodes old new taken) k node at)).loaded

-- ---- a served run

module _ {R D L C S T : Type 0} (W G K : Type 0) (r : ReplicaKind R) (d : DoorKind D L) (gives : C → ℕ → Type 0) (s : StreamKind S T) (host : Host W C G) (desk : Desk S T) (counted : Type 0)
    (c : Setting) (old new : Shown) (result : ServedRun S T) (full : Option ℕ)
    (all_steps : HistoriesAreSteps r.is_honest r.stands_for r.durable r.log_end r.since_flush r.disk r.faults)
    (alone : (files : ℕ → List ℕ) (a b : Durable) → r.stands_for files a → r.stands_for files b → IsSameKept a b)
    (served : IsServed K r d gives s host desk counted c old new result full) (honest : r.is_honest) where
  -- what the nodes were loaded with
  abbrev found : List Durable
  found = map (λ (n : Node R K). r.durable n.replica) served.nodes

  abbrev ends : List NodeState
  ends = states_of r.durable served.served.served.left

  many_left : length served.served.served.left ≡ length served.nodes
  many_left = as_many_left r d gives s host desk counted served.nodes served.served.doors served.out new result full served.served.served served.served.count

  are_found : (earlier : World) → Run c earlier → HoldWhatIsLeft r.stands_for earlier.standing old.holds → AreFound earlier.standing found
  are_found earlier run held =
      zip_from IsFound earlier.standing found (run_nodes c earlier run ∙ sym served.count ∙ sym (length_map (λ (n : Node R K). r.durable n.replica) served.nodes))
      (λ k x b x_at b_at.
      let node = get_from_map (λ (n : Node R K). r.durable n.replica) served.nodes k b b_at in
      subst (λ (e : Durable). IsFound x e) node.2
      (held k x x_at (r.durable node.0.replica) ((loaded_at (keeper_of r) c served.nodes old served.out served.loaded k node.0 node.1).found honest)))

  in_stores : (k : ℕ) (b : Durable) → slice_get found k ≡ Some b → r.stands_for (old.holds k) b
  in_stores k b at =
      let node = get_from_map (λ (n : Node R K). r.durable n.replica) served.nodes k b at in
      subst (λ (e : Durable). r.stands_for (old.holds k) e) node.2 ((loaded_at (keeper_of r) c served.nodes old served.out served.loaded k node.0 node.1).found honest)

  -- ---- the steps of each node

  one_through : (k : ℕ) (node : Node R K) (w : Wiring R) (senders : _) (history : List Taken) (last : NodeState) → IsLoaded (keeper_of r) c k (old.holds k) node.core node.replica
      → w ≡ record { core = node.core; replica = node.replica; senders = senders; answers = [] } → StepsThrough w.core.setting w.core.me (node_state r.durable w) history last
      → StepsThrough c k (loaded (r.durable node.replica)) history last
  one_through k node w senders history last l is steps =
      let there : StepsThrough node.core.setting node.core.me (state_with node.core (r.durable node.replica)) history last =
      subst (λ (v : Wiring R). StepsThrough v.core.setting v.core.me (node_state r.durable v) history last) is steps in
      subst (λ (st : NodeState). StepsThrough c k st history last) (l.state honest)
      (subst (λ (j : ℕ). StepsThrough c j (state_with node.core (r.durable node.replica)) history last) l.me
      (subst (λ (e : Setting). StepsThrough e node.core.me (state_with node.core (r.durable node.replica)) history last) l.setting_is there))

  each_through : (k : ℕ) (st st' : NodeState) (history : List Taken) → slice_get (map loaded found) k ≡ Some st → slice_get (histories_of served.served.served.left) k ≡ Some history → slice_get ends k ≡ Some st'
      → StepsThrough c k st history st'
  each_through k st st' history st_at history_at st'_at =
      let x = get_from_map (λ (z : NodeLeft (Wiring R) D NodeEntry). taken_in z.history) served.served.served.left k history history_at in
      let y = get_from_map (λ (z : NodeLeft (Wiring R) D NodeEntry). node_state r.durable z.state) served.served.served.left k st' st'_at in
      let same : y.0 ≡ x.0 = some_one (sym y.1 ∙ x.1) in
      let p = placed r d gives s host desk counted served.nodes served.served.doors served.out new result full served.served.served served.served.count k x.0 x.1 in
      let b = get_from_map loaded found k st st_at in
      let node = get_from_map (λ (n : Node R K). r.durable n.replica) served.nodes k b.0 b.1 in
      let node_is : node.0 ≡ p.node = some_one (sym node.1 ∙ p.node_at) in
      let gone = (all_at EndsWell served.served.served.left k x.0 served.served.served.well x.1).gone in
      let through = all_steps p.part.state x.0.state x.0.history p.replays honest gone in
      let here : StepsThrough c k (loaded (r.durable p.node.replica)) (taken_in x.0.history) (node_state r.durable x.0.state) =
      one_through k p.node p.part.state p.links.senders.items (taken_in x.0.history) (node_state r.durable x.0.state) (loaded_at (keeper_of r) c served.nodes old served.out served.loaded k p.node p.node_at) p.state through.steps in
      let start_is : loaded (r.durable p.node.replica) ≡ st = ap (λ (n : Node R K). loaded (r.durable n.replica)) (sym node_is) ∙ ap (λ (e : Durable). loaded e) node.2 ∙ b.2 in
      let end_is : node_state r.durable x.0.state ≡ st' = ap (λ (z : NodeLeft (Wiring R) D NodeEntry). node_state r.durable z.state) (sym same) ∙ y.2 in
      subst (λ (a : NodeState). StepsThrough c k a history st') start_is
      (subst (λ (ts : List Taken). StepsThrough c k (loaded (r.durable p.node.replica)) ts st') x.2
      (subst (λ (z : NodeState). StepsThrough c k (loaded (r.durable p.node.replica)) (taken_in x.0.history) z) end_is here))

  all_through : AllStepThrough c (map loaded found) (histories_of served.served.served.left) ends
  all_through =
      let starts : length (map loaded found) ≡ length served.nodes = length_map loaded found ∙ length_map (λ (n : Node R K). r.durable n.replica) served.nodes in
      record {
        as_many = length_map (λ (z : NodeLeft (Wiring R) D NodeEntry). taken_in z.history) served.served.served.left ∙ many_left ∙ sym starts;
        as_many_ends = length_map (λ (z : NodeLeft (Wiring R) D NodeEntry). node_state r.durable z.state) served.served.served.left ∙ many_left ∙ sym starts;
        each = each_through;
      }

  -- ---- the stores at the end

  is_left : (standing : List Standing) → standing ≡ map running ends → HoldWhatIsLeft r.stands_for standing new.holds
  is_left standing is n x at b stands =
      let state = get_from_map running ends n x (subst (λ (xs : List Standing). slice_get xs n ≡ Some x) is at) in
      let y = get_from_map (λ (z : NodeLeft (Wiring R) D NodeEntry). node_state r.durable z.state) served.served.served.left n state.0 state.1 in
      let home = home_at r served.served.served.left served.out new served.served.served.home n y.0 y.1 in
      let runs = (all_at EndsWell served.served.served.left n y.0 served.served.served.well y.1).runs in
      let stored = home.stands runs honest in
      let kept : IsSameKept (r.durable y.0.state.replica) b = same_on (r.durable y.0.state.replica) stored.kept b stored.one (alone (new.holds n) stored.kept b stored.stands stands) in
      let found_there : IsFound (Running (node_state r.durable y.0.state)) b = kept in
      subst (λ (z : Standing). IsFound z b) (ap running y.2 ∙ state.2) found_there

  goes_on : AllRunsHold → (begun : World) (order : List Placed) → ComesTo c (start c) begun order ends → GoesOnBy r.stands_for c begun order ends new.holds
  goes_on hold begun order comes = record {
    last = comes.last;
    through = comes.through;
    standing = comes.standing;
    true_of = holds_of hold c comes.last comes.run;
    left = is_left comes.last.standing comes.standing;
  }

  pub is_served_run : AllRunsHold → RestartsAreRuns → LawfulOrdersAreRuns → HistoriesMerge → MergedIsLawful → MergedIsARun → DeliverTheirOwn (histories_of served.served.served.left)
      → (earlier : World) → Run c earlier → HoldWhatIsLeft r.stands_for earlier.standing old.holds
      → IsServedRun r.stands_for c earlier old.holds (histories_of served.served.served.left) ends new.holds
  is_served_run hold restart lawful merge merged_lawful merged_run own earlier run held =
      let restarted = restart c (start c) earlier found run (are_found earlier run held) in
      record {
        found = found;
        begun = restarted.0;
        restarted = restarted.1;
        in_stores = in_stores;
        lawful = λ order is_order is_lawful.
            goes_on hold restarted.0 order
            (lawful c (start c) restarted.0 (map loaded found) ends (histories_of served.served.served.left) order restarted.2 restarted.1.standing all_through is_order
            (subst (λ (ms : List Message). IsLawful ms order) (sym restarted.1.sent) is_lawful));
        merged = λ order is_merged. (
          merged_lawful c (map loaded found) ends (histories_of served.served.served.left) order [] all_through own is_merged,
          goes_on hold restarted.0 order
              (merged_run c (start c) restarted.0 (map loaded found) ends (histories_of served.served.served.left) order restarted.2 restarted.1.standing all_through own is_merged),
        );
        there = merge c (map loaded found) ends (histories_of served.served.served.left) all_through;
      }
