-- Nodes that are stopped and loaded, one after another.
use Rattle.std.proofs.Common.{◌≡◌, ℕ, ◌+◌, inl, inr, Some, None, List, [], ◌∷◌, ◌++◌, length, append_assoc, refl, sym, ap, subst, ◌∙◌, arith}
use Rattle.std.specs.Prelude.{slice_get, slice_set, map}
use Rattle.std.proofs.lemmas.List.{length-append}
use Rattle.peer_messages.specs.declared.setting.Setting.{Setting}
use Rattle.durable_state.specs.State.{Durable, IsSameKept}
use Rattle.node_steps.specs.State.{loaded}
use Rattle.cluster_runs.specs.World.{World, Standing, Running, Down}
use Rattle.cluster_runs.specs.Run.{RunFrom}
use Rattle.cluster_runs.specs.Run.RunFrom.{stopped, load}
use Rattle.cs_base.proofs.Slots.{set_get, set_set}
use Rattle.lawful_orders.specs.Histories.{running}
use Rattle.lawful_orders.specs.Restarts.{stored_by, AreFound, ComesDown, Restarts, RestartFrom}
use Rattle.lawful_orders.specs.Laws.{RestartsAreRuns}
use Rattle.lawful_orders.proofs.Places.{front_get, front_set}

-- ---- one node

record Restarted (w : World) (k : ℕ) (d : Durable) : Type 0 where
  next : World
  restarts : Restarts w k d next
  standing : next.standing ≡ slice_set w.standing k (Running (loaded d))
  sent : next.sent ≡ w.sent
  chronicle : next.chronicle ≡ w.chronicle

restart_one : (w : World) (k : ℕ) (x : Standing) (d : Durable) → slice_get w.standing k ≡ Some x → IsSameKept (stored_by x) d → Restarted w k d
restart_one w k (Running s) d at same =
    let off : World = record w { standing = slice_set w.standing k (Down s None) } in
    let next : World = record off { standing = slice_set off.standing k (Running (loaded d)) } in
    record {
      next = next;
      restarts = record {
        off = off;
        comes_down = inl (record { before = s; at = at; world = refl });
        load = record { before = s; made = None; found = d; at = set_get w.standing k (Running s) (Down s None) at; same = same; world = refl };
        found_is = refl;
      };
      standing = set_set w.standing k (Down s None) (Running (loaded d));
      sent = refl;
      chronicle = refl;
    }
restart_one w k (Down s made) d at same = record {
  next = _;
  restarts = record {
    off = w;
    comes_down = inr (record { before = s; made = made; at = at }, refl);
    load = record { before = s; made = made; found = d; at = at; same = same; world = refl };
    found_is = refl;
  };
  standing = refl;
  sent = refl;
  chronicle = refl;
}

-- ---- all nodes from a number on

record AllRestarted (k : ℕ) (w : World) (front : List Standing) (found : List Durable) : Type 0 where
  next : World
  restart : RestartFrom k w found next
  standing : next.standing ≡ front ++ map running (map loaded found)
  sent : next.sent ≡ w.sent
  chronicle : next.chronicle ≡ w.chronicle

all_restarted : (rest front : List Standing) (found : List Durable) (w : World) (k : ℕ) → k ≡ length front → w.standing ≡ front ++ rest → AreFound rest found → AllRestarted k w front found
all_restarted [] front [] w k is standing same = record { next = w; restart = refl; standing = standing; sent = refl; chronicle = refl }
all_restarted [] front (d ∷ ds) w k is standing same = absurd same
all_restarted (x ∷ xs) front [] w k is standing same = absurd same
all_restarted (x ∷ xs) front (d ∷ ds) w k is standing same =
    let at : slice_get w.standing k ≡ Some x = ap (λ (ys : List Standing). slice_get ys k) standing ∙ ap (λ (j : ℕ). slice_get (front ++ x ∷ xs) j) is ∙ front_get front x xs in
    let one = restart_one w k x d at same.0 in
    let y : Standing = Running (loaded d) in
    let stood : one.next.standing ≡ (front ++ y ∷ []) ++ xs =
    one.standing ∙ ap (λ (ys : List Standing). slice_set ys k y) standing ∙ ap (λ (j : ℕ). slice_set (front ++ x ∷ xs) j y) is ∙ front_set front x xs y ∙ sym (append_assoc front (y ∷ []) xs) in
    let longer : length (front ++ y ∷ []) ≡ length front + 1 = length-append front (y ∷ []) in
    let more = all_restarted xs (front ++ y ∷ []) ds one.next (k + 1) (omega (arith, is, longer)) stood same.1 in
    record {
      next = more.next;
      restart = (one.next, one.restarts, more.restart);
      standing = more.standing ∙ append_assoc front (y ∷ []) (map running (map loaded ds));
      sent = more.sent ∙ one.sent;
      chronicle = more.chronicle ∙ one.chronicle;
    }

-- ---- runs

down_run : (c : Setting) (first w w' : World) (k : ℕ) → RunFrom c first w → ComesDown w k w' → RunFrom c first w'
down_run c first w w' k run (inl stop) = stopped w w' k run stop
down_run c first w w' k run (inr down) = subst (λ (v : World). RunFrom c first v) (sym down.1) run

restarts_run : (c : Setting) (first w w' : World) (k : ℕ) (d : Durable) → RunFrom c first w → Restarts w k d w' → RunFrom c first w'
restarts_run c first w w' k d run r = load r.off w' k (down_run c first w r.off k run r.comes_down) r.load

all_run : (c : Setting) (first w w' : World) (k : ℕ) (found : List Durable) → RunFrom c first w → RestartFrom k w found w' → RunFrom c first w'
all_run c first w w' k [] run same = subst (λ (v : World). RunFrom c first v) same run
all_run c first w w' k (d ∷ ds) run (next, one, more) = all_run c first next w' (k + 1) ds (restarts_run c first w next k d run one) more

pub restart_run : RestartsAreRuns
restart_run c first w found run same =
    let all = all_restarted w.standing [] found w 0 refl refl same in
    (all.next, record { moves = all.restart; standing = all.standing; sent = all.sent; chronicle = all.chronicle }, all_run c first w all.next 0 found run all.restart)
