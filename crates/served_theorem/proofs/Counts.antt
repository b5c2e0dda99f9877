-- A run has the nodes of its ring.
use Rattle.std.proofs.Common.{◌≡◌, ℕ, zero, suc, List, length, refl, ap, ◌∙◌}
use Rattle.std.specs.Prelude.{replicate, slice_set}
use Rattle.peer_messages.specs.declared.setting.Setting.{Setting}
use Rattle.node_steps.specs.State.{fresh_node, loaded}
use Rattle.cluster_runs.specs.World.{World, Standing, Running, Down, start}
use Rattle.cluster_runs.specs.Run.{Run, RunFrom}
use Rattle.cluster_runs.specs.Run.RunFrom.{begun, more, stopped_in, stopped, load, load_failed, turned}
use Rattle.std.specs.Prelude.{None}
use Rattle.lawful_orders.proofs.Places.{length_set}

same_count : {X : Type 0} (x : X) (count : ℕ) → length (replicate count x) ≡ count
same_count x zero = refl
same_count x (suc count) = ap suc (same_count x count)

stands : (w w' : World) → w' ≡ w → length w'.standing ≡ length w.standing
stands w w' is = ap (λ (v : World). length v.standing) is

one_stands : (w w' : World) (k : ℕ) (x : Standing) → w'.standing ≡ slice_set w.standing k x → length w'.standing ≡ length w.standing
one_stands w w' k x is = ap (λ (xs : List Standing). length xs) is ∙ length_set w.standing k x

same_nodes : (c : Setting) (first w : World) → RunFrom c first w → length w.standing ≡ length first.standing
same_nodes c first _ begun = refl
same_nodes c first _ (more w w' k e run step) = one_stands w w' k (Running step.after) (ap (λ (v : World). v.standing) step.world) ∙ same_nodes c first w run
same_nodes c first _ (stopped_in w w' k e made failed run step) = one_stands w w' k (Down step.before made) (ap (λ (v : World). v.standing) step.world) ∙ same_nodes c first w run
same_nodes c first _ (stopped w w' k run stop) = one_stands w w' k (Down stop.before None) (ap (λ (v : World). v.standing) stop.world) ∙ same_nodes c first w run
same_nodes c first _ (load w w' k run l) = one_stands w w' k (Running (loaded l.found)) (ap (λ (v : World). v.standing) l.world) ∙ same_nodes c first w run
same_nodes c first _ (load_failed w w' k run l) = ap (λ (v : World). length v.standing) l.world ∙ same_nodes c first w run
same_nodes c first _ (turned w w' k run t) = ap (λ (v : World). length v.standing) t.world ∙ same_nodes c first w run

pub run_nodes : (c : Setting) (w : World) → Run c w → length w.standing ≡ length c.ring
run_nodes c w run = same_nodes c (start c) w run ∙ same_count (Running fresh_node) (length c.ring)
