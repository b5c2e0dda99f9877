-- What jobs tell of a door that failed, and of a thread that was not started.
use Rattle.std.proofs.Common.{◌≡◌, ℕ, zero, suc, ◌<◌, Bool, true, false, Some, None, List, [], ◌∷◌, map, sym, ap, subst, ◌∙◌, arith, inl, inr}
use Rattle.std.specs.Prelude.{Option, slice_get}
use Rattle.std.specs.List.{AllByRecursion}
use Rattle.std.proofs.lemmas.Bool.{true≢false}
use Rattle.cs_base.specs.Faults.{HasRisen}
use Rattle.schema_book.specs.Books.{Book}
use Rattle.node_calls.specs.declared.call.NodeCall.{NodeCall}
use Rattle.node_calls.specs.declared.reply.NodeReply.{NodeReply}
use Rattle.node_links.specs.declared.ends.Receiver.{Receiver}
use Rattle.node_lock.specs.Views.{PassView}
use Rattle.peer_messages.specs.declared.message.Message.{Message}
use Rattle.served_assembly.specs.Assembling.{duties_of}
use Rattle.served_assembly.specs.Parting.{doors_in, with_door}
use Rattle.served_jobs.specs.declared.duty.Duty.{Duty}
use Rattle.served_jobs.specs.declared.duty.Duty.TheVariants as duty
use Rattle.served_nodes.specs.Jobs.{DidIfStarted}
use Rattle.served_nodes.specs.Nodes.{JobsRan}
use Rattle.served_nodes.specs.declared.node.JobLeft.{JobLeft}
use Rattle.served_seats.specs.Seats.{fresh}
use Rattle.served_cluster.specs.Giving.{AreCounted}

no_job : {A : Type 0} (x : A) → None ≡ Some x → ⊥
no_job x e = cc

same_job : {A : Type 0} (x y : A) → Some x ≡ Some y → x ≡ y
same_job x y e = cc

both_ways : {b : Bool} → b ≡ true → b ≡ false → ⊥
both_ways is not = true≢false (sym is ∙ not)

risen_above : (n : ℕ) → HasRisen 0 n → 0 < n
risen_above n (inl lt) = lt
risen_above n (inr top) = absurd (omega (arith, top))

module _ {D : Type 0} (faults : D → ℕ) where
  -- its door had no fault when the job began
  abbrev pub IsQuiet : Duty D → Type 0
  IsQuiet (duty.Links receivers) = Unit {0}
  IsQuiet duty.Ticks = Unit {0}
  IsQuiet duty.Merges = Unit {0}
  IsQuiet (duty.Connections door) = faults door ≡ 0

  quiet_doors : (doors : List D) → AllByRecursion (λ door. faults door ≡ 0) doors → AllByRecursion IsQuiet (map duty.Connections doors)
  quiet_doors [] all = tt
  quiet_doors (door ∷ doors) all = (all.0, quiet_doors doors all.1)

  pub quiet_duties : (receivers : List (Receiver Message)) (doors : List D) → AllByRecursion (λ door. faults door ≡ 0) doors → AllByRecursion IsQuiet (duties_of receivers doors)
  quiet_duties receivers doors all = (tt, (tt, (tt, quiet_doors doors all)))

module _ {N D Entry L : Type 0} (steps : N → Entry → N → Type 0) (event_of : Entry → NodeCall) (reply_of : Entry → NodeReply) (refuses : N → NodeCall → NodeCall → Type 0)
    (gives : ℕ → Type 0) (schema : Book) (remaining written : L → Option (List ℕ)) (link_faults : L → ℕ) (given : D → Option ℕ) (returned : D → Option (List L)) (faults : D → ℕ) (counted : Type 0) (start : N) where
  abbrev Did : Duty D → JobLeft D → PassView Entry → PassView Entry → Type 0
  Did d l v w = DidIfStarted steps event_of reply_of refuses start gives schema remaining written link_faults given returned faults counted d l v w

  abbrev Ran : ℕ → List (Duty D) → List (JobLeft D) → List (PassView Entry) → Type 0
  Ran number ds ls ws = JobsRan steps event_of reply_of refuses gives schema remaining written link_faults given returned faults counted start number ds ls ws

  -- ---- threads

  not_started : (d : Duty D) (l : JobLeft D) (v w : PassView Entry) → Did d l v w → l.unstarted ≡ true → counted
  not_started d l v w (inl did) is = absurd (both_ways is did.0)
  not_started d l v w (inr idle) is = idle.1

  -- where a job got no thread the fault is counted
  pub start_counted : (number : ℕ) (ds : List (Duty D)) (ls : List (JobLeft D)) (ws : List (PassView Entry)) → Ran number ds ls ws
      → (k : ℕ) (l : JobLeft D) → slice_get ls k ≡ Some l → l.unstarted ≡ true → counted
  start_counted number [] [] ws ran k l at is = absurd (no_job l at)
  start_counted number [] (x ∷ ls) ws ran k l at is = absurd ran
  start_counted number (d ∷ ds) [] ws ran k l at is = absurd (no_job l at)
  start_counted number (d ∷ ds) (x ∷ ls) [] ran k l at is = absurd ran
  start_counted number (d ∷ ds) (x ∷ ls) (w ∷ ws) ran zero l at is =
      not_started d x (fresh number) w ran.0.did (ap (λ (j : JobLeft D). j.unstarted) (same_job x l at) ∙ is)
  start_counted number (d ∷ ds) (x ∷ ls) (w ∷ ws) ran (suc k) l at is = start_counted (suc number) ds ls ws ran.1 k l at is

  -- ---- doors

  module _ (before now : ℕ) where
    abbrev Counted : List D → Type 0
    Counted doors = AreCounted faults before now doors

    others_counted : (d : Duty D) (doors : List D) → Counted (with_door d doors) → Counted doors
    others_counted (duty.Links receivers) doors all = all
    others_counted duty.Ticks doors all = all
    others_counted duty.Merges doors all = all
    others_counted (duty.Connections door) doors all = all.1

    door_failed : (d : Duty D) (l : JobLeft D) (v w : PassView Entry) (doors : List D) → Did d l v w → IsQuiet faults d → Counted (with_door l.duty doors) → l.door_failed ≡ true → HasRisen before now
    door_failed (duty.Links receivers) l v w doors (inl did) quiet all is = absurd (both_ways is did.1.2)
    door_failed (duty.Links receivers) l v w doors (inr idle) quiet all is = absurd (both_ways is idle.4)
    door_failed duty.Ticks l v w doors (inl did) quiet all is = absurd (both_ways is did.1.1)
    door_failed duty.Ticks l v w doors (inr idle) quiet all is = absurd (both_ways is idle.4)
    door_failed duty.Merges l v w doors (inl did) quiet all is = absurd (both_ways is did.1.1)
    door_failed duty.Merges l v w doors (inr idle) quiet all is = absurd (both_ways is idle.4)
    door_failed (duty.Connections door) l v w doors (inl did) quiet all is =
        let own = did.1.0 in
        let behind = subst (λ (d : Duty D). Counted (with_door d doors)) did.1.1 all in
        let risen = did.1.3.failed is in
        behind.0 (risen_above (faults own) (subst (λ (n : ℕ). HasRisen n (faults own)) quiet risen))
    door_failed (duty.Connections door) l v w doors (inr idle) quiet all is = absurd (both_ways is idle.4)

    -- where the door of a job failed the fault is counted
    pub door_counted : (number : ℕ) (ds : List (Duty D)) (ls : List (JobLeft D)) (ws : List (PassView Entry)) → Ran number ds ls ws → AllByRecursion (IsQuiet faults) ds → Counted (doors_in ls)
        → (k : ℕ) (l : JobLeft D) → slice_get ls k ≡ Some l → l.door_failed ≡ true → HasRisen before now
    door_counted number [] [] ws ran quiet all k l at is = absurd (no_job l at)
    door_counted number [] (x ∷ ls) ws ran quiet all k l at is = absurd ran
    door_counted number (d ∷ ds) [] ws ran quiet all k l at is = absurd (no_job l at)
    door_counted number (d ∷ ds) (x ∷ ls) [] ran quiet all k l at is = absurd ran
    door_counted number (d ∷ ds) (x ∷ ls) (w ∷ ws) ran quiet all zero l at is =
        door_failed d x (fresh number) w (doors_in ls) ran.0.did quiet.0 all (ap (λ (j : JobLeft D). j.door_failed) (same_job x l at) ∙ is)
    door_counted number (d ∷ ds) (x ∷ ls) (w ∷ ws) ran quiet all (suc k) l at is =
        door_counted (suc number) ds ls ws ran.1 quiet.1 (others_counted x.duty (doors_in ls) all) k l at is
