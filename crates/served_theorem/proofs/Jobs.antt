-- Which entries of a node's history deliver messages, and from where these were taken.
use Rattle.std.proofs.Common.{◌≡◌, ℕ, suc, ◌+◌, ◌<◌, inl, inr, Option, Some, List, [], ◌∷◌, Contains, length, map, refl, sym, subst, arith}
use Rattle.std.specs.Prelude.{slice_get}
use Rattle.std.specs.List.{AllByRecursion}
use Rattle.cs_base.proofs.Members.{contains_cases, contains_map, contains_nil}
use Rattle.peer_messages.specs.declared.event.What.TheVariants.{Deliver, Flush, Tick}
use Rattle.peer_messages.specs.declared.message.Message.{Message}
use Rattle.schema_book.specs.Books.{Book}
use Rattle.node_calls.specs.declared.call.NodeCall.{NodeCall}
use Rattle.node_calls.specs.declared.reply.NodeReply.{NodeReply}
use Rattle.node_links.specs.Ends.{taken_by}
use Rattle.node_links.specs.declared.ends.Receiver.{Receiver}
use Rattle.node_lock.specs.Views.{PassView}
use Rattle.node_workers.specs.Deliveries.{Delivery, call_in, taken_in}
use Rattle.served_seats.specs.Seats.{fresh}
use Rattle.served_jobs.specs.declared.duty.Duty.{Duty}
use Rattle.served_jobs.specs.declared.duty.Duty.TheVariants as duty
use Rattle.served_nodes.specs.Jobs.{DidIfStarted}
use Rattle.served_nodes.specs.Nodes.{JobsRan, NodeRan}
use Rattle.served_nodes.specs.declared.node.JobLeft.{JobLeft}
use Rattle.served_nodes.specs.declared.node.NodeLeft.{NodeLeft}
use Rattle.served_nodes.specs.declared.node.NodeParts.{NodeParts}
use Rattle.served_assembly.specs.Assembling.{duties_of}
use Rattle.served_assembly.specs.Parting.{receivers_in, receivers_in_duty}
use Rattle.served_theorem.proofs.Calls.{IsNoDelivery, MineAre, all_in, delivered_by, flush_no, made_are, repeats_no, tick_no, visits_no}
use Rattle.served_theorem.proofs.Entries.{each_entry, take_has}

-- the message was taken from the link at one of so many places
pub record IsTakenFrom (places : ℕ) (receivers : List (Receiver Message)) (m : Message) : Type 0 where
  pub place : ℕ
  pub within : place < places
  pub receiver : Receiver Message
  pub at : slice_get receivers place ≡ Some receiver
  pub taken : Contains (taken_by receiver) m

-- a call that delivers, delivers such a message
abbrev pub TakesFrom : ℕ → List (Receiver Message) → NodeCall → Type 0
TakesFrom places receivers call = (m : Message) → call.event.what ≡ Deliver m → IsTakenFrom places receivers m

no_taking : (places : ℕ) (receivers : List (Receiver Message)) (call : NodeCall) → IsNoDelivery call → TakesFrom places receivers call
no_taking places receivers call never m e = absurd (never m e)

-- the duty is not to deliver
abbrev IsPlain : {D : Type 0} → Duty D → Type 0
IsPlain (duty.Links receivers) = ⊥
IsPlain duty.Ticks = Unit {0}
IsPlain duty.Merges = Unit {0}
IsPlain (duty.Connections door) = Unit {0}

module _ {E : Type 0} (event_of : E → NodeCall) where
  pub fresh_no : (P : NodeCall → Type 0) (v : PassView E) (number : ℕ) → v ≡ fresh number → MineAre event_of P v
  fresh_no P v number is x h = absurd (contains_nil x (subst (λ (w : PassView E). Contains w.mine x) is h))

module _ {N D Entry L : Type 0} (steps : N → Entry → N → Type 0) (event_of : Entry → NodeCall) (reply_of : Entry → NodeReply) (refuses : N → NodeCall → NodeCall → Type 0)
    (gives : ℕ → Type 0) (schema : Book) (remaining written : L → Option (List ℕ)) (link_faults : L → ℕ) (given : D → Option ℕ) (returned : D → Option (List L)) (faults : D → ℕ) (counted : Type 0) (start : N) where
  -- a job that does not deliver
  plain_job : (d : Duty D) (number : ℕ) (left : JobLeft D) (w : PassView Entry) → IsPlain d
      → DidIfStarted steps event_of reply_of refuses start gives schema remaining written link_faults given returned faults counted d left (fresh number) w → MineAre event_of IsNoDelivery w
  plain_job (duty.Links receivers) number left w plain did = absurd plain
  plain_job duty.Ticks number left w plain (inl (started, did)) = repeats_no steps event_of reply_of refuses start gives Tick tick_no (fresh number) w left.ended did.2 (fresh_no event_of IsNoDelivery (fresh number) number refl)
  plain_job duty.Ticks number left w plain (inr (unstarted, count, is, ended, door_failed, same)) = fresh_no event_of IsNoDelivery w number same
  plain_job duty.Merges number left w plain (inl (started, did)) = repeats_no steps event_of reply_of refuses start gives Flush flush_no (fresh number) w left.ended did.2 (fresh_no event_of IsNoDelivery (fresh number) number refl)
  plain_job duty.Merges number left w plain (inr (unstarted, count, is, ended, door_failed, same)) = fresh_no event_of IsNoDelivery w number same
  plain_job (duty.Connections door) number left w plain (inl (started, did)) =
      visits_no steps event_of reply_of refuses start gives schema remaining written link_faults (fresh number) did.3.serves.visits w did.3.serves.are_visits (fresh_no event_of IsNoDelivery (fresh number) number refl)
  plain_job (duty.Connections door) number left w plain (inr (unstarted, count, is, ended, door_failed, same)) = fresh_no event_of IsNoDelivery w number same

  plain_jobs : (number : ℕ) (ds : List (Duty D)) (ls : List (JobLeft D)) (ws : List (PassView Entry)) → AllByRecursion IsPlain ds
      → JobsRan steps event_of reply_of refuses gives schema remaining written link_faults given returned faults counted start number ds ls ws
      → (w : PassView Entry) → Contains ws w → MineAre event_of IsNoDelivery w
  plain_jobs number [] [] [] plain ran w h = absurd (contains_nil w h)
  plain_jobs number [] [] (v ∷ ws) plain ran w h = absurd ran
  plain_jobs number [] (l ∷ ls) ws plain ran w h = absurd ran
  plain_jobs number (d ∷ ds) [] ws plain ran w h = absurd ran
  plain_jobs number (d ∷ ds) (l ∷ ls) [] plain ran w h = absurd ran
  plain_jobs number (d ∷ ds) (l ∷ ls) (v ∷ ws) plain ran w h = elim (contains_cases v ws w h) [
    | inl same ↦ subst (λ (z : PassView Entry). MineAre event_of IsNoDelivery z) same (plain_job d number l v plain.0 ran.0.did)
    | inr rest ↦ plain_jobs (suc number) ds ls ws plain.1 ran.1 w rest
  ]

  connections_plain : (doors : List D) → AllByRecursion IsPlain (map duty.Connections doors)
  connections_plain [] = tt
  connections_plain (door ∷ doors) = (tt, connections_plain doors)

  -- the job that does
  links_job : (receivers : List (Receiver Message)) (number : ℕ) (left : JobLeft D) (w : PassView Entry)
      → DidIfStarted steps event_of reply_of refuses start gives schema remaining written link_faults given returned faults counted (duty.Links receivers) left (fresh number) w
      → MineAre event_of (TakesFrom (length receivers) (receivers_in_duty left.duty)) w
  links_job receivers number left w (inr (unstarted, count, is, ended, door_failed, same)) = fresh_no event_of (TakesFrom (length receivers) (receivers_in_duty left.duty)) w number same
  links_job receivers number left w (inl (started, (receivers', is, well, delivers))) =
      subst (λ (d : Duty D). MineAre event_of (TakesFrom (length receivers) (receivers_in_duty d)) w) (sym is)
      (made_are steps event_of reply_of refuses start (TakesFrom (length receivers) receivers') (fresh number) (map call_in delivers.deliveries) w delivers.made
      (λ c h m e.
      let from = delivered_by delivers.deliveries c h m e in
      let within = all_in (λ (d : Delivery). d.place < length receivers) delivers.deliveries from.0 delivers.places from.1 in
      let took = take_has receivers 0 (map taken_in delivers.deliveries) receivers' delivers.links from.0.place (taken_in from.0) within (let same : from.0.place ≡ 0 + from.0.place = omega arith in same)
      (contains_map taken_in delivers.deliveries from.0 from.1) in
      record {
        place = from.0.place;
        within = within;
        receiver = took.0;
        at = took.1;
        taken = subst (λ (x : Message). Contains (taken_by took.0) x) from.2 took.2;
      })
      (fresh_no event_of (TakesFrom (length receivers) receivers') (fresh number) number refl))

  node_jobs : (receivers : List (Receiver Message)) (doors : List D) (ds : List (Duty D)) (ls : List (JobLeft D)) (ws : List (PassView Entry)) → ds ≡ duties_of receivers doors
      → JobsRan steps event_of reply_of refuses gives schema remaining written link_faults given returned faults counted start 1 ds ls ws
      → (w : PassView Entry) → Contains ws w → MineAre event_of (TakesFrom (length receivers) (receivers_in ls)) w
  node_jobs receivers doors ds ls ws is ran w h =
      by ls ws (subst (λ (xs : List (Duty D)). JobsRan steps event_of reply_of refuses gives schema remaining written link_faults given returned faults counted start 1 xs ls ws) is ran) h
    where
      by : (ls' : List (JobLeft D)) (ws' : List (PassView Entry)) → JobsRan steps event_of reply_of refuses gives schema remaining written link_faults given returned faults counted start 1 (duties_of receivers doors) ls' ws'
          → Contains ws' w → MineAre event_of (TakesFrom (length receivers) (receivers_in ls')) w
      by [] ws' r k = absurd r
      by (l ∷ ls') [] r k = absurd r
      by (l ∷ ls') (v ∷ ws') r k = elim (contains_cases v ws' w k) [
        | inl same ↦ subst (λ (z : PassView Entry). MineAre event_of (TakesFrom (length receivers) (receivers_in_duty l.duty)) z) same (links_job receivers 1 l v r.0.did)
        | inr rest ↦ λ x there.
            no_taking (length receivers) (receivers_in_duty l.duty) (event_of x.1)
            (plain_jobs 2 (duty.Ticks ∷ duty.Merges ∷ map duty.Connections doors) ls' ws' (tt, (tt, connections_plain doors)) r.1 w rest x there)
      ]

-- Each entry of a node's history that delivers, delivers what a receiver of the node took.
module _ {N D Entry L : Type 0} (steps : N → Entry → N → Type 0) (event_of : Entry → NodeCall) (reply_of : Entry → NodeReply) (refuses : N → NodeCall → NodeCall → Type 0)
    (gives : ℕ → Type 0) (schema : Book) (remaining written : L → Option (List ℕ)) (link_faults : L → ℕ) (given : D → Option ℕ) (returned : D → Option (List L)) (faults : D → ℕ) (counted : Type 0) where
  pub node_takes : (receivers : List (Receiver Message)) (doors : List D) (node : NodeParts N D) (console : PassView Entry) (left : NodeLeft N D Entry) → node.duties.items ≡ duties_of receivers doors
      → NodeRan steps event_of reply_of refuses gives schema remaining written link_faults given returned faults counted node console left → MineAre event_of IsNoDelivery console
      → (x : ℕ × Entry) → Contains left.history x → TakesFrom (length receivers) (receivers_in left.jobs.items) (event_of x.1)
  node_takes receivers doors node console left duties ran none x h =
      each_entry left.history (console ∷ ran.ends) ran.each ran.none_else (λ (e : Entry). TakesFrom (length receivers) (receivers_in left.jobs.items) (event_of e))
      (λ v is_one y there. elim (contains_cases console ran.ends v is_one) [
        | inl same ↦ no_taking (length receivers) (receivers_in left.jobs.items) (event_of y.1) (none y (subst (λ (w : PassView Entry). Contains w.mine y) (sym same) there))
        | inr job ↦ node_jobs steps event_of reply_of refuses gives schema remaining written link_faults given returned faults counted node.state receivers doors node.duties.items left.jobs.items ran.ends duties ran.jobs v job y there
      ])
      x h
