-- What kinds of calls passes make: only the job with a node's links delivers.
use Rattle.std.proofs.Common.{◌≡◌, ℕ, inl, inr, Bool, true, false, Option, Result, Ok, Err, List, [], ◌∷◌, ◌++◌, Contains, map, sym, ap, subst, ◌∙◌}
use Rattle.std.specs.Prelude.{All, ◌==◌, if◌then◌else◌}
use Rattle.std.proofs.lemmas.List.Elements.{Contains-append_cases, Contains-append_left, Contains-push, Contains-push_cases}
use Rattle.cs_base.specs.declared.ids.ReqId.{ReqId}
use Rattle.cs_base.proofs.Members.{contains_cases, contains_from_map, contains_here, contains_nil, contains_one, contains_there}
use Rattle.peer_messages.specs.declared.event.Ask.{Ask}
use Rattle.peer_messages.specs.declared.event.What.{What}
use Rattle.peer_messages.specs.declared.event.What.TheVariants.{Client, Deliver, Alive, Collect, Flush, Tick}
use Rattle.peer_messages.specs.declared.message.Message.{Message}
use Rattle.schema_book.specs.Books.{Book}
use Rattle.node_calls.specs.Calls.{call_of, optional_call_of}
use Rattle.node_calls.specs.declared.call.NodeCall.{NodeCall}
use Rattle.node_calls.specs.declared.reply.NodeReply.{NodeReply}
use Rattle.node_console.specs.declared.command.Command.{Command}
use Rattle.node_console.specs.declared.command.Command.TheVariants as command
use Rattle.node_console.specs.declared.command.ConsoleError.{ConsoleError}
use Rattle.node_lock.specs.Views.{PassView}
use Rattle.node_workers.specs.Asking.{AreOfDesk}
use Rattle.node_workers.specs.Asking.AreOfDesk.{opened, submits, collects}
use Rattle.node_workers.specs.Calls.{Outcome, Called, called, event_at}
use Rattle.node_workers.specs.Chains.{Comes, Makes}
use Rattle.node_workers.specs.Chains.Makes.{none, more}
use Rattle.node_workers.specs.Deliveries.{Delivery, call_in}
use Rattle.node_workers.specs.Repeating.{IsTimely, Repeats}
use Rattle.served_jobs.specs.Doorways.{AreVisits}
use Rattle.served_jobs.specs.Doorways.AreVisits.{none as no_visits, more as more_visits}
use Rattle.served_jobs.specs.Visits.{IsVisit, Visit}
use Rattle.served_console.specs.Asking.{Asked, ask_of, asks_for, asks_of, call_in as call_asked}
use Rattle.served_console.specs.Nodes.{calls_at}

pub all_in : {X : Type 0} (P : X → Type 0) (xs : List X) (x : X) → All P xs → Contains xs x → P x
all_in P xs x all (k, below, at) = subst P at (all k x below)

-- the call delivers nothing
abbrev pub IsNoDelivery : NodeCall → Type 0
IsNoDelivery call = (m : Message) → call.event.what ≡ Deliver m → ⊥

-- ---- the entries that are told of calls of one kind

module _ {E : Type 0} (event_of : E → NodeCall) (P : NodeCall → Type 0) where
  -- so are all calls of which the pass keeps an entry
  abbrev pub MineAre : PassView E → Type 0
  MineAre v = (x : ℕ × E) → Contains v.mine x → P (event_of x.1)

module _ {S E : Type 0} (steps : S → E → S → Type 0) (event_of : E → NodeCall) (reply_of : E → NodeReply) (refuses : S → NodeCall → NodeCall → Type 0) (start : S) (P : NodeCall → Type 0) where
  one_more : (w x : PassView E) (call : NodeCall) (outcome : Outcome) → Comes steps event_of reply_of refuses start w call outcome x → P call → MineAre event_of P w → MineAre event_of P x
  one_more w x call (Ok receipt) comes p old y h = elim (Contains-append_cases w.mine ((w.number, comes.entry) ∷ []) y (subst (λ (zs : List (ℕ × E)). Contains zs y) comes.mine h)) [
    | inl before ↦ old y before
    | inr now ↦ subst (λ (z : ℕ × E). P (event_of z.1)) (contains_one (w.number, comes.entry) y now) (subst P (sym comes.event_is) p)
  ]
  one_more w x call (Err refused) comes p old y h = old y (subst (λ (zs : List (ℕ × E)). Contains zs y) comes.0.mine h)

  pub made_are : (v : PassView E) (calls : List Called) (w : PassView E) → Makes steps event_of reply_of refuses start v calls w → ((c : Called) → Contains calls c → P c.call) → MineAre event_of P v → MineAre event_of P w
  made_are v _ _ none each old = old
  made_are v _ _ (more calls call outcome w x made same comes) each old =
      one_more w x call outcome comes (each (called call outcome) (Contains-push calls (called call outcome)))
      (made_are v calls w made (λ c h. each c (Contains-append_left calls (called call outcome ∷ []) c h)) old)

-- ---- what is no delivery

client_no : (ask : Ask) (m : Message) → Client ask ≡ Deliver m → ⊥
client_no ask m e = cc

collect_no : (request : ReqId) (m : Message) → Collect request ≡ Deliver m → ⊥
collect_no request m e = cc

alive_no : (peer : ℕ) (up : Bool) (m : Message) → Alive peer up ≡ Deliver m → ⊥
alive_no peer up m e = cc

pub flush_no : (m : Message) → Flush ≡ Deliver m → ⊥
flush_no m e = cc

pub tick_no : (m : Message) → Tick ≡ Deliver m → ⊥
tick_no m e = cc

last_call : (calls : List Called) (call : NodeCall) (outcome : Outcome) (c : Called) → ((d : Called) → Contains calls d → IsNoDelivery d.call) → IsNoDelivery call → Contains (calls ++ called call outcome ∷ []) c → IsNoDelivery c.call
last_call calls call outcome c before now h = elim (Contains-push_cases calls (called call outcome) c h) [
  | inl old ↦ before c old
  | inr same ↦ subst (λ (d : Called). IsNoDelivery d.call) same now
]

desk_calls : (gives : ℕ → Type 0) (calls : List Called) → AreOfDesk gives calls → (c : Called) → Contains calls c → IsNoDelivery c.call
desk_calls gives _ opened c h = absurd (contains_nil c h)
desk_calls gives _ (submits calls clock ask outcome desk given) c h = last_call calls (call_of (event_at clock (Client ask))) outcome c (desk_calls gives calls desk) (client_no ask) h
desk_calls gives _ (collects calls clock request outcome desk given awaited) c h = last_call calls (optional_call_of (event_at clock (Collect request))) outcome c (desk_calls gives calls desk) (collect_no request) h

timely_no : (gives : ℕ → Type 0) (what : What) → ((m : Message) → what ≡ Deliver m → ⊥) → (c : Called) → IsTimely gives what c → IsNoDelivery c.call
timely_no gives what never c timely m e = never m (sym (ap (λ (call : NodeCall). call.event.what) timely.1) ∙ e)

-- ---- jobs

module _ {S E : Type 0} (steps : S → E → S → Type 0) (event_of : E → NodeCall) (reply_of : E → NodeReply) (refuses : S → NodeCall → NodeCall → Type 0) (start : S) (gives : ℕ → Type 0) where
  module _ {L : Type 0} (schema : Book) (remaining written : L → Option (List ℕ)) (faults : L → ℕ) where
    pub visits_no : (v : PassView E) (visits : List (Visit L)) (w : PassView E) → AreVisits (IsVisit steps event_of reply_of refuses start gives schema remaining written faults) v visits w
        → MineAre event_of IsNoDelivery v → MineAre event_of IsNoDelivery w
    visits_no v _ _ no_visits old = old
    visits_no v _ _ (more_visits visits x w y before one) old =
        made_are steps event_of reply_of refuses start IsNoDelivery w x.calls y one.made (desk_calls gives x.calls one.of_desk) (visits_no v visits w before old)

  pub repeats_no : (what : What) → ((m : Message) → what ≡ Deliver m → ⊥) → (v w : PassView E) (ended : _) → Repeats steps event_of reply_of refuses start gives what v w ended
      → MineAre event_of IsNoDelivery v → MineAre event_of IsNoDelivery w
  repeats_no what never v w ended (last, r) old =
      made_are steps event_of reply_of refuses start IsNoDelivery v r.calls w r.made (λ c h. timely_no gives what never c (all_in (IsTimely gives what) r.calls c r.each h)) old

-- a call that delivers, delivers one of these messages
abbrev pub IsOf : List Delivery → NodeCall → Type 0
IsOf deliveries call = (m : Message) → call.event.what ≡ Deliver m → (d : Delivery) × Contains deliveries d × (d.message ≡ m)

same_message : (a b : Message) → Deliver a ≡ Deliver b → a ≡ b
same_message a b e = cc

pub delivered_by : (deliveries : List Delivery) (c : Called) → Contains (map call_in deliveries) c → IsOf deliveries c.call
delivered_by deliveries c h m e =
    let from = contains_from_map call_in deliveries c h in
    (from.0, from.1, same_message from.0.message m (ap (λ (d : Called). d.call.event.what) from.2 ∙ e))

-- ---- the console

abbrev AreNoDeliveries : List (ℕ × What) → Type 0
AreNoDeliveries asks = (a : ℕ × What) → Contains asks a → (m : Message) → a.1 ≡ Deliver m → ⊥

one_ask : (node : ℕ) (what : What) → ((m : Message) → what ≡ Deliver m → ⊥) → AreNoDeliveries (ask_of node what ∷ [])
one_ask node what never a h = subst (λ (b : ℕ × What). (m : Message) → b.1 ≡ Deliver m → ⊥) (contains_one (ask_of node what) a h) never

ticks_no : (ns : List ℕ) → AreNoDeliveries (map (λ node. ask_of node Tick) ns)
ticks_no ns a h = let from = contains_from_map (λ node. ask_of node Tick) ns a h in subst (λ (b : ℕ × What). (m : Message) → b.1 ≡ Deliver m → ⊥) from.2 tick_no

command_no : (nodes : ℕ) (c : Command) → AreNoDeliveries (asks_for nodes c)
command_no nodes (command.Mark node peer up) = one_ask node (Alive peer up) (alive_no peer up)
command_no nodes (command.Flush node) = one_ask node Flush flush_no
command_no nodes (command.Merge node) = one_ask node Flush flush_no
command_no nodes command.Status = ticks_no _
command_no nodes command.Stop = λ a h. absurd (contains_nil a h)

pub line_no : (nodes : ℕ) (said : Result Command ConsoleError) → AreNoDeliveries (asks_of nodes said)
line_no nodes (Err e) = λ a h. absurd (contains_nil a h)
line_no nodes (Ok c) = command_no nodes c

-- of what was asked, the calls at one place
asked_more : (a : Asked) (made : List Asked) (calls : List Called) (c : Called) (b : Bool) → (Contains calls c → (d : Asked) × Contains made d × (call_asked d ≡ c)) → Contains (if b then call_asked a ∷ calls else calls) c
    → (d : Asked) × Contains (a ∷ made) d × (call_asked d ≡ c)
asked_more a made calls c true later h = elim (contains_cases (call_asked a) calls c h) [
  | inl same ↦ (a, contains_here a made, same)
  | inr rest ↦ let more = later rest in (more.0, contains_there a made more.0 more.1, more.2)
]
asked_more a made calls c false later h = let more = later h in (more.0, contains_there a made more.0 more.1, more.2)

pub asked_at : (place : ℕ) (made : List Asked) (c : Called) → Contains (calls_at place made) c → (a : Asked) × Contains made a × (call_asked a ≡ c)
asked_at place [] c h = absurd (contains_nil c h)
asked_at place (a ∷ made) c h = asked_more a made (calls_at place made) c (a.node == place) (λ k. asked_at place made c k) h
