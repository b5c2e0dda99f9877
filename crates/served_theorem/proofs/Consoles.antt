-- A console delivers nothing.
use Rattle.std.proofs.Common.{◌≡◌, ℕ, suc, inl, inr, Option, List, [], ◌∷◌, ◌++◌, Contains, length, sym, subst}
use Rattle.std.specs.Prelude.{All}
use Rattle.std.specs.List.{AllByRecursion, AllZip}
use Rattle.cs_base.proofs.Members.{contains_from_flat, contains_map}
use Rattle.peer_messages.specs.declared.event.What.{What}
use Rattle.node_calls.specs.declared.call.NodeCall.{NodeCall}
use Rattle.node_calls.specs.declared.reply.NodeReply.{NodeReply}
use Rattle.node_console.specs.Console.{command_of}
use Rattle.node_lock.specs.Passes.{view_of, start_of}
use Rattle.node_workers.specs.Calls.{Called}
use Rattle.served_seats.specs.Seats.{fresh}
use Rattle.served_console.specs.Asking.{Asked, ask_in, call_in}
use Rattle.served_console.specs.Consoles.{Works}
use Rattle.served_console.specs.Nodes.{MakeFrom, calls_at}
use Rattle.served_console.specs.Turns.{IsTurn, Turn, asked_in, last_in, made_in}
use Rattle.served_console.specs.declared.console.Console.{Console}
use Rattle.served_console.specs.declared.end.ConsoleEnd.{ConsoleEnd}
use Rattle.served_console.specs.declared.node.OperatedNode.{OperatedNode}
use Rattle.served_nodes.specs.declared.node.NodeParts.{NodeParts}
use Rattle.served_run.specs.Runs.{Begins}
use Rattle.served_theorem.proofs.Calls.{IsNoDelivery, MineAre, all_in, asked_at, line_no, made_are}
use Rattle.served_theorem.proofs.Jobs.{fresh_no}

-- what was asked in turns is no delivery
turns_no : (nodes : ℕ) (turns : List Turn) → All (IsTurn nodes) turns → (a : Asked) → Contains (asked_in turns) a → IsNoDelivery (call_in a).call
turns_no nodes turns are a h m e =
    let from = contains_from_flat made_in turns a h in
    let turn = all_in (IsTurn nodes) turns from.0 are from.1 in
    line_no nodes (command_of nodes from.0.line) (ask_in a) (subst (λ (asks : List (ℕ × What)). Contains asks (ask_in a)) turn (contains_map ask_in from.0.made a from.2)) m e

module _ {W N C Entry : Type 0} (steps : N → Entry → N → Type 0) (event_of : Entry → NodeCall) (reply_of : Entry → NodeReply) (refuses : N → NodeCall → NodeCall → Type 0) (gives : C → ℕ → Type 0) where
  -- the console's pass of the node has seen and made nothing
  abbrev pub IsFreshAt : OperatedNode W N C Entry → Type 0
  IsFreshAt o = view_of o.pass ≡ fresh 0

  -- it has delivered nothing
  abbrev pub DeliversNone : OperatedNode W N C Entry → Type 0
  DeliversNone o = MineAre event_of IsNoDelivery (view_of o.pass)

  fresh_deliver_none : (xs : List (OperatedNode W N C Entry)) → AllByRecursion IsFreshAt xs → AllByRecursion DeliversNone xs
  fresh_deliver_none [] are = tt
  fresh_deliver_none (x ∷ xs) are = (fresh_no event_of IsNoDelivery (view_of x.pass) 0 are.0, fresh_deliver_none xs are.1)

  make_none : (place : ℕ) (xs : List (OperatedNode W N C Entry)) (made : List Asked) (ys : List (OperatedNode W N C Entry)) → MakeFrom steps event_of reply_of refuses gives place xs made ys
      → ((a : Asked) → Contains made a → IsNoDelivery (call_in a).call) → AllByRecursion IsFreshAt xs → AllByRecursion DeliversNone ys
  make_none place [] made [] make none are = tt
  make_none place [] made (y ∷ ys) make none are = absurd make
  make_none place (x ∷ xs) made [] make none are = absurd make
  make_none place (x ∷ xs) made (y ∷ ys) make none are = (
    made_are steps event_of reply_of refuses (start_of x.site.lock.now) IsNoDelivery (view_of x.pass) (calls_at place made) (view_of y.pass) make.0.made
        (λ c h. let from = asked_at place made c h in subst (λ (d : Called). IsNoDelivery d.call) from.2 (none from.0 from.1))
        (fresh_no event_of IsNoDelivery (view_of x.pass) 0 are.0),
    make_none (suc place) xs made ys make.1 none are.1,
  )

  pub console_none : {S T : Type 0} (remaining : S → Option (List ℕ)) (source_faults : S → ℕ) (contents : T → Option (List ℕ)) (sink_faults : T → ℕ) (opening : List ℕ) (c c' : Console W N C S T Entry) (how : ConsoleEnd)
      → Works steps event_of reply_of refuses gives remaining source_faults contents sink_faults opening c how c' → AllByRecursion IsFreshAt c.nodes.items → AllByRecursion DeliversNone c'.nodes.items
  console_none remaining source_faults contents sink_faults opening c c' how (inl shut) are =
      subst (λ (xs : List (OperatedNode W N C Entry)). AllByRecursion DeliversNone xs) (sym shut.nodes) (fresh_deliver_none c.nodes.items are)
  console_none remaining source_faults contents sink_faults opening c c' how (inr (inl opens)) are =
      subst (λ (xs : List (OperatedNode W N C Entry)). AllByRecursion DeliversNone xs) (sym opens.nodes) (fresh_deliver_none c.nodes.items are)
  console_none remaining source_faults contents sink_faults opening c c' how (inr (inr operates)) are =
      make_none 0 c.nodes.items (asked_in (operates.before ++ last_in operates.closing)) c'.nodes.items operates.make
      (turns_no (length c.nodes.items) (operates.before ++ last_in operates.closing) operates.are_turns) are

  pub begun_fresh : {D : Type 0} (clock : C) (nodes : List (NodeParts N D)) (os : List (OperatedNode W N C Entry)) → AllZip (Begins clock) nodes os → AllByRecursion IsFreshAt os
  begun_fresh clock [] [] begins = tt
  begun_fresh clock [] (o ∷ os) begins = absurd begins
  begun_fresh clock (n ∷ nodes) [] begins = absurd begins
  begun_fresh clock (n ∷ nodes) (o ∷ os) begins = (begins.0.pass, begun_fresh clock nodes os begins.1)
