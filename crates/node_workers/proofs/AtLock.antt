-- A desk stays at its lock.
use Rattle.std.proofs.Common.{◌≡◌, ℕ, List, [], ◌∷◌, ◌++◌, sym, subst}
use Rattle.cs_base.specs.declared.ids.ReqId.{ReqId}
use Rattle.peer_messages.specs.declared.event.Ask.{Ask}
use Rattle.peer_messages.specs.declared.event.What.TheVariants.{Client, Collect}
use Rattle.client_desk.specs.Asks.{IsAwaited}
use Rattle.node_calls.specs.Calls.{call_of, optional_call_of}
use Rattle.node_calls.specs.declared.call.NodeCall.{NodeCall}
use Rattle.node_calls.specs.declared.reply.NodeReply.{NodeReply}
use Rattle.node_lock.specs.Passes.{IsPassOf, view_of, start_of}
use Rattle.node_lock.specs.Stepped.{IsSamePass}
use Rattle.node_lock.specs.Views.{PassView}
use Rattle.node_lock.specs.declared.pass.Pass.{Pass}
use Rattle.std.specs.declared.snapshot.Snapshot.{Snapshot}
use Rattle.node_workers.specs.Asking.{AreOfDesk, opened, submits, collects}
use Rattle.node_workers.specs.Calls.{Outcome, Called, called, event_at}
use Rattle.node_workers.specs.Chains.{Comes, Makes}
use Rattle.node_workers.specs.Chains as chain
use Rattle.node_workers.specs.Desks.{lock_of, clock_of, since_of, calls_of, asks_at, IsAtLock}
use Rattle.node_workers.specs.declared.parts.DeskParts.{DeskParts}
use Rattle.node_workers.specs.declared.site.Site.{Site}

module _ {W N C Entry : Type 0} (steps : N → Entry → N → Type 0) (event_of : Entry → NodeCall) (reply_of : Entry → NodeReply) (refuses : N → NodeCall → NodeCall → Type 0) (gives : C → ℕ → Type 0) where
  pub at_first : (d : DeskParts W N C Entry) → IsPassOf (lock_of d) d.pass → calls_of d ≡ [] → since_of d ≡ view_of d.pass → IsAtLock steps event_of reply_of refuses gives d
  at_first d pass no_calls same = record {
    pass = pass;
    made =
        subst (λ (cs : List Called). Makes steps event_of reply_of refuses (start_of (lock_of d)) (since_of d) cs (view_of d.pass)) (sym no_calls)
        (subst (λ (v : PassView Entry). Makes steps event_of reply_of refuses (start_of (lock_of d)) v [] (view_of d.pass)) (sym same) chain.none);
    calls = subst (λ (cs : List Called). AreOfDesk (gives (clock_of d)) cs) (sym no_calls) opened;
  }

  goes_on : (d d' : DeskParts W N C Entry) (call : NodeCall) (outcome : Outcome)
      → IsAtLock steps event_of reply_of refuses gives d → IsPassOf (lock_of d') d'.pass → IsSamePass (view_of d.pass) (view_of d'.pass)
      → Comes steps event_of reply_of refuses (start_of (lock_of d)) (view_of d.pass) call outcome (view_of d'.pass)
      → calls_of d' ≡ calls_of d ++ called call outcome ∷ [] → d'.site ≡ d.site → d'.since ≡ d.since
      → AreOfDesk (gives (clock_of d)) (calls_of d ++ called call outcome ∷ []) → IsAtLock steps event_of reply_of refuses gives d'
  goes_on d d' call outcome h pass same comes calls site since are = record {
    pass = pass;
    made =
        subst (λ (s : Site W N C Entry). Makes steps event_of reply_of refuses (start_of s.lock.now) (since_of d') (calls_of d') (view_of d'.pass)) (sym site)
        (subst (λ (s : Snapshot (Pass N NodeCall NodeReply Entry)). Makes steps event_of reply_of refuses (start_of (lock_of d)) (view_of s.value) (calls_of d') (view_of d'.pass)) (sym since)
        (subst (λ (cs : List Called). Makes steps event_of reply_of refuses (start_of (lock_of d)) (since_of d) cs (view_of d'.pass)) (sym calls)
        (chain.more (calls_of d) call outcome (view_of d.pass) (view_of d'.pass) h.made same comes)));
    calls =
        subst (λ (s : Site W N C Entry). AreOfDesk (gives s.clock.now) (calls_of d')) (sym site)
        (subst (λ (cs : List Called). AreOfDesk (gives (clock_of d)) cs) (sym calls) are);
  }

  pub submits_at : (d d' : DeskParts W N C Entry) (clock : ℕ) (ask : Ask) (call : NodeCall) (outcome : Outcome)
      → IsAtLock steps event_of reply_of refuses gives d → IsPassOf (lock_of d') d'.pass → IsSamePass (view_of d.pass) (view_of d'.pass)
      → Comes steps event_of reply_of refuses (start_of (lock_of d)) (view_of d.pass) call outcome (view_of d'.pass)
      → calls_of d' ≡ calls_of d ++ called call outcome ∷ [] → d'.site ≡ d.site → d'.since ≡ d.since
      → call ≡ call_of (event_at clock (Client ask)) → gives (clock_of d) clock → IsAtLock steps event_of reply_of refuses gives d'
  submits_at d d' clock ask call outcome h pass same comes calls site since is given =
      goes_on d d' call outcome h pass same comes calls site since
      (subst (λ (k : NodeCall). AreOfDesk (gives (clock_of d)) (calls_of d ++ called k outcome ∷ [])) (sym is)
      (submits (calls_of d) clock ask outcome h.calls given))

  pub collects_at : (d d' : DeskParts W N C Entry) (clock : ℕ) (request : ReqId) (call : NodeCall) (outcome : Outcome)
      → IsAtLock steps event_of reply_of refuses gives d → IsPassOf (lock_of d') d'.pass → IsSamePass (view_of d.pass) (view_of d'.pass)
      → Comes steps event_of reply_of refuses (start_of (lock_of d)) (view_of d.pass) call outcome (view_of d'.pass)
      → calls_of d' ≡ calls_of d ++ called call outcome ∷ [] → d'.site ≡ d.site → d'.since ≡ d.since
      → call ≡ optional_call_of (event_at clock (Collect request)) → gives (clock_of d) clock → IsAwaited (asks_at d) request → IsAtLock steps event_of reply_of refuses gives d'
  collects_at d d' clock request call outcome h pass same comes calls site since is given awaited =
      goes_on d d' call outcome h pass same comes calls site since
      (subst (λ (k : NodeCall). AreOfDesk (gives (clock_of d)) (calls_of d ++ called k outcome ∷ [])) (sym is)
      (collects (calls_of d) clock request outcome h.calls given awaited))
