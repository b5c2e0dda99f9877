-- A client that is served: its link, the calls of its desk, and how it went.
use Rattle.std.specs.Prelude.{◌≡◌, ℕ, Bool, IsTrue, Option, List, []}
use Rattle.cs_base.specs.Faults.{HasRisen}
use Rattle.schema_book.specs.Books.{Book}
use Rattle.node_calls.specs.declared.call.NodeCall.{NodeCall}
use Rattle.node_calls.specs.declared.reply.NodeReply.{NodeReply}
use Rattle.node_lock.specs.Views.{PassView}
use Rattle.node_workers.specs.Asking.{asks_of, AreOfDesk}
use Rattle.node_workers.specs.Calls.{Called}
use Rattle.node_workers.specs.Chains.{Makes}
use Rattle.serve_loop.specs.Conversations.{IsConversation}
use Rattle.serve_loop.specs.declared.served.Served.{Served}
use Rattle.serve_loop.specs.declared.served.Served.TheVariants as served

-- a link as it came and as it went back, the calls of its desk, whether the sign was found raised, and how the connection
-- ended
pub record Visit (L : Type 0) : Type 0 where
  pub came : L
  pub went : L
  pub calls : List Called
  pub raised : Bool
  pub end : Served

abbrev pub visit : {L : Type 0} → L → L → List Called → Bool → Served → Visit L
visit came went calls raised end = record { came = came; went = went; calls = calls; raised = raised; end = end }

module _ {S E L : Type 0} (steps : S → E → S → Type 0) (event_of : E → NodeCall) (reply_of : E → NodeReply) (refuses : S → NodeCall → NodeCall → Type 0) (start : S)
    (gives : ℕ → Type 0) (schema : Book) (remaining written : L → Option (List ℕ)) (faults : L → ℕ) where
  -- The desk's calls were made by the pass, and no other. What was heard, asked by these calls and written is a conversation.
  -- Nothing follows a sign that is raised, and a fault of the link has its cause.
  pub record IsVisit (v : PassView E) (x : Visit L) (w : PassView E) : Type 0 where
    pub made : Makes steps event_of reply_of refuses start v x.calls w
    pub of_desk : AreOfDesk gives x.calls
    pub conversation : IsConversation schema (remaining x.came) (remaining x.went) [] (asks_of x.calls) (written x.came) (written x.went) x.raised x.end
    pub stopped : IsTrue x.raised → x.end ≡ served.Ended
    pub failed : x.end ≡ served.LinkFault → HasRisen (faults x.came) (faults x.went)

  -- the client of a link was served
  pub record Visits (v : PassView E) (came went : L) (w : PassView E) : Type 0 where
    pub calls : List Called
    pub raised : Bool
    pub end : Served
    pub is_visit : IsVisit v (visit came went calls raised end) w
