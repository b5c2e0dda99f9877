-- The story of an operation: its moves, one behind the other, the newest first.
use Rattle.std.specs.Prelude.{◌≡◌, ℕ, ◌≤◌, ◌⊎◌, false, List, [], ◌∷◌}
use Rattle.cs_base.specs.declared.level.Level.{Level}
use Rattle.cs_base.specs.declared.ids.ReqId.{ReqId}
use Rattle.statement_plan.specs.declared.operation.ConditionalOperation.{ConditionalOperation}
use Rattle.paxos_messages.specs.declared.message.PaxosMessage.{PaxosMessage}
use Rattle.paxos_messages.specs.declared.outcome.PaxosMove.{PaxosMove}
use Rattle.paxos_moves.specs.declared.operation.Context.{Context}
use Rattle.paxos_moves.specs.declared.operation.Operation.{Operation}
use Rattle.paxos_moves.specs.Operations.{Begins, Hears, Reaches}
use Rattle.paxos_moves.specs.Timing.{time_by}

-- what makes an operation move
pub data Happening : Type 0 where
  Asked : (level : Level) (operation : ConditionalOperation) → Happening
  Heard : (from : ℕ) (message : PaxosMessage) → Happening
  Time : Happening

-- one move, and the operation behind it
pub record Turn : Type 0 where
  pub context : Context
  pub what : Happening
  pub move : PaxosMove
  pub after : Operation

-- it begins
abbrev pub BeginsBy : ReqId → Context → Happening → PaxosMove → Operation → Type 0
BeginsBy id c (Asked level op) turn o = Begins c id level op turn o
BeginsBy id c (Heard from m) turn o = ⊥
BeginsBy id c Time turn o = ⊥

-- it goes on
abbrev pub MovesBy : ReqId → Context → Happening → Operation → PaxosMove → Operation → Type 0
MovesBy id c (Asked level op) o turn o' = ⊥
MovesBy id c (Heard from m) o turn o' = Hears c id from m o turn o'
MovesBy id c Time o turn o' = Reaches c id o turn o'

-- what one move leaves for the next: the operation is not done with, its node and its replicas are the same, and node time has
-- not fallen behind a ballot that was made
pub record GoesOn (before t : Turn) : Type 0 where
  pub open_still : before.move.ended ≡ false
  pub me : t.context.me ≡ before.context.me
  pub members : t.context.members ≡ before.context.members
  pub majority : t.context.majority ≡ before.context.majority
  pub needed : t.context.needed ≡ before.context.needed
  pub time : time_by before.move.ballot before.context.time ≤ t.context.time

abbrev pub Follows : ReqId → Turn → List Turn → Type 0
Follows id t [] = BeginsBy id t.context t.what t.move t.after
Follows id t (before ∷ earlier) = GoesOn before t × MovesBy id t.context t.what before.after t.move t.after

abbrev pub IsStory : ReqId → List Turn → Type 0
IsStory id [] = Unit {0}
IsStory id (t ∷ earlier) = IsStory id earlier × Follows id t earlier

-- some turn of these is such
abbrev pub Ever : (Turn → Type 0) → List Turn → Type 0
Ever P [] = ⊥
Ever P (t ∷ earlier) = P t ⊎ Ever P earlier
