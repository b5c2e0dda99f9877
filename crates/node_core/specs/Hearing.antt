-- How an open request moves that a step is about.
use Rattle.std.specs.Prelude.{◌≡◌, ℕ, Bool, true, Option, Some, None, List}
use Rattle.cs_base.specs.declared.ids.ReqId.{ReqId}
use Rattle.changes.specs.declared.Held.{Held}
use Rattle.peer_messages.specs.declared.outcome.Move.{Move}
use Rattle.peer_messages.specs.declared.setting.Setting.{Setting}
use Rattle.node_steps.specs.State.{OpenWrite, OpenRead}
use Rattle.node_steps.specs.Effects.{open_at, after_move, effects_of, AtRequest}
use Rattle.node_steps.specs.Writes.{HearsAck}
use Rattle.node_steps.specs.Reads.{HearsReply, HearsMendAck}
use Rattle.read_coord.specs.Keeping.{ends}
use Rattle.node_core.specs.declared.slot.Found.{Found}
use Rattle.node_core.specs.declared.slot.Slot.{Slot}
use Rattle.node_core.specs.declared.slot.Slot.TheVariants.{Untouched}
use Rattle.node_core.specs.declared.work.Given.{Given}
use Rattle.node_core.specs.Slots.{slot_after, IsNew}
use Rattle.node_core.specs.Working.{with_slot, IsSlotOf, effects_given}

-- the request that is about to move is the open one; put back when it has moved, it stands as after the move
pub record Opens {A : Type 0} (id : ReqId) (xs : List (ReqId × A)) (slot : Slot A) (f : Found A) : Type 0 where
  pub at : open_at (with_slot id slot xs) id ≡ Some f.now
  pub after : (ended : Bool) (a : A) → with_slot id (slot_after f.is_new ended a) xs ≡ after_move ended id a (with_slot id slot xs)
  pub back : (ended : Bool) (a : A) → IsSlotOf id xs (slot_after f.is_new ended a)
  pub new : (ended : Bool) (a : A) → IsNew (slot_after f.is_new ended a) → IsNew slot

abbrev pub IsOpened : {A : Type 0} → ReqId → List (ReqId × A) → Slot A → Option (Found A) → Slot A → Type 0
IsOpened {A} id xs slot None slot' = (open_at (with_slot id slot xs) id ≡ None) × (slot' ≡ slot)
IsOpened {A} id xs slot (Some f) slot' = Opens id xs slot f

-- the step has not touched the open read, and the node's reply of this content ends it
pub record IsLastOpen (c : Setting) (id : ReqId) (from : ℕ) (content : List Held) (xs : List (ReqId × OpenRead)) (slot : Slot OpenRead) (r : OpenRead) : Type 0 where
  pub untouched : slot ≡ Untouched
  pub there : open_at xs id ≡ Some r
  pub last : ends c from content r ≡ true

-- the open request takes a move that gives this
pub record Moves {A : Type 0} (Step : A → Move → A → Type 0) (id : ReqId) (xs : List (ReqId × A)) (slot : Slot A) (g : Given) (slot' : Slot A) : Type 0 where
  pub turn : Move
  pub moves : AtRequest Step id (with_slot id slot xs) turn (with_slot id slot' xs)
  pub gives : effects_given g ≡ effects_of turn
  pub back : IsSlotOf id xs slot'
  pub new : IsNew slot' → IsNew slot

abbrev pub AckMoves : Setting → ReqId → ℕ → List (ReqId × OpenWrite) → Slot OpenWrite → Given → Slot OpenWrite → Type 0
AckMoves c id from xs slot g slot' = Moves (HearsAck c id from) id xs slot g slot'

abbrev pub ReplyMoves : Setting → ReqId → ℕ → List Held → List (ReqId × OpenRead) → Slot OpenRead → Given → Slot OpenRead → Type 0
ReplyMoves c id from content xs slot g slot' = Moves (HearsReply c id from content) id xs slot g slot'

abbrev pub MendMoves : Setting → ReqId → ℕ → List (ReqId × OpenRead) → Slot OpenRead → Given → Slot OpenRead → Type 0
MendMoves c id from xs slot g slot' = Moves (HearsMendAck c id from) id xs slot g slot'
