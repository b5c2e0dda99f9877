-- The story of a repair: its moves, one behind the other, the newest first.
use Rattle.std.specs.Prelude.{◌≡◌, ℕ, ◌≤◌, ◌⊎◌, None, List, [], ◌∷◌}
use Rattle.cs_base.specs.declared.ids.ReqId.{ReqId}
use Rattle.cs_base.specs.declared.range.Range.{Range}
use Rattle.peer_messages.specs.declared.setting.Setting.{Setting}
use Rattle.repair_messages.specs.declared.message.RepairMessage.{RepairMessage}
use Rattle.repair_messages.specs.declared.outcome.RepairMove.{RepairMove}
use Rattle.repair_moves.specs.declared.repair.Repair.{Repair}
use Rattle.repair_moves.specs.Repairs.{start_repair, started_repair, Hears, Reaches}

-- what makes a repair move
pub data Happening : Type 0 where
  Asked : Happening
  Heard : (from : ℕ) (message : RepairMessage) → Happening
  Time : Happening

-- one move, in a step that rose to this time, and the repair behind it
pub record Turn : Type 0 where
  pub time : ℕ
  pub what : Happening
  pub move : RepairMove
  pub after : Repair

-- it begins
abbrev pub BeginsBy : Setting → Range → Happening → RepairMove → Repair → Type 0
BeginsBy c range Asked turn r = (turn ≡ start_repair c range) × (r ≡ started_repair c range)
BeginsBy c range (Heard from m) turn r = ⊥
BeginsBy c range Time turn r = ⊥

-- it goes on
abbrev pub MovesBy : Setting → ReqId → ℕ → Happening → Repair → RepairMove → Repair → Type 0
MovesBy c id time Asked r turn r' = ⊥
MovesBy c id time (Heard from m) r turn r' = Hears c time from m r turn r'
MovesBy c id time Time r turn r' = Reaches id time r turn r'

-- what one move leaves for the next: the repair is not done with, and time has not fallen
pub record GoesOn (before t : Turn) : Type 0 where
  pub open_still : before.move.answer ≡ None
  pub time : before.time ≤ t.time

abbrev pub Follows : Setting → ReqId → Range → Turn → List Turn → Type 0
Follows c id range t [] = BeginsBy c range t.what t.move t.after
Follows c id range t (before ∷ earlier) = GoesOn before t × MovesBy c id t.time t.what before.after t.move t.after

abbrev pub IsStory : Setting → ReqId → Range → List Turn → Type 0
IsStory c id range [] = Unit {0}
IsStory c id range (t ∷ earlier) = IsStory c id range earlier × Follows c id range t earlier

-- some turn of these is such
abbrev pub Ever : (Turn → Type 0) → List Turn → Type 0
Ever P [] = ⊥
Ever P (t ∷ earlier) = P t ⊎ Ever P earlier
