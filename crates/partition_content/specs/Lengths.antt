-- The length that the changes have with others.
use Rattle.std.specs.Prelude.{◌≡◌, ◌≢◌, ℕ, ◌⊎◌, ◌+◌, ◌≤◌, List, [], ◌∷◌, Option, Some, None, Contains}
use Rattle.std.specs.List.{sum_by}
use Rattle.std.specs.declared.cmp.Ordering.TheVariants.{Less}
use Rattle.changes.specs.declared.Held.{Held}
use Rattle.changes.specs.Contents.{IsMergeOf, IsReachedBy}
use Rattle.changes.specs.Lengths.{held_length, changes_length}
use Rattle.changes.specs.Order.{rank_cmp}
use Rattle.changes.specs.Places.{AreInOrder}
use Rattle.partition_content.specs.declared.spots.Spot.TheVariants.{At}
use Rattle.partition_content.specs.Slots.{SlotMap, changes_of, change_in, IsReachedAt, slot_at}

-- the content of both, in order, has this length
abbrev pub IsMergedLength : List Held → List Held → ℕ → Type 0
IsMergedLength held incoming n = (merged : List Held) → IsMergeOf merged held incoming → AreInOrder merged → n ≡ changes_length merged

-- the length once x has come to a place where this change is, which x replaces if it beats it
abbrev pub IsLengthAt : Held → Option Held → ℕ → ℕ → Type 0
IsLengthAt x None before after = after ≡ before + held_length x
IsLengthAt x (Some y) before after = ((rank_cmp y x ≢ Less) × (after ≡ before)) ⊎ ((rank_cmp y x ≡ Less) × (after + held_length y ≡ before + held_length x))

-- x is reached by a change that is there, or else what comes of it is told at its place
abbrev pub IsLengthBeside : SlotMap → Held → ℕ → ℕ → Type 0
IsLengthBeside slots x before after =
    (IsReachedBy (changes_of slots.entries) x × (after ≡ before))
    ⊎ ((IsReachedBy (changes_of slots.entries) x → IsReachedAt (change_in (slot_at slots (At x.place))) x) × IsLengthAt x (change_in (slot_at slots (At x.place))) before after)

-- x counts unless a change that is held reaches it
abbrev pub IsGainedWith : List Held → Held → ℕ → ℕ → Type 0
IsGainedWith held x others all = (IsReachedBy held x × (all ≡ others)) ⊎ ((IsReachedBy held x → ⊥) × (all ≡ held_length x + others))

-- no change stands twice
abbrev pub AreOnce : List Held → Type 0
AreOnce [] = Unit {0}
AreOnce (x ∷ xs) = (Contains xs x → ⊥) × AreOnce xs

-- the changes of which G is not told have this length together
pub record IsPartLength (G : Held → Type 0) (xs : List Held) (n : ℕ) : Type 0 where
  pub part : List Held
  pub once : AreOnce part
  pub within : (x : Held) → Contains part x → Contains xs x × (G x → ⊥)
  pub all : (x : Held) → Contains xs x → Contains part x ⊎ G x
  pub long : n ≡ sum_by held_length part
  pub most : n ≤ sum_by held_length xs
