-- How an open request is taken out of its slot, and put back when it has moved.
use Rattle.std.specs.Prelude.{◌≡◌, Bool, true, false, Option, Some, None}
use Rattle.node_core.specs.declared.slot.Found.{Found}
use Rattle.node_core.specs.declared.slot.Slot.{Slot}
use Rattle.node_core.specs.declared.slot.Slot.TheVariants.{Untouched, New, Old, Gone}

-- what is there to move, and what stays
abbrev pub IsFound : {A : Type 0} → Slot A → Option (Found A) → Slot A → Type 0
IsFound {A} Untouched found slot = (found ≡ None) × (slot ≡ Untouched)
IsFound {A} (New a) found slot = (found ≡ Some (record { now = a; is_new = true })) × (slot ≡ Untouched)
IsFound {A} (Old a) found slot = (found ≡ Some (record { now = a; is_new = false })) × (slot ≡ Untouched)
IsFound {A} Gone found slot = (found ≡ None) × (slot ≡ Gone)

-- what began in the step is taken out
abbrev pub TakesNew : {A : Type 0} → Slot A → Option A → Slot A → Type 0
TakesNew {A} Untouched taken slot = (taken ≡ None) × (slot ≡ Untouched)
TakesNew {A} (New a) taken slot = (taken ≡ Some a) × (slot ≡ Untouched)
TakesNew {A} (Old a) taken slot = (taken ≡ None) × (slot ≡ Old a)
TakesNew {A} Gone taken slot = (taken ≡ None) × (slot ≡ Gone)

-- what moved in it is
abbrev pub TakesOld : {A : Type 0} → Slot A → Option A → Slot A → Type 0
TakesOld {A} Untouched taken slot = (taken ≡ None) × (slot ≡ Untouched)
TakesOld {A} (New a) taken slot = (taken ≡ None) × (slot ≡ New a)
TakesOld {A} (Old a) taken slot = (taken ≡ Some a) × (slot ≡ Untouched)
TakesOld {A} Gone taken slot = (taken ≡ None) × (slot ≡ Gone)

-- the request began in the step
abbrev pub IsNew : {A : Type 0} → Slot A → Type 0
IsNew {A} Untouched = ⊥
IsNew {A} (New a) = Unit {0}
IsNew {A} (Old a) = ⊥
IsNew {A} Gone = ⊥

abbrev pub slot_after : {A : Type 0} → Bool → Bool → A → Slot A
slot_after {A} true true a = Untouched
slot_after {A} true false a = New a
slot_after {A} false true a = Gone
slot_after {A} false false a = Old a
