-- Groups of items.
use Rattle.std.specs.Prelude.{◌≡◌, ℕ, List, [], ◌∷◌, ◌++◌, length, Vec}
use Rattle.std.specs.declared.alloc.Global.{Global}

-- the items of groups, one group behind another
abbrev pub flat : {A : Type 0} → List (Vec A Global) → List A
flat [] = []
flat (group ∷ groups) = group.items ++ flat groups

abbrev pub HasSize : {A : Type 0} → ℕ → Vec A Global → Type 0
HasSize size group = length group.items ≡ size
