-- The laws of changes, stated.
use Rattle.changes.specs.declared.Held.{Held}
use Rattle.changes.specs.Order.{Outranks}

abbrev pub OutranksIsStrict : Type 0
OutranksIsStrict = ((x : Held) → Outranks x x → ⊥) × ((x y z : Held) → Outranks x y → Outranks y z → Outranks x z)
