-- Which steps an adder makes.
use Rattle.std.specs.Prelude.{◌≡◌, ℕ, ◌+◌, ◌≤◌, ◌^◌}
use Rattle.node_lock_bench.specs.declared.adder.Added.{Added}
use Rattle.node_lock_bench.specs.declared.adder.Adder.{Adder}

abbrev pub amount_of : Added → ℕ
amount_of added = added.amount

abbrev pub total_of : Added → ℕ
total_of added = added.total

-- the amount was added, and the entry tells the total then
abbrev pub Adds : Adder → Added → Adder → Type 0
Adds before added after = (after.total ≡ before.total + added.amount) × (added.total ≡ after.total)

-- the total would not fit with the amount, which comes back
abbrev pub PassesItsEnd : Adder → ℕ → ℕ → Type 0
PassesItsEnd state amount back = (back ≡ amount) × (2 ^ 64 ≤ state.total + amount)
