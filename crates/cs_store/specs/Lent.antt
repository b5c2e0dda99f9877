-- What is kept of the nodes whose stores are handed out.
use Rattle.std.specs.Prelude.{ℕ, List, slice_index_or}
use Rattle.cs_store.specs.declared.lent.Lent.{Lent}

-- by the nodes' numbers
abbrev pub lent_at : List Lent → ℕ → Lent
lent_at nodes n = slice_index_or nodes n (record { faults = 0; taken = 0 })
