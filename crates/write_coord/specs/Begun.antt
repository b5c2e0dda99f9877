-- An open write, of what it has from its start and what came since.
use Rattle.std.specs.Prelude.{ℕ, Bool, List}
use Rattle.node_steps.specs.State.{OpenWrite}
use Rattle.write_coord.specs.declared.Begun.{Begun}

abbrev pub write_of : Begun → List ℕ → Bool → OpenWrite
write_of b heard answered = record { level = b.level; mutation = b.mutation; heard = heard; hinted = b.hinted; answered = answered }
