-- What an acknowledgement makes of a write.
use Rattle.std.specs.Prelude.{◌≡◌, ℕ}
use Rattle.peer_messages.specs.declared.setting.Setting.{Setting}
use Rattle.node_steps.specs.State.{OpenWrite}
use Rattle.node_steps.specs.Writes.{heard_write, is_enough, is_settled}
use Rattle.write_coord.specs.declared.Tally.{Tally}

-- the replicas heard of with one more, whether they are as many as the level waits for, and whether they are all
pub record IsTally (c : Setting) (from : ℕ) (w : OpenWrite) (t : Tally) : Type 0 where
  pub heard : record w { heard = t.heard } ≡ heard_write c from w
  pub enough : t.enough ≡ is_enough c (heard_write c from w)
  pub settled : t.settled ≡ is_settled c (heard_write c from w)
