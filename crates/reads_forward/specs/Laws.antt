-- The theorem on reads that follow one another.
use Rattle.peer_messages.specs.declared.setting.Setting.{Setting}
use Rattle.cluster_runs.specs.World.{World}
use Rattle.cluster_runs.specs.Run.{Run}
use Rattle.reads_forward.specs.ReadsForward.{ReadsForward}

-- in each run each read goes forward from those that were answered before it began
abbrev pub ReadsGoForward : Type 0
ReadsGoForward = (c : Setting) (w : World) → Run c w → ReadsForward c w.chronicle
