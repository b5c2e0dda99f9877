use Rattle.session_v4.proofs.Staying.{leaves_open}
use Rattle.session_v4.proofs.laws.frames_leave_connections_open.Goals as goal

pub returns : goal.returns
returns c = leaves_open
