use Rattle.session_v4.proofs.PageStarts.{pages_begin}
use Rattle.session_v4.proofs.laws.pages_begin_behind_a_row.Goals as goal

pub returns : goal.returns
returns c = pages_begin
