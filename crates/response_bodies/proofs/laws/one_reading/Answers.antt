use Rattle.std.proofs.Common.{sym, ◌∙◌}
use Rattle.body_notations.proofs.Words.{ok_same}
use Rattle.response_bodies.proofs.Words.{response_read}
use Rattle.response_bodies.proofs.laws.one_reading.Goals as goal

pub returns : goal.returns
returns c = λ opcode bytes a b first second. ok_same a b (sym (response_read opcode bytes a first) ∙ response_read opcode bytes b second)
