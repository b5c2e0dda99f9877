use Rattle.std.proofs.Common.{sym, ◌∙◌}
use Rattle.body_notations.proofs.Words.{ok_same}
use Rattle.request_bodies.proofs.Words.{request_read}
use Rattle.request_bodies.proofs.laws.one_reading.Goals as goal

pub returns : goal.returns
returns c = λ flags opcode bytes a b first second. ok_same a b (sym (request_read flags opcode bytes a first) ∙ request_read flags opcode bytes b second)
