use Rattle.response_bodies.proofs.Respelled.{response_respelled}
use Rattle.response_bodies.proofs.laws.encoding_undoes_decoding.Goals as goal

pub returns : goal.returns
returns c = λ opcode bytes r small one word. response_respelled opcode bytes r small one word
