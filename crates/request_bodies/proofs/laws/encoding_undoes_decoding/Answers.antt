use Rattle.request_bodies.proofs.Respelled.{request_respelled}
use Rattle.request_bodies.proofs.laws.encoding_undoes_decoding.Goals as goal

pub returns : goal.returns
returns c = λ flags opcode bytes r unset small one word. request_respelled flags opcode bytes r unset small one word
