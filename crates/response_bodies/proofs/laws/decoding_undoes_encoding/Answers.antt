use Rattle.response_bodies.specs.Responses.{opcode_of}
use Rattle.response_bodies.specs.Spelling.{body}
use Rattle.response_bodies.proofs.Words.{response_read}
use Rattle.response_bodies.proofs.Spelled.{response_spelled}
use Rattle.response_bodies.proofs.laws.decoding_undoes_encoding.Goals as goal

pub returns : goal.returns
returns c = λ r has. let word = response_spelled r has in (word, response_read (opcode_of r) (body r) r word)
