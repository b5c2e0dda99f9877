use Rattle.request_bodies.specs.Requests.{opcode_of}
use Rattle.request_bodies.specs.Spelling.{body}
use Rattle.request_bodies.proofs.Words.{request_read}
use Rattle.request_bodies.proofs.Spelled.{request_spelled}
use Rattle.request_bodies.proofs.laws.decoding_undoes_encoding.Goals as goal

pub returns : goal.returns
returns c = λ flags r unset has. let word = request_spelled flags r unset has in (word, request_read flags (opcode_of r) (body r) r word)
