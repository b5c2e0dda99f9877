-- What is so of all bodies of responses.
use Rattle.std.specs.Prelude.{◌≡◌, ℕ, List, Ok}
use Rattle.body_notations.specs.Notations.{AreBytes}
use Rattle.response_bodies.specs.Responses.{IsResponse, opcode_of}
use Rattle.response_bodies.specs.Reading.{response_in}
use Rattle.response_bodies.specs.Spelling.{body, HasWord, HasOneSpelling}
use Rattle.response_bodies.specs.declared.response.Response.{Response}

-- a frame is of one response
abbrev pub OneReading : Type 0
OneReading = (opcode : ℕ) (bytes : List ℕ) (a b : Response) → IsResponse opcode bytes a → IsResponse opcode bytes b → a ≡ b

-- what is encoded is a word, and is decoded to the response
abbrev pub DecodingUndoesEncoding : Type 0
DecodingUndoesEncoding = (r : Response) → HasWord r → IsResponse (opcode_of r) (body r) r × (response_in (opcode_of r) (body r) ≡ Ok r)

-- what is decoded is encoded as the same bytes
abbrev pub EncodingUndoesDecoding : Type 0
EncodingUndoesDecoding = (opcode : ℕ) (bytes : List ℕ) (r : Response) → AreBytes bytes → HasOneSpelling r → IsResponse opcode bytes r
    → (opcode ≡ opcode_of r) × (bytes ≡ body r)
