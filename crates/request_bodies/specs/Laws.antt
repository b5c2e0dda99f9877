-- What is so of all bodies of requests.
use Rattle.std.specs.Prelude.{◌≡◌, ℕ, false, List, Ok}
use Rattle.body_notations.specs.Notations.{AreBytes}
use Rattle.body_notations.specs.Reading.{is_set}
use Rattle.request_bodies.specs.Requests.{IsRequest, opcode_of}
use Rattle.request_bodies.specs.Reading.{request_in}
use Rattle.request_bodies.specs.Spelling.{body, HasWord, HasOneSpelling}
use Rattle.request_bodies.specs.declared.request.Request.{Request}

-- a frame is of one request
abbrev pub OneReading : Type 0
OneReading = (flags opcode : ℕ) (bytes : List ℕ) (a b : Request) → IsRequest flags opcode bytes a → IsRequest flags opcode bytes b → a ≡ b

-- what is encoded is a word, and is decoded to the request
abbrev pub DecodingUndoesEncoding : Type 0
DecodingUndoesEncoding = (flags : ℕ) (r : Request) → is_set flags 4 ≡ false → HasWord r
    → IsRequest flags (opcode_of r) (body r) r × (request_in flags (opcode_of r) (body r) ≡ Ok r)

-- what is decoded is encoded as the same bytes
abbrev pub EncodingUndoesDecoding : Type 0
EncodingUndoesDecoding = (flags opcode : ℕ) (bytes : List ℕ) (r : Request) → is_set flags 4 ≡ false → AreBytes bytes → HasOneSpelling r
    → IsRequest flags opcode bytes r → (opcode ≡ opcode_of r) × (bytes ≡ body r)
