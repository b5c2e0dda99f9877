-- How frames are spelled: section 2 of native_protocol_v4.spec of Apache Cassandra.
use Rattle.std.specs.Prelude.{ℕ, ℤ, pos, List, ◌∷◌, ◌++◌, length}
use Rattle.std.specs.Int.{w16, w32, cast_unsigned, to_be_bytes}
use Rattle.frame_v4.specs.declared.frame.Frame.{Frame}

-- the fields of a header, behind its version
pub record Header : Type 0 where
  pub flags : ℕ
  pub stream : ℤ
  pub opcode : ℕ
  pub body_length : ℤ

-- nine bytes; the stream and the length of the body are signed, in two's complement
abbrev pub header_bytes : ℕ → Header → List ℕ
header_bytes version h = version ∷ h.flags ∷ to_be_bytes w16 (cast_unsigned w16 h.stream) ++ h.opcode ∷ to_be_bytes w32 (cast_unsigned w32 h.body_length)

abbrev pub header_of : Frame → Header
header_of f = record { flags = f.flags; stream = f.stream; opcode = f.opcode; body_length = pos (length f.body) }

-- a frame is its header and its body
abbrev pub frame_bytes : ℕ → Frame → List ℕ
frame_bytes version f = header_bytes version (header_of f) ++ f.body

-- what a client writes is version 4, and what a server answers has the highest bit set beside
abbrev pub request_bytes : Frame → List ℕ
request_bytes = frame_bytes 4

abbrev pub response_bytes : Frame → List ℕ
response_bytes = frame_bytes 132
