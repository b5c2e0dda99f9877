-- What the steps of reading give.
use Rattle.std.specs.Prelude.{◌≡◌, ℕ, pos, ◌<◌, ◌≤◌, List, [], ◌∷◌, ◌++◌, length, take, drop, Option, Some, None, Result, Ok, Err}
use Rattle.frame_v4.specs.declared.error.FrameError.{FrameError}
use Rattle.frame_v4.specs.declared.frame.Frame.{Frame}
use Rattle.frame_v4.specs.declared.header.RequestHeader.{RequestHeader}
use Rattle.frame_v4.specs.declared.held.Held.{Held}
use Rattle.frame_v4.specs.Spelling.{Header, header_bytes}
use Rattle.frame_v4.specs.Stream.{IsHeader, header_fault, IsPartial, IsFault, Reads}

-- the fields of a header that the code has read
abbrev pub header_fields : RequestHeader → Header
header_fields h = record { flags = h.flags; stream = h.stream; opcode = h.opcode; body_length = pos h.body_len }

-- a header in which no fault is
pub record Passes (h : RequestHeader) : Type 0 where
  pub fits : IsHeader (header_fields h)
  pub no_fault : header_fault (header_fields h) ≡ None

-- what the test of the fields of a header gives
abbrev pub ChecksHeader : Header → Result RequestHeader FrameError → Type 0
ChecksHeader h (Ok passed) = (header_fields passed ≡ h) × (header_fault h ≡ None)
ChecksHeader h (Err error) = header_fault h ≡ Some error

-- the header at the front of the bytes, none while it may still come, or the fault
abbrev pub ReadsHeader : List ℕ → Result (Option RequestHeader) FrameError → Type 0
ReadsHeader bytes (Ok None) = IsPartial bytes × (length bytes < 9)
ReadsHeader bytes (Ok (Some h)) = Passes h × (bytes ≡ header_bytes 4 (header_fields h) ++ drop 9 bytes)
ReadsHeader bytes (Err error) = IsFault bytes error

abbrev pub frame_of : RequestHeader → List ℕ → Frame
frame_of h body = record { flags = h.flags; stream = h.stream; opcode = h.opcode; body = body }

-- the bytes are a frame of this header and body, and the rest
pub record IsFrameAndRest (bytes : List ℕ) (h : RequestHeader) (body rest : List ℕ) : Type 0 where
  pub passes : Passes h
  pub whole : bytes ≡ header_bytes 4 (header_fields h) ++ body ++ rest
  pub body_length : length body ≡ h.body_len

-- The frames are more by those at the front of the bytes, which the rest or a refusal follows.
pub record AddsFrames (old new : List Frame) (bytes rest : List ℕ) (refusal : Option FrameError) : Type 0 where
  pub more : List Frame
  pub added : new ≡ old ++ more
  pub reads : Reads bytes more rest refusal

-- the bytes that are held, in their order
abbrev pub held_bytes : Held → List ℕ
held_bytes held = take held.header_len held.header ++ held.body.items

-- the header comes before the body, and no whole frame is held
pub record IsHeld (held : Held) : Type 0 where
  pub within : held.header_len ≤ 9
  pub in_order : held.header_len < 9 → held.body.items ≡ []
  pub partial : IsPartial (held_bytes held)

-- the same bytes in the same places; the memory behind them may have grown
pub record HoldsSame (old new : Held) : Type 0 where
  pub header : new.header ≡ old.header
  pub header_len : new.header_len ≡ old.header_len
  pub body : new.body.items ≡ old.body.items

-- the first frame is this, and the bytes after it are the others, which the rest or a refusal follows
pub record CompletesFrame (first : Frame) (after : List ℕ) (frames : List Frame) (rest : List ℕ) (refusal : Option FrameError) : Type 0 where
  pub others : List Frame
  pub is : frames ≡ first ∷ others
  pub reads : Reads after others rest refusal
