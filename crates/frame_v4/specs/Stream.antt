-- Streams of request frames, of which any beginning may have come.
use Rattle.std.specs.Prelude.{◌≡◌, ◌≢◌, ℕ, pos, ◌<ℤ◌, ◌<◌, ◌≤◌, Bool, false, ◌==◌, List, [], ◌∷◌, ◌++◌, length, Option, Some, None, FitsSigned, int_lt, unsigned_abs, if◌then◌else◌}
use Rattle.std.specs.List.{flat_map, AllByRecursion}
use Rattle.std.specs.Int.{w16, w32, bit_at}
use Rattle.frame_v4.specs.declared.error.FrameError.{FrameError}
use Rattle.frame_v4.specs.declared.error.FrameError.TheVariants.{Version, Compressed, TooLong, NegativeLength}
use Rattle.frame_v4.specs.declared.frame.Frame.{Frame}
use Rattle.frame_v4.specs.Spelling.{Header, header_bytes, request_bytes}

-- flag 01
abbrev pub is_compressed : ℕ → Bool
is_compressed flags = bit_at flags 0 == 1

-- 16 MiB
abbrev pub longest_body : ℕ
longest_body = 16777216

-- a frame that a stream may have
pub record IsFrame (f : Frame) : Type 0 where
  pub stream : FitsSigned w16 f.stream
  pub uncompressed : is_compressed f.flags ≡ false
  pub within : length f.body ≤ longest_body

-- numbers that the bytes of a header can hold
pub record IsHeader (h : Header) : Type 0 where
  pub stream : FitsSigned w16 h.stream
  pub body_length : FitsSigned w32 h.body_length

-- Why a header is refused, if it is. Where two causes hold the first of this order counts.
abbrev pub header_fault : Header → Option FrameError
header_fault h =
    if is_compressed h.flags then Some (Compressed h.stream)
    else (if int_lt h.body_length (pos 0) then Some (NegativeLength h.stream h.body_length)
    else (if int_lt (pos longest_body) h.body_length then Some (TooLong h.stream (unsigned_abs h.body_length))
    else None))

-- Less than a whole frame, in which no fault can be seen: nothing; fewer bytes than a header, of which the first is
-- the version; or a header, and fewer bytes behind it than it says.
pub data IsPartial (bytes : List ℕ) : Type 0 where
  nothing : bytes ≡ [] → IsPartial bytes
  in_header : (rest : List ℕ) → bytes ≡ 4 ∷ rest → length bytes < 9 → IsPartial bytes
  in_body : (h : Header) (body : List ℕ) → IsHeader h → header_fault h ≡ None → bytes ≡ header_bytes 4 h ++ body → pos (length body) <ℤ h.body_length → IsPartial bytes

-- A fault in the place of a frame, whatever follows it: another version, which its one byte shows, or a header.
pub data IsFault (bytes : List ℕ) (error : FrameError) : Type 0 where
  at_version : (version : ℕ) (more : List ℕ) → version ≢ 4 → bytes ≡ version ∷ more → error ≡ Version version → IsFault bytes error
  at_header : (h : Header) (more : List ℕ) → IsHeader h → header_fault h ≡ Some error → bytes ≡ header_bytes 4 h ++ more → IsFault bytes error

-- the stream is these frames, and then less than a whole one
pub record Splits (stream : List ℕ) (frames : List Frame) (rest : List ℕ) : Type 0 where
  pub whole : stream ≡ flat_map request_bytes frames ++ rest
  pub each : AllByRecursion IsFrame frames
  pub partial : IsPartial rest

-- the stream is these frames, and then a fault
pub record Breaks (stream : List ℕ) (frames : List Frame) (error : FrameError) : Type 0 where
  pub rest : List ℕ
  pub whole : stream ≡ flat_map request_bytes frames ++ rest
  pub each : AllByRecursion IsFrame frames
  pub fault : IsFault rest error

-- The stream is these frames, and then the rest, or the refusal if there is one.
abbrev pub Reads : List ℕ → List Frame → List ℕ → Option FrameError → Type 0
Reads stream frames rest None = Splits stream frames rest
Reads stream frames rest (Some error) = Breaks stream frames error
