-- Laws of streams.
use Rattle.std.specs.Prelude.{◌≡◌, ◌≢◌, ℕ, ◌<◌, List, [], ◌∷◌, ◌++◌, take, Option, Some, None}
use Rattle.std.specs.List.{All, flat_map, AllByRecursion}
use Rattle.frame_v4.specs.declared.error.FrameError.{FrameError}
use Rattle.frame_v4.specs.declared.error.FrameError.TheVariants.{Version}
use Rattle.frame_v4.specs.declared.frame.Frame.{Frame}
use Rattle.frame_v4.specs.Spelling.{Header, header_bytes, request_bytes}
use Rattle.frame_v4.specs.Stream.{IsFrame, IsHeader, header_fault, Splits, Breaks, Reads}

-- two readings of a stream are one
abbrev pub OneReading : Type 0
OneReading = (stream : List ℕ) (frames others : List Frame) (rest more : List ℕ) (refusal other : Option FrameError)
    → Reads stream frames rest refusal → Reads stream others more other → (frames ≡ others) × (refusal ≡ other) × (refusal ≡ None → rest ≡ more)

-- what comes next is read behind what was held
abbrev pub GoesOn : Type 0
GoesOn = (stream piece held rest : List ℕ) (before frames : List Frame) (refusal : Option FrameError)
    → Splits stream before held → Reads (held ++ piece) frames rest refusal → Reads (stream ++ piece) (before ++ frames) rest refusal

-- a refusal is the same whatever comes behind it
abbrev pub RefusalStands : Type 0
RefusalStands = (stream more : List ℕ) (frames : List Frame) (error : FrameError) → Breaks stream frames error → Breaks (stream ++ more) frames error

-- a frame that was written comes first, whatever follows it
abbrev pub FirstFrame : Type 0
FirstFrame = (f : Frame) (after rest : List ℕ) (frames : List Frame) (refusal : Option FrameError)
    → IsFrame f → Reads (request_bytes f ++ after) frames rest refusal → (others : List Frame) × (frames ≡ f ∷ others) × Reads after others rest refusal

-- each string of bytes is read in some way, so a framer has an answer to any
abbrev pub EachIsRead : Type 0
EachIsRead = (stream : List ℕ) → All (λ byte. byte < 256) stream → (frames : List Frame) × (rest : List ℕ) × (refusal : Option FrameError) × Reads stream frames rest refusal

-- behind frames of a stream a fault comes with the one byte of its version, or with the ninth byte of its header
abbrev pub RefusalComes : Type 0
RefusalComes = (frames : List Frame) → AllByRecursion IsFrame frames
    → ((version : ℕ) → version ≢ 4 → Splits (flat_map request_bytes frames) frames [] × Breaks (flat_map request_bytes frames ++ version ∷ []) frames (Version version))
    × ((h : Header) (error : FrameError) → IsHeader h → header_fault h ≡ Some error
    → ((count : ℕ) → count < 9 → Splits (flat_map request_bytes frames ++ take count (header_bytes 4 h)) frames (take count (header_bytes 4 h)))
    × Breaks (flat_map request_bytes frames ++ header_bytes 4 h) frames error)
