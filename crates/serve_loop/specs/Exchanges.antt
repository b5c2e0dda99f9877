-- What a connection answers to the frames that it hears.
use Rattle.std.specs.Prelude.{◌≡◌, ◌≢◌, ◌⊎◌, ◌<◌, ◌^◌, ℕ, ℤ, List, [], ◌∷◌, ◌++◌, length, take, Some}
use Rattle.client_desk.specs.Asks.{Asked}
use Rattle.client_desk.specs.declared.answer.Answer.{Answer}
use Rattle.client_desk.specs.declared.answer.Answer.TheVariants as answers
use Rattle.frame_v4.specs.Spelling.{response_bytes}
use Rattle.frame_v4.specs.declared.frame.Frame.{Frame}
use Rattle.peer_messages.specs.declared.chronicle.Refusal.TheVariants.{Down}
use Rattle.response_bodies.specs.Responses.{opcode_of}
use Rattle.response_bodies.specs.Spelling.{body}
use Rattle.response_bodies.specs.declared.response.Response.{Response}
use Rattle.session_v4.specs.Sessions.{State, IsDue, IsAnswered}
use Rattle.session_v4.specs.Words.{HasWord, wordless}
use Rattle.session_v4.specs.declared.act.Act.TheVariants as acts

-- ---- the bytes of a response

-- it has a word, and a body of at most 2 ^ 31 - 1 bytes. Kept closed: what fits is long to write out
unfoldable pub FitsFrame : Response → Type 0
FitsFrame r = HasWord r × (length (body r) < 2 ^ 31)

-- the response that is due, or another in its place where no frame can hold it
abbrev pub IsSent : Response → Response → Type 0
IsSent due r = (FitsFrame due × (r ≡ due)) ⊎ ((FitsFrame due → ⊥) × (r ≡ wordless))

abbrev pub frame_of : ℤ → Response → Frame
frame_of stream r = record { flags = 0; stream = stream; opcode = opcode_of r; body = body r }

-- the bytes of what is sent where this response is due
pub record AreBytesOf (stream : ℤ) (due : Response) (bytes : List ℕ) : Type 0 where
  pub sent : Response
  pub is_sent : IsSent due sent
  pub spelled : bytes ≡ response_bytes (frame_of stream sent)

-- ---- one frame

-- what a frame came to: what was asked of the desk for it, and the bytes of its response
pub record AtOnce (s : State) (f : Frame) (asked : List Asked) (bytes : List ℕ) (s' : State) : Type 0 where
  pub response : Response
  pub due : IsDue s f (acts.Reply response) s'
  pub unasked : asked ≡ []
  pub are_bytes : AreBytesOf f.stream response bytes

-- a node was asked, and its answer was told
pub record ByDesk (s : State) (f : Frame) (asked : List Asked) (bytes : List ℕ) (s' : State) : Type 0 where
  pub waiting : State
  pub ask : Asked
  pub answer : Answer
  pub response : Response
  pub due : IsDue s f (acts.Submit ask.ask) waiting
  pub is_asked : asked ≡ ask ∷ []
  pub answered : ask.answer ≡ Some answer
  pub runs : answer ≢ answers.Refused Down
  pub told : IsAnswered waiting answer response s'
  pub are_bytes : AreBytesOf f.stream response bytes

abbrev pub IsExchange : State → Frame → List Asked → List ℕ → State → Type 0
IsExchange s f asked bytes s' = AtOnce s f asked bytes s' ⊎ ByDesk s f asked bytes s'

-- ---- frames, one after another

-- the first frame, and the others behind it
pub record Goes (P : State → List Asked → List ℕ → State → Type 0) (s : State) (f : Frame) (asked : List Asked) (bytes : List ℕ) (s' : State) : Type 0 where
  pub mid : State
  pub first_asked : List Asked
  pub later_asked : List Asked
  pub first_bytes : List ℕ
  pub later_bytes : List ℕ
  pub first : IsExchange s f first_asked first_bytes mid
  pub later : P mid later_asked later_bytes s'
  pub all_asked : asked ≡ first_asked ++ later_asked
  pub all_bytes : bytes ≡ first_bytes ++ later_bytes

abbrev pub Exchanges : List Frame → State → List Asked → List ℕ → State → Type 0
Exchanges [] s asked bytes s' = (asked ≡ []) × (bytes ≡ []) × (s' ≡ s)
Exchanges (f ∷ fs) s asked bytes s' = Goes (Exchanges fs) s f asked bytes s'

-- ---- a frame that was not answered to the end

-- it was not looked at, or there was no memory to do so; a node was asked and its answer was not told; or its response was
-- written in part
pub data IsCut (s : State) (f : Frame) (asked : List Asked) (bytes : List ℕ) : Type 0 where
  untaken : asked ≡ [] → bytes ≡ [] → IsCut s f asked bytes
  untold : (waiting : State) (ask : Asked) → IsDue s f (acts.Submit ask.ask) waiting → asked ≡ ask ∷ [] → bytes ≡ [] → IsCut s f asked bytes
  unwritten : (whole : List ℕ) (s' : State) (n : ℕ) → IsExchange s f asked whole s' → bytes ≡ take n whole → n < length whole → IsCut s f asked bytes
