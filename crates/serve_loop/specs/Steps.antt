-- What the steps of a connection come to.
use Rattle.std.specs.Prelude.{◌≡◌, ◌≢◌, ◌⊎◌, ◌<◌, ℕ, ℤ, Bool, IsTrue, List, [], ◌∷◌, ◌++◌, length, take, Option, Some, None, Result, Ok, Err}
use Rattle.std.specs.Option.{option_map}
use Rattle.std.specs.declared.alloc.AllocError.{AllocError}
use Rattle.client_desk.specs.Asks.{Asked}
use Rattle.client_desk.specs.declared.answer.Answer.{Answer}
use Rattle.client_desk.specs.declared.answer.Answer.TheVariants as answers
use Rattle.frame_v4.specs.Framer.{State as FramerState}
use Rattle.frame_v4.specs.Stream.{Reads}
use Rattle.frame_v4.specs.declared.error.FrameError.{FrameError}
use Rattle.frame_v4.specs.declared.error.FrameError.TheVariants.{NoMemory}
use Rattle.frame_v4.specs.declared.frame.Frame.{Frame}
use Rattle.peer_messages.specs.declared.event.Ask.{Ask}
use Rattle.peer_messages.specs.declared.chronicle.Refusal.TheVariants.{Down}
use Rattle.response_bodies.specs.declared.response.Response.{Response}
use Rattle.session_v4.specs.Sessions.{State, IsDue, IsAnswered}
use Rattle.session_v4.specs.declared.act.Act.TheVariants as acts
use Rattle.serve_loop.specs.Conversations.{IsAtEnd, IsRefusal}
use Rattle.serve_loop.specs.Exchanges.{AreBytesOf, IsExchange, Exchanges, IsCut}
use Rattle.serve_loop.specs.declared.hearing.Input.{Input}
use Rattle.serve_loop.specs.declared.hearing.Input.TheVariants as inputs
use Rattle.serve_loop.specs.declared.served.Served.{Served}
use Rattle.serve_loop.specs.declared.served.Served.TheVariants as served

-- ---- writing

-- where a link tells what it took, these bytes came behind it
abbrev pub Writes : Option (List ℕ) → Option (List ℕ) → List ℕ → Type 0
Writes before after bytes = after ≡ option_map (λ sent. sent ++ bytes) before

-- not all of the bytes were written
pub record WritesFront (before after : Option (List ℕ)) (whole : List ℕ) : Type 0 where
  pub count : ℕ
  pub short : count < length whole
  pub front : Writes before after (take count whole)

pub record SendsAll (before after : Option (List ℕ)) (stream : ℤ) (due : Response) : Type 0 where
  pub bytes : List ℕ
  pub are_bytes : AreBytesOf stream due bytes
  pub writes : Writes before after bytes

pub record SendsFront (before after : Option (List ℕ)) (stream : ℤ) (due : Response) : Type 0 where
  pub bytes : List ℕ
  pub are_bytes : AreBytesOf stream due bytes
  pub writes : WritesFront before after bytes

-- ---- asking

-- a desk was asked once, and gave this answer if there was one by then
pub record AsksOnce (before after : List Asked) (ask : Ask) (answer : Option Answer) : Type 0 where
  pub asked : Asked
  pub is_ask : asked.ask ≡ ask
  pub is_answer : asked.answer ≡ answer
  pub is_after : after ≡ before ++ asked ∷ []

-- what a client is told of an answer: nothing where its node does not run
abbrev pub Tells : State → Answer → Result (Option Response) AllocError → State → Type 0
Tells s answer (Ok (Some r)) s' = (answer ≢ answers.Refused Down) × IsAnswered s answer r s'
Tells s answer (Ok None) s' = answer ≡ answers.Refused Down
Tells s answer (Err e) s' = Unit {0}

-- nothing is told where the sign was raised before there was an answer
abbrev pub TellsIfAny : State → (raised : Bool) → Option Answer → Result (Option Response) AllocError → State → Type 0
TellsIfAny s raised (Some answer) told s' = Tells s answer told s'
TellsIfAny s raised None told s' = (told ≡ Ok None) × IsTrue raised

pub record AsksAndTells (before after : List Asked) (ask : Ask) (s : State) (raised : Bool) (told : Result (Option Response) AllocError) (s' : State) : Type 0 where
  pub answer : Option Answer
  pub asks : AsksOnce before after ask answer
  pub tells : TellsIfAny s raised answer told s'

-- ---- what is due for a frame, once it is known

pub record DueAtOnce (s : State) (f : Frame) (r : Response) (asked : List Asked) (s' : State) : Type 0 where
  pub due : IsDue s f (acts.Reply r) s'
  pub unasked : asked ≡ []

pub record DueByDesk (s : State) (f : Frame) (r : Response) (asked : List Asked) (s' : State) : Type 0 where
  pub waiting : State
  pub ask : Asked
  pub answer : Answer
  pub due : IsDue s f (acts.Submit ask.ask) waiting
  pub is_asked : asked ≡ ask ∷ []
  pub answered : ask.answer ≡ Some answer
  pub runs : answer ≢ answers.Refused Down
  pub told : IsAnswered waiting answer r s'

-- a node was asked, and its answer, or that there was none by then, is not told
pub record IsAsked (answer : Option Answer) (s : State) (f : Frame) (asked : List Asked) : Type 0 where
  pub waiting : State
  pub ask : Asked
  pub due : IsDue s f (acts.Submit ask.ask) waiting
  pub is_asked : asked ≡ ask ∷ []
  pub answered : ask.answer ≡ answer

-- the node that was asked does not run, or the sign was raised before it had answered
abbrev pub GivesNone : State → (raised : Bool) → Frame → List Asked → Type 0
GivesNone s raised f asked = IsAsked (Some (answers.Refused Down)) s f asked ⊎ IsAsked None s f asked × IsTrue raised

-- there was no memory for the frame, or for a node's answer
pub data IsUntold (s : State) (f : Frame) (asked : List Asked) : Type 0 where
  at_frame : asked ≡ [] → IsUntold s f asked
  at_answer : (waiting : State) (ask : Asked) → IsDue s f (acts.Submit ask.ask) waiting → asked ≡ ask ∷ [] → IsUntold s f asked

abbrev pub IsFound : State → Frame → (raised : Bool) → Result (Option Response) AllocError → List Asked → State → Type 0
IsFound s f raised (Ok (Some r)) asked s' = DueAtOnce s f r asked s' ⊎ DueByDesk s f r asked s'
IsFound s f raised (Ok None) asked s' = GivesNone s raised f asked
IsFound s f raised (Err e) asked s' = IsUntold s f asked

pub record Finds (before after : List Asked) (s : State) (f : Frame) (raised : Bool) (found : Result (Option Response) AllocError) (s' : State) : Type 0 where
  pub asked : List Asked
  pub is_after : after ≡ before ++ asked
  pub is_found : IsFound s f raised found asked s'

-- ---- one frame

-- how what was found for a frame is told
abbrev pub SendsFound : Option Response → Option Served → (before after : Option (List ℕ)) → (stream : ℤ) → Type 0
SendsFound None end before after stream = (end ≡ Some served.Ended) × (after ≡ before)
SendsFound (Some r) None before after stream = SendsAll before after stream r
SendsFound (Some r) (Some served.Ended) before after stream = ⊥
SendsFound (Some r) (Some served.Closed) before after stream = ⊥
SendsFound (Some r) (Some served.LinkFault) before after stream = SendsFront before after stream r
SendsFound (Some r) (Some served.NoMemory) before after stream = after ≡ before

-- how a connection ends at a frame
abbrev pub EndsAt : Served → Bool → State → Frame → List Asked → List ℕ → Type 0
EndsAt served.Ended raised s f asked bytes = (asked ≡ []) × (bytes ≡ []) × IsTrue raised ⊎ GivesNone s raised f asked × (bytes ≡ [])
EndsAt served.Closed raised s f asked bytes = ⊥
EndsAt served.LinkFault raised s f asked bytes = IsCut s f asked bytes
EndsAt served.NoMemory raised s f asked bytes = IsCut s f asked bytes

-- a frame was answered, or the connection ended there
abbrev pub ServesFrame : Option Served → Bool → State → Frame → List Asked → List ℕ → State → Type 0
ServesFrame None raised s f asked bytes s' = IsExchange s f asked bytes s'
ServesFrame (Some end) raised s f asked bytes s' = EndsAt end raised s f asked bytes

-- what a step asked of its desk and wrote to its link
pub record Steps (P : List Asked → List ℕ → Type 0) (asks asks' : List Asked) (wrote wrote' : Option (List ℕ)) : Type 0 where
  pub asked : List Asked
  pub bytes : List ℕ
  pub is_asked : asks' ≡ asks ++ asked
  pub writes : Writes wrote wrote' bytes
  pub comes_to : P asked bytes

-- ---- several frames, and the fault behind them if there is one

-- the first of the frames were answered, and the connection ended at the next
pub record EndsAmong (end : Served) (raised : Bool) (s : State) (frames : List Frame) (asked : List Asked) (bytes : List ℕ) : Type 0 where
  pub front : List Frame
  pub frame : Frame
  pub back : List Frame
  pub state : State
  pub first_asked : List Asked
  pub last_asked : List Asked
  pub first_bytes : List ℕ
  pub last_bytes : List ℕ
  pub all_frames : frames ≡ front ++ frame ∷ back
  pub exchanges : Exchanges front s first_asked first_bytes state
  pub ends : EndsAt end raised state frame last_asked last_bytes
  pub all_asked : asked ≡ first_asked ++ last_asked
  pub all_bytes : bytes ≡ first_bytes ++ last_bytes

abbrev pub ServesFrames : Option Served → Bool → State → List Frame → List Asked → List ℕ → State → Type 0
ServesFrames None raised s frames asked bytes s' = Exchanges frames s asked bytes s'
ServesFrames (Some end) raised s frames asked bytes s' = EndsAmong end raised s frames asked bytes

-- a fault was told, or in part
pub record TellsFront (error : FrameError) (bytes : List ℕ) : Type 0 where
  pub whole : List ℕ
  pub count : ℕ
  pub is_refusal : IsRefusal error whole
  pub short : count < length whole
  pub front : bytes ≡ take count whole

abbrev pub ClosesBy : Served → FrameError → List ℕ → Type 0
ClosesBy served.Ended error bytes = ⊥
ClosesBy served.Closed error bytes = IsRefusal error bytes
ClosesBy served.LinkFault error bytes = TellsFront error bytes
ClosesBy served.NoMemory error bytes = TellsFront error bytes

pub record TellsFault (end : Served) (error : FrameError) (before after : Option (List ℕ)) : Type 0 where
  pub bytes : List ℕ
  pub writes : Writes before after bytes
  pub closes : ClosesBy end error bytes

-- all frames were answered, and the fault behind them told, or in part
pub record EndsBehind (end : Served) (s : State) (frames : List Frame) (error : FrameError) (asked : List Asked) (bytes : List ℕ) : Type 0 where
  pub state : State
  pub first_bytes : List ℕ
  pub last_bytes : List ℕ
  pub exchanges : Exchanges frames s asked first_bytes state
  pub closes : ClosesBy end error last_bytes
  pub all_bytes : bytes ≡ first_bytes ++ last_bytes

abbrev pub EndsIn : Served → Bool → State → List Frame → Option FrameError → List Asked → List ℕ → Type 0
EndsIn end raised s frames None asked bytes = EndsAmong end raised s frames asked bytes
EndsIn end raised s frames (Some error) asked bytes = EndsAmong end raised s frames asked bytes ⊎ EndsBehind end s frames error asked bytes

abbrev pub ServesRead : Option Served → Bool → State → List Frame → Option FrameError → List Asked → List ℕ → State → Type 0
ServesRead None raised s frames refusal asked bytes s' = Exchanges frames s asked bytes s' × (refusal ≡ None)
ServesRead (Some end) raised s frames refusal asked bytes s' = EndsIn end raised s frames refusal asked bytes

-- ---- what is heard

-- what came of a peer with these bytes, and what is held behind them
abbrev pub IsInput : Result Input Served → (piece : List ℕ) → (left left' : Option (List ℕ)) → FramerState → FramerState → Type 0
IsInput (Ok (inputs.Frames d)) piece left left' s s' =
    Reads (s.held ++ piece) d.frames s'.held d.refusal × (d.refusal ≡ None → s'.refusal ≡ None) × (d.refusal ≢ Some NoMemory)
IsInput (Ok inputs.Idle) piece left left' s s' = (piece ≡ []) × (s' ≡ s)
IsInput (Ok inputs.End) piece left left' s s' = (piece ≡ []) × (s' ≡ s) × IsAtEnd left left'
IsInput (Err served.Ended) piece left left' s s' = ⊥
IsInput (Err served.Closed) piece left left' s s' = ⊥
IsInput (Err served.LinkFault) piece left left' s s' = (piece ≡ []) × (s' ≡ s)
IsInput (Err served.NoMemory) piece left left' s s' = s' ≡ s

-- a fault of the stream is not want of memory
abbrev pub IsSound : Input → Type 0
IsSound (inputs.Frames d) = d.refusal ≢ Some NoMemory
IsSound inputs.Idle = Unit {0}
IsSound inputs.End = Unit {0}

-- what was done with it: frames were answered, or the connection ended
abbrev pub ServesInput : Option Served → Bool → Input → State → List Asked → List ℕ → State → Type 0
ServesInput end raised (inputs.Frames d) s asked bytes s' = ServesRead end raised s d.frames d.refusal asked bytes s'
ServesInput None raised inputs.Idle s asked bytes s' = (asked ≡ []) × (bytes ≡ []) × (s' ≡ s)
ServesInput (Some end) raised inputs.Idle s asked bytes s' = (asked ≡ []) × (bytes ≡ []) × (end ≡ served.Ended) × IsTrue raised
ServesInput None raised inputs.End s asked bytes s' = ⊥
ServesInput (Some end) raised inputs.End s asked bytes s' = (asked ≡ []) × (bytes ≡ []) × (end ≡ served.Ended)
