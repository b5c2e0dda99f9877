-- A connection from its first byte on: what it hears, what it asks of its desk, what it writes, and how it ends.
use Rattle.std.specs.Prelude.{◌≡◌, ◌⊎◌, ℕ, ◌<◌, Bool, IsTrue, List, [], ◌∷◌, ◌++◌, length, take, Option, Some, None, IfSome}
use Rattle.std.specs.Option.{option_map}
use Rattle.client_desk.specs.Asks.{Asked}
use Rattle.client_desk.specs.declared.answer.Answer.{Answer}
use Rattle.client_desk.specs.declared.answer.Answer.TheVariants as answers
use Rattle.frame_v4.specs.Stream.{Reads}
use Rattle.frame_v4.specs.declared.error.FrameError.{FrameError}
use Rattle.frame_v4.specs.declared.frame.Frame.{Frame}
use Rattle.peer_messages.specs.declared.chronicle.Refusal.TheVariants.{Down}
use Rattle.response_bodies.specs.declared.response.Response.{Response}
use Rattle.schema_book.specs.Books.{Book}
use Rattle.session_v4.specs.Refusals.{stream_of}
use Rattle.session_v4.specs.Sessions.{State, fresh, IsDue, IsClosed}
use Rattle.session_v4.specs.declared.act.Act.TheVariants as acts
use Rattle.serve_loop.specs.Exchanges.{Exchanges, IsCut, AreBytesOf}
use Rattle.serve_loop.specs.declared.served.Served.{Served}
use Rattle.serve_loop.specs.declared.served.Served.TheVariants as served

-- ---- how far a conversation went

-- of all that was heard the first frames were answered
pub record AnswersFront (b : Book) (heard : List ℕ) (asked : List Asked) (written : List ℕ) (state : State) (back : List Frame) (refusal : Option FrameError) : Type 0 where
  pub front : List Frame
  pub rest : List ℕ
  pub reads : Reads heard (front ++ back) rest refusal
  pub exchanges : Exchanges front (fresh b) asked written state

-- all frames were answered, and less than a frame, or nothing, came behind them
pub record AnswersAll (b : Book) (heard : List ℕ) (asked : List Asked) (written : List ℕ) : Type 0 where
  pub state : State
  pub all : AnswersFront b heard asked written state [] None

-- the bytes by which a stream that is none of frames is refused
pub record IsRefusal (error : FrameError) (bytes : List ℕ) : Type 0 where
  pub response : Response
  pub due : IsClosed error (acts.Close response)
  pub are_bytes : AreBytesOf (stream_of error) response bytes

-- all frames were answered, and then the fault that came behind them
pub record Closes (b : Book) (heard : List ℕ) (asked : List Asked) (written : List ℕ) : Type 0 where
  pub state : State
  pub error : FrameError
  pub before : List ℕ
  pub refusal : List ℕ
  pub all : AnswersFront b heard asked before state [] (Some error)
  pub refused : IsRefusal error refusal
  pub is_written : written ≡ before ++ refusal

-- the frames behind those that were answered were not looked at
pub record Stops (b : Book) (heard : List ℕ) (asked : List Asked) (written : List ℕ) : Type 0 where
  pub state : State
  pub back : List Frame
  pub refusal : Option FrameError
  pub front : AnswersFront b heard asked written state back refusal

-- a node was asked for the first frame behind those that were answered, and its answer, or that there was none by then, is
-- not told
pub record EndsAsking (b : Book) (answer : Option Answer) (heard : List ℕ) (asked : List Asked) (written : List ℕ) : Type 0 where
  pub state : State
  pub frame : Frame
  pub back : List Frame
  pub refusal : Option FrameError
  pub waiting : State
  pub before : List Asked
  pub ask : Asked
  pub front : AnswersFront b heard before written state (frame ∷ back) refusal
  pub due : IsDue state frame (acts.Submit ask.ask) waiting
  pub answered : ask.answer ≡ answer
  pub is_asked : asked ≡ before ++ ask ∷ []

-- the node that was asked does not run
abbrev pub FindsDown : Book → List ℕ → List Asked → List ℕ → Type 0
FindsDown b heard asked written = EndsAsking b (Some (answers.Refused Down)) heard asked written

-- the node that was asked had not answered
abbrev pub LeavesUnanswered : Book → List ℕ → List Asked → List ℕ → Type 0
LeavesUnanswered b heard asked written = EndsAsking b None heard asked written

-- what comes behind the frames that were answered was taken in part, or not at all
abbrev pub IsCutBehind : State → List Frame → Option FrameError → List Asked → List ℕ → Type 0
IsCutBehind s [] None asked bytes = (asked ≡ []) × (bytes ≡ [])
IsCutBehind s [] (Some error) asked bytes = (asked ≡ []) × (whole : List ℕ) × (n : ℕ) × IsRefusal error whole × (n < length whole) × (bytes ≡ take n whole)
IsCutBehind s (f ∷ fs) refusal asked bytes = IsCut s f asked bytes

pub record BreaksOff (b : Book) (heard : List ℕ) (asked : List Asked) (written : List ℕ) : Type 0 where
  pub state : State
  pub back : List Frame
  pub refusal : Option FrameError
  pub before_asked : List Asked
  pub before_written : List ℕ
  pub last_asked : List Asked
  pub last_written : List ℕ
  pub front : AnswersFront b heard before_asked before_written state back refusal
  pub cut : IsCutBehind state back refusal last_asked last_written
  pub is_asked : asked ≡ before_asked ++ last_asked
  pub is_written : written ≡ before_written ++ last_written

-- ---- the whole

-- these bytes came from a link, where it tells what is still to come
abbrev pub IsHeard : Option (List ℕ) → List ℕ → Option (List ℕ) → Type 0
IsHeard left heard left' = IfSome left (λ bytes. (rest : List ℕ) × (bytes ≡ heard ++ rest) × (left' ≡ Some rest))

-- nothing is left of a link that tells what is still to come
abbrev pub IsAtEnd : Option (List ℕ) → Option (List ℕ) → Type 0
IsAtEnd left left' = IfSome left (λ bytes. left' ≡ Some [])

-- how a conversation ends: the peer sends nothing more; the sign was raised, before the next frame or before the answer for
-- it; or the node does not run. A fault is answered and closes the connection. A fault of the link, or want of memory, breaks
-- it off
abbrev pub Ends : Book → Served → (raised : Bool) → (left left' : Option (List ℕ)) → (heard : List ℕ) → List Asked → (written : List ℕ) → Type 0
Ends b served.Ended raised left left' heard asked written =
    AnswersAll b heard asked written × IsAtEnd left left' ⊎ Stops b heard asked written × IsTrue raised ⊎ FindsDown b heard asked written
    ⊎ LeavesUnanswered b heard asked written × IsTrue raised
Ends b served.Closed raised left left' heard asked written = Closes b heard asked written
Ends b served.LinkFault raised left left' heard asked written = BreaksOff b heard asked written
Ends b served.NoMemory raised left left' heard asked written = BreaksOff b heard asked written

pub record IsConversation (b : Book) (left left' : Option (List ℕ)) (asks asks' : List Asked) (wrote wrote' : Option (List ℕ)) (raised : Bool) (result : Served) : Type 0 where
  pub heard : List ℕ
  pub asked : List Asked
  pub written : List ℕ
  pub is_heard : IsHeard left heard left'
  pub is_asked : asks' ≡ asks ++ asked
  pub is_written : wrote' ≡ option_map (λ sent. sent ++ written) wrote
  pub ends : Ends b result raised left left' heard asked written
