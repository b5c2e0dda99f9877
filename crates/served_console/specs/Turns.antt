-- The turns of a console: a line each, what was asked by it, and what was answered.
use Rattle.std.specs.Prelude.{◌≡◌, ℕ, ◌<◌, Bool, true, false, List, [], ◌∷◌, length, take, map, Option, Some}
use Rattle.std.specs.List.{flat_map}
use Rattle.node_console.specs.Console.{command_of}
use Rattle.source_lines.specs.Lines.{first_line, behind_line, told, is_some_left, LosesPart}
use Rattle.served_console.specs.Answers.{told_of, turned_by, text_of}
use Rattle.served_console.specs.Asking.{Asked, ask_in, outcome_in, asks_of}
use Rattle.served_console.specs.declared.end.ConsoleEnd.{ConsoleEnd}
use Rattle.served_console.specs.declared.end.ConsoleEnd.TheVariants as end
use Rattle.served_console.specs.declared.obeying.Turned.{Turned}

-- a line, and what was asked of the nodes by it
pub record Turn : Type 0 where
  pub line : List ℕ
  pub made : List Asked

abbrev pub turn_of : List ℕ → List Asked → Turn
turn_of line made = record { line = line; made = made }

abbrev pub line_in : Turn → List ℕ
line_in t = t.line

abbrev pub made_in : Turn → List Asked
made_in t = t.made

-- what comes of it, at so many nodes
abbrev pub turned_in : ℕ → Turn → Turned
turned_in nodes t = turned_by (command_of nodes t.line) (told_of (map outcome_in t.made))

-- just what the line says was asked
abbrev pub IsTurn : ℕ → Turn → Type 0
IsTurn nodes t = map ask_in t.made ≡ asks_of nodes (command_of nodes t.line)

abbrev pub text_in : ℕ → Turn → List ℕ
text_in nodes t = text_of (turned_in nodes t).answer

abbrev pub goes_on : ℕ → Turn → Bool
goes_on nodes t = (turned_in nodes t).goes_on

-- ---- several turns

abbrev pub asked_in : List Turn → List Asked
asked_in turns = flat_map made_in turns

abbrev pub texts_in : ℕ → List Turn → List ℕ
texts_in nodes turns = flat_map (text_in nodes) turns

-- these lines are the first ones of what is left, and this follows them
abbrev pub TakesLines : List ℕ → List (List ℕ) → List ℕ → Type 0
TakesLines left [] left' = left ≡ left'
TakesLines left (line ∷ lines) left' = (is_some_left left ≡ true) × (line ≡ told (first_line left)) × TakesLines (behind_line left) lines left'

-- ---- why a console takes no more turns

pub data Closing : Type 0 where
  AtFlag : Closing
  AtInputEnd : Closing
  AtReadFault : Closing
  -- behind this turn: the operator stops the run, or a node failed
  AtTurn : Turn → Closing
  -- the answer of this turn was not written whole
  AtWriteFault : Turn → Closing

abbrev pub end_of : Closing → ConsoleEnd
end_of AtFlag = end.Ended
end_of AtInputEnd = end.Ended
end_of AtReadFault = end.ReadFault
end_of (AtTurn t) = end.Ended
end_of (AtWriteFault t) = end.WriteFault

-- the flag was found up
abbrev pub is_at_flag : Closing → Bool
is_at_flag AtFlag = true
is_at_flag AtInputEnd = false
is_at_flag AtReadFault = false
is_at_flag (AtTurn t) = false
is_at_flag (AtWriteFault t) = false

abbrev pub last_in : Closing → List Turn
last_in AtFlag = []
last_in AtInputEnd = []
last_in AtReadFault = []
last_in (AtTurn t) = t ∷ []
last_in (AtWriteFault t) = t ∷ []

abbrev pub StopsAt : ℕ → Closing → Type 0
StopsAt nodes AtFlag = Unit {0}
StopsAt nodes AtInputEnd = Unit {0}
StopsAt nodes AtReadFault = Unit {0}
StopsAt nodes (AtTurn t) = goes_on nodes t ≡ false
StopsAt nodes (AtWriteFault t) = Unit {0}

-- what is written at the close
abbrev pub Closes : ℕ → Closing → List ℕ → Type 0
Closes nodes AtFlag text = text ≡ []
Closes nodes AtInputEnd text = text ≡ []
Closes nodes AtReadFault text = text ≡ []
Closes nodes (AtTurn t) text = text ≡ text_in nodes t
Closes nodes (AtWriteFault t) text = (n : ℕ) × (n < length (text_in nodes t)) × (text ≡ take n (text_in nodes t))

-- What is left of the input. A read that failed leaves a part of its line read, and this part is the last line found
abbrev pub Leaves : Closing → List ℕ → List ℕ → Option (List ℕ) → Type 0
Leaves AtFlag mid line left' = left' ≡ Some mid
Leaves AtInputEnd mid line left' = (mid ≡ []) × (left' ≡ Some [])
Leaves AtReadFault mid line left' = LosesPart mid line left'
Leaves (AtTurn t) mid line left' = left' ≡ Some mid
Leaves (AtWriteFault t) mid line left' = left' ≡ Some mid

-- the lines that were taken of the input, and what is left of it
abbrev pub ReadsTo : Closing → List (List ℕ) → List ℕ → List ℕ → Option (List ℕ) → Type 0
ReadsTo closing lines left line left' = (mid : List ℕ) × TakesLines left lines mid × Leaves closing mid line left'
