-- What a console does.
use Rattle.std.specs.Prelude.{◌≡◌, ◌⊎◌, ℕ, ◌≤◌, true, false, List, [], ◌∷◌, ◌++◌, length, map, All, Option, Some, None, IfSome}
use Rattle.cs_base.specs.Faults.{HasRisen}
use Rattle.node_calls.specs.declared.call.NodeCall.{NodeCall}
use Rattle.node_calls.specs.declared.reply.NodeReply.{NodeReply}
use Rattle.source_lines.specs.Lines.{left_of}
use Rattle.served_console.specs.Asking.{Asked}
use Rattle.served_console.specs.Nodes.{MakeFrom}
use Rattle.served_console.specs.Turns.{Turn, turn_of, line_in, text_in, IsTurn, goes_on, asked_in, texts_in, TakesLines, Closing, end_of, is_at_flag, last_in, StopsAt, Closes, ReadsTo}
use Rattle.served_console.specs.Writing.{WritesAll, WritesPart}
use Rattle.served_console.specs.declared.console.Console.{Console}
use Rattle.served_console.specs.declared.end.ConsoleEnd.{ConsoleEnd}
use Rattle.served_console.specs.declared.end.ConsoleEnd.TheVariants as end

-- how a turn is answered: whole, and the console goes on or not, or else a sink's fault is counted
abbrev pub IsAnswered : Option ConsoleEnd → ℕ → Turn → (old new : Option (List ℕ)) → (risen : Type 0) → Type 0
IsAnswered None nodes t old new risen = (goes_on nodes t ≡ true) × WritesAll old new (text_in nodes t)
IsAnswered (Some end.Ended) nodes t old new risen = (goes_on nodes t ≡ false) × WritesAll old new (text_in nodes t)
IsAnswered (Some end.ReadFault) nodes t old new risen = ⊥
IsAnswered (Some end.WriteFault) nodes t old new risen = WritesPart old new (text_in nodes t) × risen

module _ {W N C S T Entry : Type 0} (steps : N → Entry → N → Type 0) (event_of : Entry → NodeCall) (reply_of : Entry → NodeReply) (refuses : N → NodeCall → NodeCall → Type 0)
    (gives : C → ℕ → Type 0) (contents : T → Option (List ℕ)) (sink_faults : T → ℕ) where
  -- the line that was found last is obeyed and answered
  pub record TakesTurn (result : Option ConsoleEnd) (c c' : Console W N C S T Entry) : Type 0 where
    pub made : List Asked
    pub is_turn : IsTurn (length c.nodes.items) (turn_of c.lines.line made)
    pub make : MakeFrom steps event_of reply_of refuses gives 0 c.nodes.items made c'.nodes.items
    pub source : c'.source ≡ c.source
    pub lines : c'.lines ≡ c.lines
    pub sign : c'.sign ≡ c.sign
    pub write_faults : sink_faults c.sink ≤ sink_faults c'.sink
    pub answered : IsAnswered result (length c.nodes.items) (turn_of c.lines.line made) (contents c.sink) (contents c'.sink) (HasRisen (sink_faults c.sink) (sink_faults c'.sink))

module _ {W N C S T Entry : Type 0} (steps : N → Entry → N → Type 0) (event_of : Entry → NodeCall) (reply_of : Entry → NodeReply) (refuses : N → NodeCall → NodeCall → Type 0)
    (gives : C → ℕ → Type 0) (remaining : S → Option (List ℕ)) (source_faults : S → ℕ) (contents : T → Option (List ℕ)) (sink_faults : T → ℕ) where
  -- all that is left of the input
  abbrev pub input_of : Console W N C S T Entry → Option (List ℕ)
  input_of c = left_of c.lines.ahead (remaining c.source)

  abbrev pub nodes_of : Console W N C S T Entry → ℕ
  nodes_of c = length c.nodes.items

  -- The console took these turns, one after another, and goes on: it read their lines, made their calls, and wrote this text and
  -- then their answers. It has not found the flag up.
  pub record GoesOn (opening : List ℕ) (c : Console W N C S T Entry) (turns : List Turn) (c' : Console W N C S T Entry) : Type 0 where
    pub are_turns : All (IsTurn (nodes_of c)) turns
    pub going : All (λ (t : Turn). goes_on (nodes_of c) t ≡ true) turns
    pub reads : IfSome (input_of c) (λ left. (mid : List ℕ) × TakesLines left (map line_in turns) mid × (input_of c' ≡ Some mid))
    pub writes : WritesAll (contents c.sink) (contents c'.sink) (opening ++ texts_in (nodes_of c) turns)
    pub make : MakeFrom steps event_of reply_of refuses gives 0 c.nodes.items (asked_in turns) c'.nodes.items
    pub sign : c'.sign.was_up ≡ c.sign.was_up
    pub read_faults : source_faults c.source ≤ source_faults c'.source
    pub write_faults : sink_faults c.sink ≤ sink_faults c'.sink

  -- The same, until the console takes no more turns.
  pub record Operates (opening : List ℕ) (c : Console W N C S T Entry) (ended : ConsoleEnd) (c' : Console W N C S T Entry) : Type 0 where
    pub before : List Turn
    pub closing : Closing
    pub last_text : List ℕ
    pub end_is : ended ≡ end_of closing
    pub are_turns : All (IsTurn (nodes_of c)) (before ++ last_in closing)
    pub going : All (λ (t : Turn). goes_on (nodes_of c) t ≡ true) before
    pub stops : StopsAt (nodes_of c) closing
    pub reads : IfSome (input_of c) (λ left. ReadsTo closing (map line_in (before ++ last_in closing)) left c'.lines.line (input_of c'))
    pub closes : Closes (nodes_of c) closing last_text
    pub writes : WritesAll (contents c.sink) (contents c'.sink) ((opening ++ texts_in (nodes_of c) before) ++ last_text)
    pub make : MakeFrom steps event_of reply_of refuses gives 0 c.nodes.items (asked_in (before ++ last_in closing)) c'.nodes.items
    pub read_faults : source_faults c.source ≤ source_faults c'.source
    pub write_faults : sink_faults c.sink ≤ sink_faults c'.sink
    pub sign : c'.sign.was_up ≡ is_at_flag closing
    pub unread : ended ≡ end.ReadFault → HasRisen (source_faults c.source) (source_faults c'.source)
    pub unwritten : ended ≡ end.WriteFault → HasRisen (sink_faults c.sink) (sink_faults c'.sink)

  -- the flag was found up first, so nothing was done
  pub record StaysShut (c : Console W N C S T Entry) (ended : ConsoleEnd) (c' : Console W N C S T Entry) : Type 0 where
    pub sign : c'.sign.was_up ≡ true
    pub source : c'.source ≡ c.source
    pub sink : c'.sink ≡ c.sink
    pub lines : c'.lines ≡ c.lines
    pub nodes : c'.nodes.items ≡ c.nodes.items
    pub end_is : ended ≡ end.Ended

  -- the opening was not written whole, so nothing else was done
  pub record OpensNot (opening : List ℕ) (c : Console W N C S T Entry) (ended : ConsoleEnd) (c' : Console W N C S T Entry) : Type 0 where
    pub sign : c'.sign.was_up ≡ false
    pub writes : WritesPart (contents c.sink) (contents c'.sink) opening
    pub source : c'.source ≡ c.source
    pub lines : c'.lines ≡ c.lines
    pub nodes : c'.nodes.items ≡ c.nodes.items
    pub end_is : ended ≡ end.WriteFault
    pub write_faults : sink_faults c.sink ≤ sink_faults c'.sink
    pub unwritten : HasRisen (sink_faults c.sink) (sink_faults c'.sink)

  abbrev pub Works : List ℕ → Console W N C S T Entry → ConsoleEnd → Console W N C S T Entry → Type 0
  Works opening c ended c' = StaysShut c ended c' ⊎ (OpensNot opening c ended c' ⊎ Operates opening c ended c')

  -- one line: a turn behind which the console goes on, or the end
  abbrev pub TakesLine : Option ConsoleEnd → Console W N C S T Entry → Console W N C S T Entry → Type 0
  TakesLine None c c' = (t : Turn) × GoesOn [] c (t ∷ []) c'
  TakesLine (Some ended) c c' = Operates [] c ended c'
