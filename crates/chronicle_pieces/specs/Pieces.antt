-- The entries of a chronicle that is kept in pieces.
use Rattle.std.specs.Prelude.{◌++◌, [], ◌∷◌, ℕ, Bool, true, false, List, Option, None, Some}
use Rattle.std.specs.List.{flat_map}
use Rattle.cs_base.specs.declared.ids.ReqId.{ReqId}
use Rattle.peer_messages.specs.declared.chronicle.Entry.{Entry}
use Rattle.peer_messages.specs.declared.chronicle.Entry.TheVariants as entry
use Rattle.chronicle_pieces.specs.declared.piece.Piece.{Piece}
use Rattle.chronicle_pieces.specs.declared.piece.Piece.TheVariants.{Stepped, Halted, Turned, Failed}

-- a request came
abbrev pub asked : Option ReqId → List Entry
asked None = []
asked (Some request) = entry.Asked (Some request) ∷ []

-- so many tables there are
abbrev pub tables_told : ℕ → Option ℕ → List Entry
tables_told node None = []
tables_told node (Some count) = entry.Tables node count ∷ []

-- a call of the node's store failed
abbrev pub fault_told : ℕ → Bool → List Entry
fault_told node true = entry.Stopped node ∷ []
fault_told node false = []

-- what an event enters before the entries of the step itself
abbrev pub heading_of : Piece → List Entry
heading_of (Stepped s) = asked s.started ++ entry.Marks s.node s.alive ∷ entry.Time s.node s.time ∷ []
heading_of (Halted h) = asked h.started
heading_of (Turned node refusal) = entry.Asked None ∷ entry.Turned node refusal ∷ []
heading_of (Failed node) = []

-- the entries of the step itself
abbrev pub own_of : Piece → List Entry
own_of (Stepped s) = s.entries
own_of (Halted h) = h.entries
own_of (Turned node refusal) = []
own_of (Failed node) = []

-- what an event enters behind them
abbrev pub ending_of : Piece → List Entry
ending_of (Stepped s) = tables_told s.node s.tables
ending_of (Halted h) = fault_told h.node h.has_failed
ending_of (Turned node refusal) = []
ending_of (Failed node) = entry.Stopped node ∷ []

abbrev pub entries_of : Piece → List Entry
entries_of p = heading_of p ++ (own_of p ++ ending_of p)

-- the entries of pieces, one behind another
abbrev pub joined : List Piece → List Entry
joined pieces = flat_map entries_of pieces
