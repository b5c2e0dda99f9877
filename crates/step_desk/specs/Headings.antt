-- What stands in a piece of a chronicle before the entries of its event itself.
use Rattle.std.specs.Prelude.{Bool, true, false, Option, Some, None, Result, Err}
use Rattle.cs_base.specs.declared.ids.ReqId.{ReqId}
use Rattle.peer_messages.specs.declared.chronicle.Refusal.{Refusal}
use Rattle.chronicle_pieces.specs.declared.piece.Piece.{Piece}
use Rattle.chronicle_pieces.specs.declared.piece.Piece.TheVariants.{Stepped, Halted, Turned, Failed}
use Rattle.step_desk.specs.Tellings.{is_named}
use Rattle.step_desk.specs.Outcomes.{begun_as}
use Rattle.step_desk.specs.declared.search.News.{News}
use Rattle.step_desk.specs.declared.search.News.TheVariants as telling

abbrev pub heading_outcome : Piece → Option (Result ReqId Refusal)
heading_outcome (Stepped s) = begun_as s.started
heading_outcome (Halted h) = begun_as h.started
heading_outcome (Turned k refusal) = Some (Err refusal)
heading_outcome (Failed k) = None

abbrev pub is_asked : Piece → ReqId → Bool
is_asked (Stepped s) id = is_named s.started id
is_asked (Halted h) id = is_named h.started id
is_asked (Turned k refusal) id = false
is_asked (Failed k) id = false

abbrev pub unanswered_if : Bool → News
unanswered_if true = telling.Asked
unanswered_if false = telling.Nothing
