-- What a piece of the chronicle enters is what comes of an event.
use Rattle.std.proofs.Common.{◌≡◌, ℕ, Bool, true, false, Option, Some, None, List, [], ◌∷◌, ◌++◌, append-nil, refl, ap, ◌∙◌}
use Rattle.std.specs.Prelude.{filter}
use Rattle.std.proofs.lemmas.Grind.{flat_map-append}
use Rattle.cs_base.specs.declared.ids.ReqId.{ReqId}
use Rattle.peer_messages.specs.declared.chronicle.Entry.{Entry}
use Rattle.peer_messages.specs.declared.chronicle.Entry.TheVariants.{Marks, Time}
use Rattle.peer_messages.specs.declared.outcome.Outputs.{Outputs}
use Rattle.node_steps.specs.Stops.{asked_by, is_entered_at_stop}
use Rattle.node_core.specs.declared.outcome.Lost.{Lost}
use Rattle.cluster_runs.specs.Run.{closing, failure}
use Rattle.chronicle_pieces.specs.Pieces.{asked, tables_told, fault_told, entries_of, joined}
use Rattle.chronicle_pieces.specs.declared.piece.Piece.{Piece}
use Rattle.chronicle_pieces.specs.declared.piece.Piece.TheVariants as piece
use Rattle.cluster_model.specs.Turns.{turn_entries}
use Rattle.cluster_model.specs.declared.turn.Turn.TheVariants.{Stepped, Stopped}

-- one more piece
pub joined_more : (pieces new : List Piece) (p : Piece) → new ≡ pieces ++ p ∷ [] → joined new ≡ joined pieces ++ entries_of p
joined_more pieces new p is =
    ap joined is ∙ flat_map-append entries_of pieces (p ∷ []) ∙ ap (λ (es : List Entry). joined pieces ++ es) (append-nil (entries_of p))

asked_same : (started : Option ReqId) → asked started ≡ asked_by started
asked_same None = refl
asked_same (Some request) = refl

tables_same : (k : ℕ) (tables : Option ℕ) → tables_told k tables ≡ closing k tables
tables_same k None = refl
tables_same k (Some count) = refl

pub step_entries : (k : ℕ) (asks : Bool) (o : Outputs) (alive : List ℕ)
    → entries_of (piece.Stepped (record { node = k; started = o.started; alive = alive; time = o.time; entries = o.entries; tables = o.tables })) ≡ turn_entries k asks (Stepped o alive)
step_entries k asks o alive =
    ap (λ (es : List Entry). (es ++ Marks k alive ∷ Time k o.time ∷ []) ++ (o.entries ++ tables_told k o.tables)) (asked_same o.started)
    ∙ ap (λ (es : List Entry). (asked_by o.started ++ Marks k alive ∷ Time k o.time ∷ []) ++ (o.entries ++ es)) (tables_same k o.tables)

halted_entries : (k : ℕ) (started : Option ReqId) (entries : List Entry) (failed : Bool)
    → asked started ++ (filter is_entered_at_stop entries ++ fault_told k failed) ≡ filter is_entered_at_stop (asked_by started ++ entries) ++ failure failed k
halted_entries k None entries true = refl
halted_entries k None entries false = refl
halted_entries k (Some request) entries true = refl
halted_entries k (Some request) entries false = refl

pub stop_entries : (k : ℕ) (asks : Bool) (l : Lost) (failed : Bool) (rest : List Entry) → rest ≡ filter is_entered_at_stop l.entries
    → entries_of (piece.Halted (record { node = k; started = l.started; entries = rest; has_failed = failed })) ≡ turn_entries k asks (Stopped l failed)
stop_entries k asks l failed rest is =
    ap (λ (es : List Entry). asked l.started ++ (es ++ fault_told k failed)) is ∙ halted_entries k l.started l.entries failed
