-- What a printer does with the entries of a chronicle, which comes in pieces.
use Rattle.std.specs.Prelude.{◌≡◌, ℕ, ◌+◌, Bool, true, false, if◌then◌else◌, Option, Some, None, List, [], ◌∷◌, ◌++◌, reverse, slice_get}
use Rattle.std.specs.Option.{unwrap_or}
use Rattle.std.specs.BTreeMap.{BTreeMap, get}
use Rattle.cs_base.specs.declared.ids.ReqId.{ReqId}
use Rattle.cs_base.specs.Requests.{is_request, request_cmp}
use Rattle.changes.specs.declared.Partition.{Partition}
use Rattle.schema_book.specs.declared.table.Table.{Table}
use Rattle.statement_plan.specs.declared.plan.Columns.{Columns}
use Rattle.peer_messages.specs.declared.chronicle.Refusal.{Refusal}
use Rattle.peer_messages.specs.declared.chronicle.Entry.{Entry}
use Rattle.peer_messages.specs.declared.chronicle.Entry.TheVariants.{Asked, Submitted, Acked, Refused, Used, Began, Rows, Time, Marks, Turned, Tables, Stopped}
use Rattle.chronicle_pieces.specs.declared.piece.Piece.{Piece}
use Rattle.chronicle_pieces.specs.Pieces.{own_of}
use Rattle.chronicle_print.specs.Printed.{asked_count, number_of, shape_of, acked_line, used_line, refused_line, tables_line, stopped_line, AreRows, IsInPrint}
use Rattle.chronicle_print.specs.declared.requests.Place.{Place}
use Rattle.chronicle_print.specs.declared.requests.Request.{Request}
use Rattle.chronicle_print.specs.declared.requests.Requests.{Requests}
use Rattle.chronicle_print.specs.declared.printer.Printer.{Printer}

-- ---- requests by their ids

abbrev pub filed_number : BTreeMap ReqId ℕ → ReqId → ℕ
filed_number numbers id = unwrap_or (get request_cmp numbers id) 0

abbrev pub filed_place : BTreeMap ReqId Place → ReqId → Option Place
filed_place places id = get request_cmp places id

-- a request comes before those that are filed
abbrev pub number_at : Request → ReqId → ℕ → ℕ
number_at request id filed = if is_request request.id id then request.number else filed

abbrev pub place_or : Option Place → Option Place → Option Place
place_or None filed = filed
place_or (Some place) filed = Some place

abbrev pub place_at : Request → ReqId → Option Place → Option Place
place_at request id filed = if is_request request.id id then place_or request.start filed else filed

-- and a later one of them before an earlier one
abbrev pub recent_number : List Request → ReqId → ℕ → ℕ
recent_number [] id filed = filed
recent_number (request ∷ later) id filed = recent_number later id (number_at request id filed)

abbrev pub recent_place : List Request → ReqId → Option Place → Option Place
recent_place [] id filed = filed
recent_place (request ∷ later) id filed = recent_place later id (place_at request id filed)

-- those that came before the newest request
abbrev pub older_number : Requests → ReqId → ℕ
older_number requests id = recent_number requests.recent.items id (filed_number requests.numbers id)

abbrev pub older_place : Requests → ReqId → Option Place
older_place requests id = recent_place requests.recent.items id (filed_place requests.places id)

abbrev pub newest_number : Option Request → ReqId → ℕ → ℕ
newest_number None id older = older
newest_number (Some newest) id older = number_at newest id older

abbrev pub newest_place : Option Request → ReqId → Option Place → Option Place
newest_place None id older = older
newest_place (Some newest) id older = place_at newest id older

-- the number of the last request of this id, or 0
abbrev pub number_in : Requests → ReqId → ℕ
number_in requests id = newest_number requests.newest id (older_number requests id)

-- the place of the last start of a read of this id
abbrev pub place_in : Requests → ReqId → Option Place
place_in requests id = newest_place requests.newest id (older_place requests id)

-- the newest request, if it has this id
abbrev pub if_named : Option Request → ReqId → Option Request
if_named None id = None
if_named (Some newest) id = if is_request newest.id id then Some newest else None

pub record IsFresh (requests : Requests) : Type 0 where
  pub asked : requests.asked ≡ 0
  pub numbers : (id : ReqId) → number_in requests id ≡ 0
  pub places : (id : ReqId) → place_in requests id ≡ None

-- a request is put into the maps
pub record Files (request : Request) (old new : Requests) : Type 0 where
  pub asked : new.asked ≡ old.asked
  pub newest : new.newest ≡ old.newest
  pub recent : new.recent ≡ old.recent
  pub numbers : (id : ReqId) → filed_number new.numbers id ≡ number_at request id (filed_number old.numbers id)
  pub places : (id : ReqId) → filed_place new.places id ≡ place_at request id (filed_place old.places id)

abbrev pub FilesAny : Option Request → Requests → Requests → Type 0
FilesAny None old new = new ≡ old
FilesAny (Some request) old new = Files request old new

-- all before the newest are in the maps
pub record Settles (old new : Requests) : Type 0 where
  pub asked : new.asked ≡ old.asked
  pub newest : new.newest ≡ old.newest
  pub recent : new.recent.items ≡ []
  pub numbers : (id : ReqId) → filed_number new.numbers id ≡ older_number old id
  pub places : (id : ReqId) → filed_place new.places id ≡ older_place old id

-- the newest is one of those before
pub record Moves (old new : Requests) : Type 0 where
  pub asked : new.asked ≡ old.asked
  pub newest : new.newest ≡ None
  pub numbers : (id : ReqId) → older_number new id ≡ number_in old id
  pub places : (id : ReqId) → older_place new id ≡ place_in old id

-- the requests are the same, wherever they are
pub record Keeps (old new : Requests) : Type 0 where
  pub asked : new.asked ≡ old.asked
  pub numbers : (id : ReqId) → number_in new id ≡ number_in old id
  pub places : (id : ReqId) → place_in new id ≡ place_in old id

-- a request takes the number, if it has an id
abbrev pub numbered : ℕ → Option ReqId → ReqId → ℕ → ℕ
numbered number None id before = before
numbered number (Some request) id before = if is_request request id then number else before

-- one more request came
pub record Counts (request : Option ReqId) (old new : Requests) : Type 0 where
  pub asked : new.asked ≡ old.asked + 1
  pub numbers : (id : ReqId) → number_in new id ≡ numbered (old.asked + 1) request id (number_in old id)
  pub places : (id : ReqId) → place_in new id ≡ place_in old id

-- an id has this place in the map
pub record Puts (request : ReqId) (place : Place) (old new : Requests) : Type 0 where
  pub asked : new.asked ≡ old.asked
  pub newest : new.newest ≡ old.newest
  pub recent : new.recent ≡ old.recent
  pub numbers : new.numbers ≡ old.numbers
  pub places : (id : ReqId) → filed_place new.places id ≡ (if is_request request id then Some place else filed_place old.places id)

-- a read began with the entry at this place
pub record Begins (request : ReqId) (place : Place) (old new : Requests) : Type 0 where
  pub asked : new.asked ≡ old.asked
  pub numbers : (id : ReqId) → number_in new id ≡ number_in old id
  pub places : (id : ReqId) → place_in new id ≡ (if is_request request id then Some place else place_in old id)

-- ---- starts of reads

-- what the read asks for that starts with an entry
abbrev pub started_by : Entry → Option (Partition × Columns)
started_by (Began request query level columns) = Some (query.partition, columns)
started_by e = None

abbrev pub started_in : Option Entry → Option (Partition × Columns)
started_in None = None
started_in (Some e) = started_by e

abbrev pub own_at : Option Piece → ℕ → Option Entry
own_at None index = None
own_at (Some piece) index = slice_get (own_of piece) index

abbrev pub entry_at : List Piece → Place → Option Entry
entry_at pieces place = own_at (slice_get pieces place.piece) place.index

abbrev pub start_at : List Piece → Option Place → Option Entry
start_at pieces None = None
start_at pieces (Some place) = entry_at pieces place

abbrev pub shape_in : List Piece → Requests → ReqId → Option (Partition × Columns)
shape_in pieces requests id = started_in (start_at pieces (place_in requests id))

-- these are the own entries of the piece of this number
abbrev pub IsOwn : List Piece → ℕ → List Entry → Type 0
IsOwn pieces number entries = (index : ℕ) → own_at (slice_get pieces number) index ≡ slice_get entries index

-- ---- entries

-- the requests change so, and nothing is printed
pub record Notes (Changes : Requests → Requests → Type 0) (old new : Printer) : Type 0 where
  pub requests : Changes old.requests new.requests
  pub out : new.out.items ≡ old.out.items

-- these lines are printed, and nothing is counted
pub record Adds (lines : List ℕ) (old new : Printer) : Type 0 where
  pub requests : Keeps old.requests new.requests
  pub out : new.out.items ≡ old.out.items ++ lines

-- it takes the entry at this place of all of them
abbrev pub Takes : List Table → List Piece → Place → Printer → Entry → Printer → Type 0
Takes tables pieces place old (Asked request) new = Notes (Counts request) old new
Takes tables pieces place old (Submitted request mutation) new = new ≡ old
Takes tables pieces place old (Acked request level heard) new = Adds (acked_line (number_in old.requests request)) old new
Takes tables pieces place old (Refused request why) new = Adds (refused_line (number_in old.requests request) why) old new
Takes tables pieces place old (Used request keyspace) new = Adds (used_line (number_in old.requests request) keyspace) old new
Takes tables pieces place old (Began request query level columns) new = Notes (Begins request place) old new
Takes tables pieces place old (Rows request rows more grounds) new =
    (lines : List ℕ) × AreRows tables (shape_in pieces old.requests request) (number_in old.requests request) rows lines × Adds lines old new
Takes tables pieces place old (Time node time) new = new ≡ old
Takes tables pieces place old (Marks node alive) new = new ≡ old
Takes tables pieces place old (Turned node why) new = Adds (refused_line old.requests.asked why) old new
Takes tables pieces place old (Tables node count) new = Adds (tables_line node count) old new
Takes tables pieces place old (Stopped node) new = Adds (stopped_line node) old new

-- it counts the request that a step began, if it began one
abbrev pub Starts : Option ReqId → Printer → Printer → Type 0
Starts None old new = new ≡ old
Starts (Some request) old new = Notes (Counts (Some request)) old new

-- it tells how many tables there are
abbrev pub EndsStep : ℕ → Option ℕ → Printer → Printer → Type 0
EndsStep node None old new = new ≡ old
EndsStep node (Some count) old new = Adds (tables_line node count) old new

-- it tells that the node stopped
abbrev pub EndsHalt : ℕ → Bool → Printer → Printer → Type 0
EndsHalt node true old new = Adds (stopped_line node) old new
EndsHalt node false old new = new ≡ old

-- a request came that its node could not begin
abbrev pub Turns : Refusal → Printer → Printer → Type 0
Turns why old new = (mid : Printer) × Notes (Counts None) old mid × Adds (refused_line mid.requests.asked why) mid new

-- the printer has taken these entries, of which the newest comes first
pub record HasPrinted (tables : List Table) (pieces : List Piece) (earlier : List Entry) (p : Printer) : Type 0 where
  pub asked : p.requests.asked ≡ asked_count earlier
  pub numbers : (id : ReqId) → number_in p.requests id ≡ number_of earlier id
  pub shapes : (id : ReqId) → shape_in pieces p.requests id ≡ shape_of earlier id
  pub out : IsInPrint tables earlier p.out.items

-- it takes these entries behind those before them
abbrev pub TakesAll : List Table → List Piece → List Entry → Printer → Printer → Type 0
TakesAll tables pieces entries old new =
    (earlier : List Entry) → HasPrinted tables pieces earlier old → HasPrinted tables pieces (reverse entries ++ earlier) new
