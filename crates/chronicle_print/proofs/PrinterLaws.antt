-- A printer goes on by one entry, and by the entries of a piece.
use Rattle.std.proofs.Common.{◌≡◌, ℕ, Bool, true, false, ◌+◌, Option, Some, None, List, [], ◌∷◌, ◌++◌, reverse, cond, refl, sym, subst, ◌∙◌, ap, append_assoc}
use Rattle.std.proofs.lemmas.List.{append-nil, reverse-append}
use Rattle.cs_base.specs.declared.ids.ReqId.{ReqId}
use Rattle.cs_base.specs.Requests.{is_request}
use Rattle.changes.specs.declared.Partition.{Partition}
use Rattle.schema_book.specs.declared.table.Table.{Table}
use Rattle.statement_plan.specs.declared.plan.Columns.{Columns}
use Rattle.peer_messages.specs.declared.chronicle.Refusal.{Refusal}
use Rattle.peer_messages.specs.declared.chronicle.Entry.{Entry}
use Rattle.peer_messages.specs.declared.chronicle.Entry.TheVariants.{Asked, Submitted, Acked, Refused, Used, Began, Rows, Time, Marks, Turned, Tables, Stopped}
use Rattle.chronicle_pieces.specs.declared.piece.Halted.{Halted}
use Rattle.chronicle_pieces.specs.declared.piece.Piece.{Piece}
use Rattle.chronicle_pieces.specs.declared.piece.Piece.TheVariants as piece
use Rattle.chronicle_pieces.specs.declared.piece.Stepped.{Stepped}
use Rattle.chronicle_pieces.specs.Pieces.{asked, tables_told, fault_told, heading_of, entries_of}
use Rattle.chronicle_print.specs.declared.requests.Place.{Place}
use Rattle.chronicle_print.specs.declared.requests.Requests.{Requests}
use Rattle.chronicle_print.specs.declared.printer.Printer.{Printer}
use Rattle.chronicle_print.specs.Printed.{IsInPrint, IsEntryInPrint, AreRows, asked_count, number_of, shape_of, acked_line, used_line, refused_line, tables_line, stopped_line}
use Rattle.chronicle_print.specs.Printing.{number_in, place_in, started_by, started_in, entry_at, start_at, shape_in, IsFresh, Counts, Begins, Notes, Adds, Takes, Starts, EndsStep, EndsHalt, Turns, HasPrinted, TakesAll}

pub has_begun : (tables : List Table) (pieces : List Piece) (p : Printer) → IsFresh p.requests → p.out.items ≡ [] → HasPrinted tables pieces [] p
has_begun tables pieces p h out =
    record { asked = h.asked; numbers = h.numbers; shapes = λ id. ap (λ (o : Option Place). started_in (start_at pieces o)) (h.places id); out = out }

-- ---- one entry more

-- what stays where nothing is counted
record Stays (tables : List Table) (pieces : List Piece) (earlier : List Entry) (e : Entry) (p : Printer) : Type 0 where
  asked : p.requests.asked ≡ asked_count earlier
  numbers : (id : ReqId) → number_in p.requests id ≡ number_of earlier id
  shapes : (id : ReqId) → shape_in pieces p.requests id ≡ shape_of earlier id
  out : IsInPrint tables (e ∷ earlier) p.out.items

in_print : (tables : List Table) (earlier : List Entry) (e : Entry) (before text lines : List ℕ) → IsInPrint tables earlier before → IsEntryInPrint tables earlier e lines → text ≡ before ++ lines → IsInPrint tables (e ∷ earlier) text
in_print tables earlier e before text lines printed is text_is = (before, lines, printed, is, text_is)

-- an entry that prints nothing
silent : (tables : List Table) (pieces : List Piece) (earlier : List Entry) (e : Entry) (p : Printer) → IsEntryInPrint tables earlier e [] → HasPrinted tables pieces earlier p → Stays tables pieces earlier e p
silent tables pieces earlier e p none h =
    record { asked = h.asked; numbers = h.numbers; shapes = h.shapes; out = in_print tables earlier e p.out.items p.out.items [] h.out none (sym (append-nil p.out.items)) }

-- one that prints these lines
spoken : (tables : List Table) (pieces : List Piece) (earlier : List Entry) (e : Entry) (lines : List ℕ) (old new : Printer) → IsEntryInPrint tables earlier e lines → Adds lines old new → HasPrinted tables pieces earlier old → Stays tables pieces earlier e new
spoken tables pieces earlier e lines old new is t h = record {
  asked = t.requests.asked ∙ h.asked;
  numbers = λ id. t.requests.numbers id ∙ h.numbers id;
  shapes = λ id. ap (λ (o : Option Place). started_in (start_at pieces o)) (t.requests.places id) ∙ h.shapes id;
  out = in_print tables earlier e old.out.items new.out.items lines h.out is t.out;
}

-- one that changes the requests alone
noted : (tables : List Table) (earlier : List Entry) (e : Entry) (Changes : Requests → Requests → Type 0) (old new : Printer) → IsEntryInPrint tables earlier e [] → Notes Changes old new → IsInPrint tables earlier old.out.items
    → IsInPrint tables (e ∷ earlier) new.out.items
noted tables earlier e Changes old new none t printed = in_print tables earlier e old.out.items new.out.items [] printed none (t.out ∙ sym (append-nil old.out.items))

pub asked_on : (tables : List Table) (pieces : List Piece) (earlier : List Entry) (request : Option ReqId) (old new : Printer) → Notes (Counts request) old new → HasPrinted tables pieces earlier old → HasPrinted tables pieces (Asked request ∷ earlier) new
asked_on tables pieces earlier None old new t h = record {
  asked = t.requests.asked ∙ ap (λ (n : ℕ). n + 1) h.asked;
  numbers = λ id. t.requests.numbers id ∙ h.numbers id;
  shapes = λ id. ap (λ (o : Option Place). started_in (start_at pieces o)) (t.requests.places id) ∙ h.shapes id;
  out = noted tables earlier (Asked None) (Counts None) old new refl t h.out;
}
asked_on tables pieces earlier (Some r) old new t h = record {
  asked = t.requests.asked ∙ ap (λ (n : ℕ). n + 1) h.asked;
  numbers = λ id. t.requests.numbers id ∙ ap (λ (n : ℕ). cond (is_request r id) (n + 1) (number_in old.requests id)) h.asked ∙ ap (λ (n : ℕ). cond (is_request r id) (asked_count earlier + 1) n) (h.numbers id);
  shapes = λ id. ap (λ (o : Option Place). started_in (start_at pieces o)) (t.requests.places id) ∙ h.shapes id;
  out = noted tables earlier (Asked (Some r)) (Counts (Some r)) old new refl t h.out;
}

pub time_on : (tables : List Table) (pieces : List Piece) (earlier : List Entry) (node time : ℕ) (p : Printer) → HasPrinted tables pieces earlier p → HasPrinted tables pieces (Time node time ∷ earlier) p
time_on tables pieces earlier node time p h =
    let s = silent tables pieces earlier (Time node time) p refl h in record { asked = s.asked; numbers = s.numbers; shapes = s.shapes; out = s.out }

pub marks_on : (tables : List Table) (pieces : List Piece) (earlier : List Entry) (node : ℕ) (alive : List ℕ) (p : Printer) → HasPrinted tables pieces earlier p → HasPrinted tables pieces (Marks node alive ∷ earlier) p
marks_on tables pieces earlier node alive p h =
    let s = silent tables pieces earlier (Marks node alive) p refl h in record { asked = s.asked; numbers = s.numbers; shapes = s.shapes; out = s.out }

pub turned_on : (tables : List Table) (pieces : List Piece) (earlier : List Entry) (node : ℕ) (why : Refusal) (old new : Printer) → Adds (refused_line old.requests.asked why) old new → HasPrinted tables pieces earlier old
    → HasPrinted tables pieces (Turned node why ∷ earlier) new
turned_on tables pieces earlier node why old new t h =
    let s = spoken tables pieces earlier (Turned node why) _ old new (ap (λ (n : ℕ). refused_line n why) h.asked) t h in record { asked = s.asked; numbers = s.numbers; shapes = s.shapes; out = s.out }

pub tables_on : (tables : List Table) (pieces : List Piece) (earlier : List Entry) (node count : ℕ) (old new : Printer) → Adds (tables_line node count) old new → HasPrinted tables pieces earlier old → HasPrinted tables pieces (Tables node count ∷ earlier) new
tables_on tables pieces earlier node count old new t h =
    let s = spoken tables pieces earlier (Tables node count) _ old new refl t h in record { asked = s.asked; numbers = s.numbers; shapes = s.shapes; out = s.out }

pub stopped_on : (tables : List Table) (pieces : List Piece) (earlier : List Entry) (node : ℕ) (old new : Printer) → Adds (stopped_line node) old new → HasPrinted tables pieces earlier old → HasPrinted tables pieces (Stopped node ∷ earlier) new
stopped_on tables pieces earlier node old new t h =
    let s = spoken tables pieces earlier (Stopped node) _ old new refl t h in record { asked = s.asked; numbers = s.numbers; shapes = s.shapes; out = s.out }

-- the place of a start, or those before it
began_at : (pieces : List Piece) (b : Bool) (place : Place) (before : Option Place) (e : Entry) (shape : Option (Partition × Columns)) → entry_at pieces place ≡ Some e → started_in (start_at pieces before) ≡ shape → started_in (start_at pieces (cond b (Some place) before)) ≡ cond b (started_by e) shape
began_at pieces true place before e shape there same = ap started_in there
began_at pieces false place before e shape there same = same

pub has_printed_on : (tables : List Table) (pieces : List Piece) (place : Place) (earlier : List Entry) (e : Entry) (old new : Printer) → entry_at pieces place ≡ Some e → Takes tables pieces place old e new → HasPrinted tables pieces earlier old → HasPrinted tables pieces (e ∷ earlier) new
has_printed_on tables pieces place earlier (Asked request) old new there t h = asked_on tables pieces earlier request old new t h
has_printed_on tables pieces place earlier (Submitted request mutation) old new there t h =
    let s = silent tables pieces earlier (Submitted request mutation) old refl h in
    subst (HasPrinted tables pieces (Submitted request mutation ∷ earlier)) (sym t) (record { asked = s.asked; numbers = s.numbers; shapes = s.shapes; out = s.out })
has_printed_on tables pieces place earlier (Acked request level heard) old new there t h =
    let s = spoken tables pieces earlier (Acked request level heard) _ old new (ap acked_line (h.numbers request)) t h in record { asked = s.asked; numbers = s.numbers; shapes = s.shapes; out = s.out }
has_printed_on tables pieces place earlier (Refused request why) old new there t h =
    let s = spoken tables pieces earlier (Refused request why) _ old new (ap (λ (n : ℕ). refused_line n why) (h.numbers request)) t h in record { asked = s.asked; numbers = s.numbers; shapes = s.shapes; out = s.out }
has_printed_on tables pieces place earlier (Used request keyspace) old new there t h =
    let s = spoken tables pieces earlier (Used request keyspace) _ old new (ap (λ (n : ℕ). used_line n keyspace) (h.numbers request)) t h in record { asked = s.asked; numbers = s.numbers; shapes = s.shapes; out = s.out }
has_printed_on tables pieces place earlier (Began request query level columns) old new there t h = record {
  asked = t.requests.asked ∙ h.asked;
  numbers = λ id. t.requests.numbers id ∙ h.numbers id;
  shapes = λ id.
      ap (λ (o : Option Place). started_in (start_at pieces o)) (t.requests.places id)
      ∙ began_at pieces (is_request request id) place (place_in old.requests id) (Began request query level columns) (shape_of earlier id) there (h.shapes id);
  out = noted tables earlier (Began request query level columns) (Begins request place) old new refl t h.out;
}
has_printed_on tables pieces place earlier (Rows request rows more grounds) old new there (lines, are, adds) h =
    let by_number = subst (λ (n : ℕ). AreRows tables (shape_in pieces old.requests request) n rows lines) (h.numbers request) are in
    let by_both = subst (λ (o : Option (Partition × Columns)). AreRows tables o (number_of earlier request) rows lines) (h.shapes request) by_number in
    let s = spoken tables pieces earlier (Rows request rows more grounds) lines old new by_both adds h in record { asked = s.asked; numbers = s.numbers; shapes = s.shapes; out = s.out }
has_printed_on tables pieces place earlier (Time node time) old new there t h =
    subst (HasPrinted tables pieces (Time node time ∷ earlier)) (sym t) (time_on tables pieces earlier node time old h)
has_printed_on tables pieces place earlier (Marks node alive) old new there t h =
    subst (HasPrinted tables pieces (Marks node alive ∷ earlier)) (sym t) (marks_on tables pieces earlier node alive old h)
has_printed_on tables pieces place earlier (Turned node why) old new there t h = turned_on tables pieces earlier node why old new t h
has_printed_on tables pieces place earlier (Tables node count) old new there t h = tables_on tables pieces earlier node count old new t h
has_printed_on tables pieces place earlier (Stopped node) old new there t h = stopped_on tables pieces earlier node old new t h

-- ---- the entries of a piece

takes_both : (tables : List Table) (pieces : List Piece) (xs ys : List Entry) (old mid new : Printer) → TakesAll tables pieces xs old mid → TakesAll tables pieces ys mid new → TakesAll tables pieces (xs ++ ys) old new
takes_both tables pieces xs ys old mid new first second = λ earlier h.
    subst (λ (es : List Entry). HasPrinted tables pieces es new) (sym (ap (λ (es : List Entry). es ++ earlier) (reverse-append xs ys) ∙ append_assoc (reverse ys) (reverse xs) earlier))
    (second (reverse xs ++ earlier) (first earlier h))

takes_none : (tables : List Table) (pieces : List Piece) (old new : Printer) → new ≡ old → TakesAll tables pieces [] old new
takes_none tables pieces old new same = λ earlier h. subst (HasPrinted tables pieces earlier) (sym same) h

starts_on : (tables : List Table) (pieces : List Piece) (started : Option ReqId) (old new : Printer) → Starts started old new → TakesAll tables pieces (asked started) old new
starts_on tables pieces None old new same = takes_none tables pieces old new same
starts_on tables pieces (Some request) old new t = λ earlier h. asked_on tables pieces earlier (Some request) old new t h

ends_step : (tables : List Table) (pieces : List Piece) (node : ℕ) (told : Option ℕ) (old new : Printer) → EndsStep node told old new → TakesAll tables pieces (tables_told node told) old new
ends_step tables pieces node None old new same = takes_none tables pieces old new same
ends_step tables pieces node (Some count) old new t = λ earlier h. tables_on tables pieces earlier node count old new t h

ends_halt : (tables : List Table) (pieces : List Piece) (node : ℕ) (has_failed : Bool) (old new : Printer) → EndsHalt node has_failed old new → TakesAll tables pieces (fault_told node has_failed) old new
ends_halt tables pieces node false old new same = takes_none tables pieces old new same
ends_halt tables pieces node true old new t = λ earlier h. stopped_on tables pieces earlier node old new t h

pub takes_stepped : (tables : List Table) (pieces : List Piece) (s : Stepped) (old begun mid new : Printer) → Starts s.started old begun → TakesAll tables pieces s.entries begun mid → EndsStep s.node s.tables mid new
    → TakesAll tables pieces (entries_of (piece.Stepped s)) old new
takes_stepped tables pieces s old begun mid new started own ended =
    let told : TakesAll tables pieces (Marks s.node s.alive ∷ Time s.node s.time ∷ []) begun begun = λ earlier h. time_on tables pieces (Marks s.node s.alive ∷ earlier) s.node s.time begun (marks_on tables pieces earlier s.node s.alive begun h) in
    let heading : TakesAll tables pieces (heading_of (piece.Stepped s)) old begun = takes_both tables pieces (asked s.started) _ old begun begun (starts_on tables pieces s.started old begun started) told in
    let rest : TakesAll tables pieces (s.entries ++ tables_told s.node s.tables) begun new = takes_both tables pieces s.entries _ begun mid new own (ends_step tables pieces s.node s.tables mid new ended) in
    takes_both tables pieces (heading_of (piece.Stepped s)) _ old begun new heading rest

pub takes_halted : (tables : List Table) (pieces : List Piece) (s : Halted) (old begun mid new : Printer) → Starts s.started old begun → TakesAll tables pieces s.entries begun mid → EndsHalt s.node s.has_failed mid new
    → TakesAll tables pieces (entries_of (piece.Halted s)) old new
takes_halted tables pieces s old begun mid new started own ended =
    let rest : TakesAll tables pieces (s.entries ++ fault_told s.node s.has_failed) begun new = takes_both tables pieces s.entries _ begun mid new own (ends_halt tables pieces s.node s.has_failed mid new ended) in
    takes_both tables pieces (asked s.started) _ old begun new (starts_on tables pieces s.started old begun started) rest

pub takes_turned : (tables : List Table) (pieces : List Piece) (node : ℕ) (why : Refusal) (old new : Printer) → Turns why old new → TakesAll tables pieces (entries_of (piece.Turned node why)) old new
takes_turned tables pieces node why old new (mid, came, told) = λ earlier h.
    turned_on tables pieces (Asked None ∷ earlier) node why mid new told (asked_on tables pieces earlier None old mid came h)

pub takes_failed : (tables : List Table) (pieces : List Piece) (node : ℕ) (old new : Printer) → Adds (stopped_line node) old new → TakesAll tables pieces (entries_of (piece.Failed node)) old new
takes_failed tables pieces node old new t = λ earlier h. stopped_on tables pieces earlier node old new t h
