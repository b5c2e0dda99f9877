-- A client's request begins, or is refused at once.
use Rattle.std.proofs.Common.{◌≡◌, ◌+◌, ℕ, Bool, Option, Some, None, List, [], ◌∷◌, ◌++◌, length, map, append-nil, refl, sym, ap, subst, ◌∙◌}
use Rattle.std.specs.Prelude.{nat_lt, not}
use Rattle.std.specs.BTreeMap.{insert_entry}
use Rattle.cs_base.specs.declared.ids.ReqId.{ReqId}
use Rattle.cs_base.specs.declared.level.Level.{Level}
use Rattle.cs_base.specs.Requests.{request_cmp}
use Rattle.changes.specs.declared.DraftMutation.{DraftMutation}
use Rattle.changes.specs.declared.Mutation.{Mutation}
use Rattle.changes.specs.declared.Query.{Query}
use Rattle.changes.specs.Drafts.{mutation_of}
use Rattle.statement_plan.specs.declared.plan.Columns.{Columns}
use Rattle.row_change.specs.declared.entry.Hint as hint
use Rattle.row_change.specs.declared.entry.LogItem.{LogItem}
use Rattle.peer_messages.specs.declared.chronicle.Entry.{Entry}
use Rattle.peer_messages.specs.declared.chronicle.Entry.TheVariants.{Refused}
use Rattle.peer_messages.specs.declared.chronicle.Invalid.TheVariants as reason
use Rattle.peer_messages.specs.declared.chronicle.Refusal.{Refusal}
use Rattle.peer_messages.specs.declared.event.Plan.{Plan}
use Rattle.peer_messages.specs.declared.event.Plan.TheVariants.{Write, Read}
use Rattle.peer_messages.specs.declared.outcome.Move.{Move}
use Rattle.peer_messages.specs.declared.outcome.Outbound.{Outbound}
use Rattle.durable_state.specs.State.{Durable}
use Rattle.node_steps.specs.State.{NodeState, OpenWrite, OpenRead}
use Rattle.node_steps.specs.Effects.{Effects, effects_of}
use Rattle.node_steps.specs.Fitting.{write_fits, query_fits}
use Rattle.node_steps.specs.Hints.{KeptHints, push_hints, pushed_hints, with_room}
use Rattle.node_steps.specs.Keeping.{add_item, hints_of_plan}
use Rattle.node_steps.specs.Requests.{is_overloaded, refusal_of, refusal_at, unanswered_writes, BeginsOrRefuses}
use Rattle.node_steps.specs.Writes.{down_at, start_write, started_write}
use Rattle.node_steps.specs.Reads.{started_read}
use Rattle.hint_store.specs.Staged.{IsSameHints}
use Rattle.hint_store.proofs.Same.{same_pushed_all, same_pushes, same_room, same_trans}
use Rattle.node_core.specs.declared.base.Base.{Base}
use Rattle.node_core.specs.declared.slot.Slot.{Slot}
use Rattle.node_core.specs.declared.slot.Slot.TheVariants.{New}
use Rattle.node_core.specs.declared.work.Given.{Given}
use Rattle.node_core.specs.declared.work.Work.{Work}
use Rattle.node_core.specs.Hinting.{Stage, at, LeavesHints}
use Rattle.node_core.specs.Moving.{left_writes, left_reads}
use Rattle.node_core.specs.Working.{IsCounted, effects_given, state_at, with_slot, down_with}
use Rattle.node_core.specs.Asking.{Asked, AsksAs, AsksWrite, AsksRead, TellsEntry, IsUnmoved}

-- whether as many wait as the node takes
abbrev pub over_in : Work → Bool
over_in w = not (nat_lt (w.unanswered + w.open_reads) 1024)

over_is : (b : Base) (w : Work) (k : KeptHints) (d : Durable) → IsUnmoved w → IsCounted b w → is_overloaded (state_at b k d w) ≡ over_in w
over_is b w k d u counted =
    ap (λ (slot : Slot OpenWrite). not (nat_lt (unanswered_writes (with_slot w.request slot (left_writes b w)) + length (with_slot w.request w.read (left_reads b w))) 1024)) u.write
    ∙ ap (λ (slot : Slot OpenRead). not (nat_lt (unanswered_writes (left_writes b w) + length (with_slot w.request slot (left_reads b w))) 1024)) u.read
    ∙ ap (λ (n : ℕ). not (nat_lt (n + length (left_reads b w)) 1024)) (sym counted.unanswered)
    ∙ ap (λ (n : ℕ). not (nat_lt (w.unanswered + n) 1024)) (sym counted.open_reads)

-- whatever the state, with what the node takes for dead and how many requests wait
abbrev pub Decides : Base → Work → Bool → Option Refusal → DraftMutation → Level → Type 0
Decides b w fits r d l = (s : NodeState) → s.down ≡ down_with w.marked b.down → is_overloaded s ≡ over_in w → r ≡ refusal_at b.setting s fits d.partition l reason.SerialWrite

abbrev pub DecidesRead : Base → Work → Bool → Option Refusal → Query → Level → Type 0
DecidesRead b w fits r q l = (s : NodeState) → s.down ≡ down_with w.marked b.down → is_overloaded s ≡ over_in w → r ≡ refusal_at b.setting s fits q.partition l reason.Level

write_why : (b : Base) (w : Work) (l : Level) (d : DraftMutation) (m : Mutation) (fits : Bool) (r : Option Refusal) (k : KeptHints) (e : Durable) → IsUnmoved w → IsCounted b w → m ≡ mutation_of w.request d → fits ≡ write_fits b.setting m → Decides b w fits r d l
    → refusal_of b.setting (state_at b k e w) w.request (Write d) l ≡ r
write_why b w l d m fits r k e u counted made fit decides =
    ap (λ (f : Bool). refusal_at b.setting (state_at b k e w) f d.partition l reason.SerialWrite) (sym (fit ∙ ap (λ (x : Mutation). write_fits b.setting x) made)) ∙ sym (decides (state_at b k e w) refl (over_is b w k e u counted))

read_why : (b : Base) (w : Work) (l : Level) (q : Query) (columns : Columns) (fits : Bool) (r : Option Refusal) (k : KeptHints) (e : Durable) → IsUnmoved w → IsCounted b w → fits ≡ query_fits b.setting q → DecidesRead b w fits r q l
    → refusal_of b.setting (state_at b k e w) w.request (Read q columns) l ≡ r
read_why b w l q columns fits r k e u counted fit decides =
    ap (λ (f : Bool). refusal_at b.setting (state_at b k e w) f q.partition l reason.Level) (sym fit) ∙ sym (decides (state_at b k e w) refl (over_is b w k e u counted))

told : (id : ReqId) (r : Refusal) (g : Given) → TellsEntry (Refused id r) g → let o : Effects = record { sends = []; entries = Refused id r ∷ [] } in effects_given g ≡ o
told id r g tells =
    ap (λ (xs : List Outbound). let o : Effects = record { sends = xs; entries = g.entries } in o) tells.sends ∙ ap (λ (es : List Entry). let o : Effects = record { sends = []; entries = es } in o) tells.entries

-- one that is refused, and so leaves all as it was
refused : (b : Base) (w : Work) (p : Plan) (l : Level) (r : Refusal) (g : Given) (j k : KeptHints) → IsSameHints k j → TellsEntry (Refused w.request r) g → ((e : Durable) → refusal_of b.setting (state_at b k e w) w.request p l ≡ Some r) → Asked b k p l (at w j) (at w j) g
refused b w p l r g j k same tells why = record {
  kept = k;
  same = same;
  made = [];
  makes = sym (append-nil w.made);
  begins = λ e. subst (λ (x : Option Refusal). BeginsOrRefuses b.setting w.request p l x (state_at b k e w) (effects_given g) (state_at b k e w)) (sym (why e)) (told w.request r g tells, refl);
  are = λ e. ap (λ (x : Option Refusal). hints_of_plan b.setting w.request p x (state_at b k e w)) (why e);
}

pub write_refused : (b : Base) (w : Work) (j : KeptHints) (l : Level) (d : DraftMutation) (m : Mutation) (fits : Bool) (o : Option Refusal) (r : Refusal) (g : Given) → m ≡ mutation_of w.request d → fits ≡ write_fits b.setting m → Decides b w fits o d l → o ≡ Some r
    → TellsEntry (Refused w.request r) g → AsksAs b (Write d) l (at w j) (at w j) g
write_refused b w j l d m fits o r g made fit decides is tells u counted k same = refused b w (Write d) l r g j k same tells (λ e. write_why b w l d m fits o k e u counted made fit decides ∙ is)

pub read_refused : (b : Base) (w : Work) (j : KeptHints) (l : Level) (q : Query) (columns : Columns) (fits : Bool) (o : Option Refusal) (r : Refusal) (g : Given) → fits ≡ query_fits b.setting q → DecidesRead b w fits o q l → o ≡ Some r
    → TellsEntry (Refused w.request r) g → AsksAs b (Read q columns) l (at w j) (at w j) g
read_refused b w j l q columns fits o r g fit decides is tells u counted k same = refused b w (Read q columns) l r g j k same tells (λ e. read_why b w l q columns fits o k e u counted fit decides ∙ is)

-- an entry, and nothing else
pub tells_only : (b : Base) (w : Work) (j : KeptHints) (p : Plan) (l : Level) (entry : Entry) (g : Given) → TellsEntry entry g
    → ((s : NodeState) → (let o : Effects = record { sends = []; entries = entry ∷ [] } in BeginsOrRefuses b.setting w.request p l (refusal_of b.setting s w.request p l) s o s) × (hints_of_plan b.setting w.request p (refusal_of b.setting s w.request p l) s ≡ []))
    → AsksAs b p l (at w j) (at w j) g
tells_only b w j p l entry g tells does u counted k same = record {
  kept = k;
  same = same;
  made = [];
  makes = sym (append-nil w.made);
  begins = λ e.
      let effects : (let o : Effects = record { sends = []; entries = entry ∷ [] } in effects_given g ≡ o) =
      ap (λ (xs : List Outbound). let o : Effects = record { sends = xs; entries = g.entries } in o) tells.sends ∙ ap (λ (es : List Entry). let o : Effects = record { sends = []; entries = es } in o) tells.entries in
      let s = state_at b k e w in
      subst (λ (o : Effects). BeginsOrRefuses b.setting w.request p l (refusal_of b.setting s w.request p l) s o s) (sym effects) (does s).0;
  are = λ e. (does (state_at b k e w)).1;
}

-- ---- one that begins

opened_read : (b : Base) (w w' : Work) (k : KeptHints) (e : Durable) (a : OpenRead) → IsUnmoved w → w' ≡ record w { read = New a } → let s = state_at b k e w in state_at b k e w' ≡ record s { reads = insert_entry request_cmp s.reads w.request a }
opened_read b w w' k e a u is =
    ap (λ (x : Work). state_at b k e x) is
    ∙ ap (λ (slot : Slot OpenRead). let s = state_at b k e w in let t : NodeState = record s { reads = insert_entry request_cmp (with_slot w.request slot (left_reads b w)) w.request a } in t) (sym u.read)

pub read_begun : (b : Base) (w w' : Work) (j : KeptHints) (l : Level) (q : Query) (columns : Columns) (fits : Bool) (o : Option Refusal) (g : Given) → fits ≡ query_fits b.setting q → DecidesRead b w fits o q l → o ≡ None
    → AsksRead b l q columns w w' g → AsksAs b (Read q columns) l (at w j) (at w' j) g
read_begun b w w' j l q columns fits o g fit decides is asks u counted k same =
    let why : (e : Durable) → refusal_of b.setting (state_at b k e w) w.request (Read q columns) l ≡ None = λ e. read_why b w l q columns fits o k e u counted fit decides ∙ is in
    record {
      kept = k;
      same = same;
      made = [];
      makes = ap (λ (y : Work). y.made) asks.opens ∙ sym (append-nil w.made);
      begins = λ e.
          subst (λ (x : Option Refusal). BeginsOrRefuses b.setting w.request (Read q columns) l x (state_at b k e w) (effects_given g) (state_at b k e w')) (sym (why e)) (asks.gives, opened_read b w w' k e (started_read l q) u asks.opens);
      are = λ e. ap (λ (x : Option Refusal). hints_of_plan b.setting w.request (Read q columns) x (state_at b k e w)) (why e);
    }

-- a write, with its hints
opened_write : (b : Base) (w w' : Work) (k kept : KeptHints) (e : Durable) (a : OpenWrite) (made : List LogItem) → IsUnmoved w → w' ≡ record w { write = New a; made = made }
    → let s = state_at b k e w in state_at b kept e w' ≡ record s { hints = kept.hints; numbers = kept.numbers; writes = insert_entry request_cmp s.writes w.request a }
opened_write b w w' k kept e a made u is =
    ap (λ (x : Work). state_at b kept e x) is
    ∙ ap (λ (slot : Slot OpenWrite). let s = state_at b kept e w in let t : NodeState = record s { writes = insert_entry request_cmp (with_slot w.request slot (left_writes b w)) w.request a } in t) (sym u.write)

pub write_begun : (b : Base) (x x' : Stage) (l : Level) (d : DraftMutation) (m : Mutation) (fits : Bool) (o : Option Refusal) (g : Given) → m ≡ mutation_of x.work.request d → fits ≡ write_fits b.setting m → Decides b x.work fits o d l → o ≡ None
    → AsksWrite b l d x x' g → AsksAs b (Write d) l x x' g
write_begun b x x' l d m fits o g is_made fit decides is asks u counted k same =
    let w = x.work in
    let made = mutation_of w.request d in
    let born = w.request.time in
    let why : (e : Durable) → refusal_of b.setting (state_at b k e w) w.request (Write d) l ≡ None = λ e. write_why b w l d m fits o k e u counted is_made fit decides ∙ is in
    let hinted = with_room k (down_at b.setting (down_with w.marked b.down) d) in
    let as_told : asks.hinted ≡ hinted = asks.room ∙ same_room k x.hints same (down_at b.setting (down_with w.marked b.down) d) in
    let pushed : IsSameHints (push_hints asks.hinted born made k) x'.hints =
    subst (λ (h : KeptHints). IsSameHints (push_hints asks.hinted born made k) h) (sym (ap (λ (y : Stage). y.hints) asks.opens))
    (same_trans (push_hints asks.hinted born made k) (push_hints asks.hinted born made x.hints) asks.mid.hints (same_pushes asks.hinted k x.hints same born made) asks.leaves.hints) in
    let opened : x'.work ≡ record w { write = New (started_write w.request l d asks.hinted); made = asks.mid.work.made } =
    ap (λ (y : Stage). y.work) asks.opens
    ∙ ap (λ (v : Work). let v' : Work = record v { write = New (started_write w.request l d asks.hinted); made = asks.mid.work.made } in v') asks.leaves.work in
    record {
      kept = push_hints hinted born made k;
      same = subst (λ (ps : List ℕ). IsSameHints (push_hints ps born made k) x'.hints) as_told pushed;
      made = pushed_hints hinted born made k;
      makes =
          ap (λ (y : Work). y.made) opened ∙ ap (λ (y : Work). y.made) asks.leaves.work
          ∙ ap (λ (hs : List hint.Hint). w.made ++ map add_item hs) (same_pushed_all asks.hinted k x.hints same born made ∙ ap (λ (ps : List ℕ). pushed_hints ps born made k) as_told);
      begins = λ e.
          let s = state_at b k e w in
          subst (λ (r : Option Refusal). BeginsOrRefuses b.setting w.request (Write d) l r s (effects_given g) (state_at b (push_hints hinted born made k) e x'.work)) (sym (why e)) (
            asks.gives,
            opened_write b w x'.work k (push_hints hinted born made k) e (started_write w.request l d asks.hinted) asks.mid.work.made u opened
                ∙ ap (λ (ps : List ℕ). let t : NodeState = record s { hints = (push_hints hinted born made k).hints; numbers = (push_hints hinted born made k).numbers; writes = insert_entry request_cmp s.writes w.request (started_write w.request l d ps) } in t) as_told,
          );
      are = λ e. ap (λ (r : Option Refusal). hints_of_plan b.setting w.request (Write d) r (state_at b k e w)) (why e);
    }

-- ---- a write that begins, call by call

pub write_starts : (b : Base) (l : Level) (d : DraftMutation) (x mid : Stage) (hinted : List ℕ) (o : OpenWrite) (turn : Move) (g : Given) (down : List ℕ) → hinted ≡ with_room x.hints (down_at b.setting (down_with x.work.marked b.down) d) → LeavesHints hinted x.work.request.time (mutation_of x.work.request d) x mid
    → o ≡ started_write x.work.request l d hinted → down ≡ down_with mid.work.marked b.down → turn ≡ start_write b.setting down mid.work.request d → g.sends ≡ turn.sends → g.entries ≡ turn.entries → AsksWrite b l d x (at (record mid.work { write = New o }) mid.hints) g
write_starts b l d x mid hinted o turn g down room leaves is downs turned sends entries =
    let same_down : down ≡ down_with x.work.marked b.down = downs ∙ ap (λ (w : Work). down_with w.marked b.down) leaves.work in
    let turn_is : turn ≡ start_write b.setting (down_with x.work.marked b.down) x.work.request d =
    turned ∙ ap (λ (ks : List ℕ). start_write b.setting ks mid.work.request d) same_down ∙ ap (λ (w : Work). start_write b.setting (down_with x.work.marked b.down) w.request d) leaves.work in
    record {
      gives =
          ap (λ (xs : List Outbound). let e : Effects = record { sends = xs; entries = g.entries } in e) sends
          ∙ ap (λ (es : List Entry). let e : Effects = record { sends = turn.sends; entries = es } in e) entries
          ∙ ap (λ (m : Move). effects_of m) turn_is;
      mid = mid;
      hinted = hinted;
      room = room;
      leaves = leaves;
      opens = ap (λ (w : OpenWrite). at (record mid.work { write = New w }) mid.hints) is;
    }
