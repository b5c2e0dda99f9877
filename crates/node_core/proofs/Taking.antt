-- The event's own matter, and all that comes of it.
use Rattle.std.proofs.Common.{◌≡◌, inl, inr, ℕ, Bool, true, false, Option, Some, None, List, [], ◌∷◌, ◌++◌, length, refl, sym, ap, subst, ◌∙◌, filter, append-nil}
use Rattle.std.specs.Prelude.{◌==◌, ◌<◌, not, if◌then◌else◌, cond}
use Rattle.std.specs.List.{AllByRecursion}
use Rattle.std.proofs.lemmas.Bool.{and_parts, eq-eqb}
use Rattle.std.specs.BTreeMap.{is_at}
use Rattle.std.specs.Ordering.{is_eq, nat_cmp, ordering_then}
use Rattle.std.specs.declared.cmp.Ordering.{Ordering}
use Rattle.std.specs.declared.cmp.Ordering.TheVariants.{Less, Equal, Greater}
use Rattle.cs_base.specs.declared.ids.ReqId.{ReqId}
use Rattle.cs_base.specs.Requests.{request_cmp}
use Rattle.cs_base.proofs.Members.{contains_nil, contains_one}
use Rattle.stored_changes.specs.Spelling.{MutationFits}
use Rattle.row_change.specs.declared.entry.LogItem.{LogItem}
use Rattle.peer_messages.specs.declared.chronicle.Entry.{Entry}
use Rattle.peer_messages.specs.declared.event.Ask.{Ask}
use Rattle.peer_messages.specs.declared.event.What.{What}
use Rattle.peer_messages.specs.declared.event.What.TheVariants.{Client, Deliver, Alive}
use Rattle.peer_messages.specs.declared.message.Message.{Message}
use Rattle.peer_messages.specs.declared.outcome.Outbound.{Outbound}
use Rattle.peer_messages.specs.declared.setting.Setting.{Setting}
use Rattle.peer_messages.specs.Settings.{marked}
use Rattle.durable_state.specs.State.{Durable}
use Rattle.durable_state.specs.Keeping.{Commits}
use Rattle.node_steps.specs.State.{NodeState, OpenWrite, loaded}
use Rattle.node_steps.specs.Effects.{Effects, open_at}
use Rattle.node_steps.specs.Fitting.{message_fits, mark_fits}
use Rattle.node_steps.specs.Hints.{KeptHints, with_sent}
use Rattle.node_steps.specs.Leading.{keeping, state_under}
use Rattle.node_steps.specs.Requests.{refusal_of, unanswered_writes, BeginsOrRefuses}
use Rattle.node_steps.specs.Acts.{Act, Rises, Hears, Asks, Marks, DeadlineComes, HintExpires, Does, request_at}
use Rattle.node_steps.specs.Steps.{heard_matter, matter_of, messages_of}
use Rattle.node_steps.specs.Keeping.{hints_of_plan}
use Rattle.node_steps.specs.Stops.{is_entered_at_stop}
use Rattle.node_steps.proofs.Leading.{moves_quietly}
use Rattle.hint_store.specs.Staged.{IsSameHints}
use Rattle.node_core.specs.declared.base.Base.{Base}
use Rattle.node_core.specs.declared.slot.Slot.{Slot}
use Rattle.node_core.specs.declared.slot.Slot.TheVariants.{Untouched, New, Old, Gone}
use Rattle.node_core.specs.declared.work.Given.{Given}
use Rattle.node_core.specs.declared.work.Work.{Work}
use Rattle.node_core.specs.Slots.{IsNew}
use Rattle.node_core.specs.Asking.{Asked, AsksAs, Begins, IsFresh, IsUnmoved, MayBegin}
use Rattle.node_core.specs.Hinting.{Stage, at}
use Rattle.node_core.specs.Working.{Heard, EndedBefore, FitWrites, FitsWrite, IsDataAt, IsGone, IsMade, IsOwn, IsSent, IsSlotOf, IsSound, down_with, effects_given, forgotten_in, heard_act, left_open, own_acts, own_sent, state_at, with_slot}
use Rattle.node_core.specs.Moving.{AskNothing, BeganBefore, CutsIn, CutsOn, EntersQuietly, GoesOn, HasCome, IsAbout, IsCut, IsHeard, IsHolding, IsNewTo, IsSettled, IsWorkedOut, MarksAs, MarksIf, Moved, MovesTo, SendsOwn, TakesMatter, TakesMatters, left_writes, left_reads}
use Rattle.node_core.proofs.Coming.{cut_more, matter_more}
use Rattle.node_core.proofs.Hinting.{first_away, marked_first}
use Rattle.node_core.proofs.LeftOpen.{all_put, all_removed, all_set, later_time, left_none}
use Rattle.node_core.proofs.Settling.{requeued_come, sent_sound, sound_as}

-- ---- a request that begins now is not open

never_equal : (o : Ordering) → is_eq (ordering_then o Greater) ≡ false
never_equal Less = refl
never_equal Equal = refl
never_equal Greater = refl

other_request : (id k : ReqId) → k.time < id.time → is_at (request_cmp id) k ≡ false
other_request id k h = ap (λ (o : Ordering). is_eq (ordering_then (nat_cmp id.node k.node) o)) (later_time id.time k.time h) ∙ never_equal (nat_cmp id.node k.node)

none_cond : {A : Type 0} (b : Bool) (a : A) (rest : Option A) → b ≡ false → rest ≡ None → cond b (Some a) rest ≡ None
none_cond {A} b a rest away none = ap (λ (x : Bool). cond x (Some a) rest) away ∙ none

pub none_open : {A : Type 0} (id : ReqId) (xs : List (ReqId × A)) → BeganBefore id.time xs → open_at xs id ≡ None
none_open {A} id [] before = refl
none_open {A} id (x ∷ xs) before = none_cond (is_at (request_cmp id) x.0) x.1 (open_at xs id) (other_request id x.0 before.0) (none_open id xs before.1)

-- ---- a step that has made nothing

slot_fresh : {A : Type 0} (id : ReqId) (xs : List (ReqId × A)) (slot : Slot A) → slot ≡ Untouched → IsSlotOf id xs slot
slot_fresh {A} id xs slot is = subst (λ (s : Slot A). IsSlotOf id xs s) (sym is) tt

new_fresh : {A : Type 0} (slot : Slot A) → slot ≡ Untouched → IsNew slot → ⊥
new_fresh {A} slot is = subst (λ (s : Slot A). IsNew s → ⊥) (sym is) (λ h. h)

pub fresh_sound : (b : Base) (w : Work) → IsHolding b → IsFresh b w → IsSound b w
fresh_sound b w holding fresh =
    let u = fresh.unmoved in
    record {
      write = slot_fresh w.request (left_writes b w) w.write u.write;
      read = slot_fresh w.request (left_reads b w) w.read u.read;
      queue = subst (λ (xs : List Outbound). AllByRecursion (IsOwn b.me w.request) xs) (sym u.queue) tt;
      taken = subst (λ (xs : List LogItem). AllByRecursion (IsDataAt w.time) xs) (sym u.taken) tt;
      made = subst (λ (xs : List LogItem). AllByRecursion IsMade xs) (sym fresh.made) tt;
      gone = subst (λ (xs : List LogItem). AllByRecursion IsGone xs) (sym fresh.gone) tt;
      early = record { write = λ h. absurd (new_fresh w.write u.write h); read = λ h. absurd (new_fresh w.read u.read h) };
      fits = subst (λ (slot : Slot OpenWrite). FitWrites (with_slot w.request slot (left_writes b w))) (sym u.write)
          (subst (λ (ids : List ReqId). FitWrites (left_open ids b.writes.entries)) (sym fresh.ended_writes) holding.fit);
      counted = record {
        writes = subst (λ (ids : List ReqId). EndedBefore w.time ids) (sym fresh.ended_writes) tt;
        reads = subst (λ (ids : List ReqId). EndedBefore w.time ids) (sym fresh.ended_reads) tt;
        unanswered = fresh.unanswered ∙ holding.unanswered ∙ ap (λ (ids : List ReqId). unanswered_writes (left_open ids b.writes.entries)) (sym fresh.ended_writes);
        open_reads = fresh.open_reads ∙ ap (λ (ids : List ReqId). length (left_open ids b.reads.entries)) (sym fresh.ended_reads);
      };
    }

-- ---- a client's request

slot_begun : {A : Type 0} (id : ReqId) (xs : List (ReqId × A)) (slot slot' : Slot A) → slot ≡ Untouched → open_at xs id ≡ None → MayBegin slot slot' → IsSlotOf id xs slot'
slot_begun {A} id xs slot slot' fresh none (inl same) = slot_fresh id xs slot' (same ∙ fresh)
slot_begun {A} id xs slot slot' fresh none (inr (a, new)) = subst (λ (s : Slot A). IsSlotOf id xs s) (sym new) none

fit_slot : (id : ReqId) (slot : Slot OpenWrite) (xs : List (ReqId × OpenWrite)) → FitsWrite slot → FitWrites xs → FitWrites (with_slot id slot xs)
fit_slot id Untouched xs fits all = all
fit_slot id (New w) xs fits all = all_put (λ x. MutationFits x.1.mutation) xs id w (λ k. fits) all
fit_slot id (Old w) xs fits all = all_set (λ x. MutationFits x.1.mutation) (is_at (request_cmp id)) xs w (λ k. fits) all
fit_slot id Gone xs fits all = all_removed (λ x. MutationFits x.1.mutation) (is_at (request_cmp id)) xs all

-- the state, under the ceiling from before
state_as : (b : Base) (k : KeptHints) (e : Durable) (w' : Work) (n : ℕ) → w'.ceiling ≡ n → state_at b k e w' ≡ state_under n (forgotten_in b w') (keeping k e)
state_as b k e w' n is = ap (λ (c : ℕ). state_under c (forgotten_in b w') (keeping k e)) is

ask_moved : (b : Base) (d : Durable) (k : KeptHints) (x x' : Stage) (ask : Ask) (g : Given) → x.work.request ≡ request_at b.me x.work.time → x'.work.ceiling ≡ x.work.ceiling → x'.work.taken ≡ x.work.taken → x'.work.gone ≡ x.work.gone
    → Asked b k ask.plan ask.level x x' g → Moved b d k x (Asks ask) g x'
ask_moved b d k x x' ask g about ceiling taken gone a = record {
  kept = a.kept;
  same = a.same;
  taken = [];
  made = a.made;
  gone = [];
  takes = taken ∙ sym (append-nil x.work.taken);
  makes = a.makes;
  loses = gone ∙ sym (append-nil x.work.gone);
  brings = refl;
  moves = λ e e' before is.
      let s = state_at b k e x.work in
      let after : state_at b a.kept e x'.work ≡ state_under x.work.ceiling (forgotten_in b x'.work) (keeping a.kept e') =
      state_as b a.kept e x'.work x.work.ceiling ceiling ∙ ap (λ (y : Durable). state_under x.work.ceiling (forgotten_in b x'.work) (keeping a.kept y)) (sym is) in
      let does : BeginsOrRefuses b.setting x.work.request ask.plan ask.level (refusal_of b.setting s x.work.request ask.plan ask.level) s (effects_given g) (state_under x.work.ceiling (forgotten_in b x'.work) (keeping a.kept e')) =
      subst (λ (y : NodeState). BeginsOrRefuses b.setting x.work.request ask.plan ask.level (refusal_of b.setting s x.work.request ask.plan ask.level) s (effects_given g) y) after (a.begins e) in (
        subst (λ (id : ReqId). BeginsOrRefuses b.setting id ask.plan ask.level (refusal_of b.setting s id ask.plan ask.level) s (effects_given g) (state_under x.work.ceiling (forgotten_in b x'.work) (keeping a.kept e'))) about does,
        ap (λ (id : ReqId). hints_of_plan b.setting id ask.plan (refusal_of b.setting s id ask.plan ask.level) s) (sym about) ∙ a.are e,
        refl,
      );
}

pub ask_taken : (b : Base) (honest : Type 0) (d : Durable) (x x' : Stage) (ask : Ask) (g : Given) → IsUnmoved x.work → IsSound b x.work → x.work.request ≡ request_at b.me x.work.time → IsNewTo b x.work.time → AsksAs b ask.plan ask.level x x' g
    → Begins b x.work x'.work g → TakesMatter b honest d x (Asks ask) g x'
ask_taken b honest d x x' ask g u s about new asks begins =
    let w = x.work in
    let request : x'.work.request ≡ w.request = ap (λ (y : Work). y.request) begins.stays in
    let now : w.request.time ≡ w.time = ap (λ (id : ReqId). id.time) about in
    let no_write = left_none w.request w.ended_writes b.writes.entries (none_open w.request b.writes.entries (subst (λ (t : ℕ). BeganBefore t b.writes.entries) (sym now) new.writes)) in
    let no_read = left_none w.request w.ended_reads b.reads.entries (none_open w.request b.reads.entries (subst (λ (t : ℕ). BeganBefore t b.reads.entries) (sym now) new.reads)) in
    let untouched : FitWrites (left_writes b w) = subst (λ (slot : Slot OpenWrite). FitWrites (with_slot w.request slot (left_writes b w))) u.write s.fits in
    let none : FitsWrite w.write = subst FitsWrite (sym u.write) tt in
    record {
      moves = λ is k same.
          ask_moved b d k x x' ask g about (ap (λ (y : Work). y.ceiling) begins.stays) (ap (λ (y : Work). y.taken) begins.stays) (ap (λ (y : Work). y.gone) begins.stays) (asks u s.counted k same);
      goes_on = record {
        time = ap (λ (y : Work). y.time) begins.stays;
        ceiling = ap (λ (y : Work). y.ceiling) begins.stays;
        request = request;
        queue = ap (λ (y : Work). y.queue.items) begins.stays;
        messages = ap (λ (y : Work). y.messages) begins.stays;
        entries = ap (λ (y : Work). y.entries) begins.stays;
      };
      sound = subst (λ (y : Work). IsSound b y) (sym begins.stays) (record {
        write = slot_begun w.request (left_writes b w) w.write x'.work.write u.write no_write begins.write;
        read = slot_begun w.request (left_reads b w) w.read x'.work.read u.read no_read begins.read;
        queue = s.queue;
        taken = s.taken;
        made = begins.made s.made;
        gone = s.gone;
        early = record { write = λ h. about; read = λ h. about };
        fits = fit_slot w.request x'.work.write (left_writes b w) (begins.fits none) untouched;
        counted = record { writes = s.counted.writes; reads = s.counted.reads; unanswered = s.counted.unanswered; open_reads = s.counted.open_reads };
      });
      own = begins.own;
      quiet = tt;
    }

-- ---- a message

pub message_taken : (b : Base) (honest : Type 0) (d : Durable) (x x' : Stage) (h : Heard) (g : Given) → h.request ≡ x.work.request → IsHeard b honest d x h g x' → TakesMatter b honest d x (heard_act h) g x'
message_taken b honest d x x' h g request heard = record {
  moves = heard.moves;
  goes_on = heard.goes_on;
  sound = heard.sound;
  own = subst (λ (id : ReqId). SendsOwn b id g) request heard.own;
  quiet = heard.quiet;
}

abbrev TakesIf : Base → Type 0 → Durable → Stage → Bool → Act → Given → Stage → Type 0
TakesIf b honest d x fits a g x' = TakesMatters b honest d x (if fits then a ∷ [] else []) g x'

takes_it : (b : Base) (honest : Type 0) (d : Durable) (x x' : Stage) (fits : Bool) (a : Act) (g : Given) → fits ≡ true → TakesMatter b honest d x a g x' → TakesIf b honest d x fits a g x'
takes_it b honest d x x' fits a g is takes = subst (λ (f : Bool). TakesIf b honest d x f a g x') (sym is) (refl, takes)

takes_none : (b : Base) (honest : Type 0) (d : Durable) (x x' : Stage) (fits : Bool) (a : Act) (g : Given) → fits ≡ false → g.sends ≡ [] → g.entries ≡ [] → x' ≡ x → TakesIf b honest d x fits a g x'
takes_none b honest d x x' fits a g is sends entries same = subst (λ (f : Bool). TakesIf b honest d x f a g x') (sym is) (sends, entries, same)

abbrev heard_of : Message → Heard
heard_of m = record { from = m.from; born = m.born; request = m.request; body = m.body }

pub message_fit : (b : Base) (honest : Type 0) (d : Durable) (x x' : Stage) (m : Message) (g : Given) → message_fits b.setting b.me m ≡ true → m.request ≡ x.work.request → IsHeard b honest d x (heard_of m) g x' → TakesMatters b honest d x (heard_matter b.setting b.me m) g x'
message_fit b honest d x x' m g fits request heard = takes_it b honest d x x' (message_fits b.setting b.me m) (heard_act (heard_of m)) g fits (message_taken b honest d x x' (heard_of m) g request heard)

pub message_unfit : (b : Base) (honest : Type 0) (d : Durable) (x : Stage) (m : Message) (g : Given) → message_fits b.setting b.me m ≡ false → g.sends ≡ [] → g.entries ≡ [] → TakesMatters b honest d x (heard_matter b.setting b.me m) g x
message_unfit b honest d x m g fits sends entries = takes_none b honest d x x (message_fits b.setting b.me m) (heard_act (heard_of m)) g fits sends entries refl

-- what fits comes from another node
pub message_other : (c : Setting) (me : ℕ) (m : Message) → message_fits c me m ≡ true → m.from ≡ me → ⊥
message_other c me m fits from =
    let both = and_parts (m.upto == me) _ fits in
    let away = and_parts (not (m.from == me)) _ both.1 in
    true_false (sym (eq-eqb m.from me from) ∙ not_true (m.from == me) away.0)
  where
    true_false : true ≡ false → ⊥
    true_false e = cc

    not_true : (b : Bool) → not b ≡ true → b ≡ false
    not_true true h = sym h
    not_true false h = refl

act_asks : (h : Heard) (ask : Ask) → heard_act h ≡ Asks ask → ⊥
act_asks h ask e = cc

heard_asks : (b : Bool) (h : Heard) → AskNothing (if b then heard_act h ∷ [] else [])
heard_asks true h ask in_it = act_asks h ask (contains_one (heard_act h) (Asks ask) in_it)
heard_asks false h ask in_it = contains_nil (Asks ask) in_it

pub message_asks : (c : Setting) (me : ℕ) (m : Message) → AskNothing (heard_matter c me m)
message_asks c me m = heard_asks (message_fits c me m) (heard_of m)

-- ---- a mark

abbrev marked_down : Base → Work → ℕ → Bool → Work
marked_down b w peer up = record w { marked = Some (marked b.down peer up) }

-- marks and batches are nothing to it
marked_sound : (b : Base) (w w' : Work) → IsSound b w → w' ≡ record w { marked = w'.marked; batches = w'.batches } → IsSound b w'
marked_sound b w w' s is = subst (λ (y : Work). IsSound b y) (sym is) (record {
  write = s.write;
  read = s.read;
  queue = s.queue;
  taken = s.taken;
  made = s.made;
  gone = s.gone;
  early = record { write = s.early.write; read = s.early.read };
  fits = s.fits;
  counted = record { writes = s.counted.writes; reads = s.counted.reads; unanswered = s.counted.unanswered; open_reads = s.counted.open_reads };
})

marks_work : (b : Base) (peer : ℕ) (up : Bool) (k : KeptHints) (w w' : Work) (g : Given) → MarksAs b peer up k w g w' → w' ≡ record w { marked = w'.marked; batches = w'.batches }
marks_work b peer true k w w' g h = subst (λ (y : Work). y ≡ record w { marked = y.marked; batches = y.batches }) (sym h.work) refl
marks_work b peer false k w w' g h = subst (λ (y : Work). y ≡ record w { marked = y.marked; batches = y.batches }) (sym h.2) refl

marks_entries : (b : Base) (peer : ℕ) (up : Bool) (k : KeptHints) (w w' : Work) (g : Given) → MarksAs b peer up k w g w' → g.entries ≡ []
marks_entries b peer true k w w' g h = h.entries
marks_entries b peer false k w w' g h = h.1

marks_own : (b : Base) (peer : ℕ) (up : Bool) (k : KeptHints) (w w' : Work) (g : Given) → (peer ≡ b.me → ⊥) → MarksAs b peer up k w g w' → own_sent b.me g.sends ≡ []
marks_own b peer true k w w' g away h = ap (λ (xs : List Outbound). own_sent b.me xs) h.sends ∙ first_away b k peer away
marks_own b peer false k w w' g away h = ap (λ (xs : List Outbound). own_sent b.me xs) h.0

given_as : (g : Given) (xs : List Outbound) → g.sends ≡ xs → g.entries ≡ [] → let o : Effects = record { sends = xs; entries = [] } in effects_given g ≡ o
given_as g xs sends entries =
    ap (λ (ys : List Outbound). let o : Effects = record { sends = ys; entries = g.entries } in o) sends ∙ ap (λ (es : List Entry). let o : Effects = record { sends = xs; entries = es } in o) entries

unmarked : (b : Base) (k : KeptHints) (e : Durable) (w : Work) (peer : ℕ) (up : Bool) → w.marked ≡ None → state_at b k e (marked_down b w peer up) ≡ (let s = state_at b k e w in let s' : NodeState = record s { down = marked s.down peer up } in s')
unmarked b k e w peer up none = ap (λ (m : Option (List ℕ)). let s : NodeState = record (state_at b k e w) { down = marked (down_with m b.down) peer up } in s) (sym none)

mark_does : (b : Base) (k k' : KeptHints) (e : Durable) (w w' : Work) (peer : ℕ) (up : Bool) (g : Given) → w.marked ≡ None → IsSameHints k k' → MarksAs b peer up k' w g w' → Does b.setting b.me (state_at b k e w) (Marks peer up) (effects_given g) (state_at b k e w')
mark_does b k k' e w w' peer true g none same h =
    let first = marked_first b k k' e (marked_down b w peer true) w' peer g same h in
    (given_as g _ first.1 h.entries, first.0 ∙ ap (λ (s : NodeState). with_sent b.setting s peer) (unmarked b k e w peer true none))
mark_does b k k' e w w' peer false g none same h = (given_as g [] h.0 h.1, ap (λ (y : Work). state_at b k e y) h.2 ∙ unmarked b k e w peer false none)

mark_moved : (b : Base) (d : Durable) (k : KeptHints) (x : Stage) (w' : Work) (peer : ℕ) (up : Bool) (g : Given) → x.work.marked ≡ None → IsSameHints k x.hints → MarksAs b peer up x.hints x.work g w' → Moved b d k x (Marks peer up) g (at w' x.hints)
mark_moved b d k x w' peer up g none same h =
    let is = marks_work b peer up x.hints x.work w' g h in
    record {
      kept = k;
      same = same;
      taken = [];
      made = [];
      gone = [];
      takes = ap (λ (y : Work). y.taken) is ∙ sym (append-nil x.work.taken);
      makes = ap (λ (y : Work). y.made) is ∙ sym (append-nil x.work.made);
      loses = ap (λ (y : Work). y.gone) is ∙ sym (append-nil x.work.gone);
      brings = refl;
      moves = moves_quietly b.setting b.me (loaded d) x.work.ceiling x.work.taken k (forgotten_in b x.work) (forgotten_in b w') (Marks peer up) (effects_given g)
          (λ e commits.
          subst (λ (s : NodeState). Does b.setting b.me (state_at b k e x.work) (Marks peer up) (effects_given g) s) (state_as b k e w' x.work.ceiling (ap (λ (y : Work). y.ceiling) is)) (mark_does b k x.hints e x.work w' peer up g none same h))
          (λ e. (refl, refl));
    }

pub mark_taken : (b : Base) (honest : Type 0) (d : Durable) (x : Stage) (w' : Work) (peer : ℕ) (up : Bool) (g : Given) → IsUnmoved x.work → IsSound b x.work → (peer ≡ b.me → ⊥) → MarksAs b peer up x.hints x.work g w' → TakesMatter b honest d x (Marks peer up) g (at w' x.hints)
mark_taken b honest d x w' peer up g u s away h =
    let is = marks_work b peer up x.hints x.work w' g h in
    record {
      moves = λ honest k same. mark_moved b d k x w' peer up g u.marked same h;
      goes_on = record {
        time = ap (λ (y : Work). y.time) is;
        ceiling = ap (λ (y : Work). y.ceiling) is;
        request = ap (λ (y : Work). y.request) is;
        queue = ap (λ (y : Work). y.queue.items) is;
        messages = ap (λ (y : Work). y.messages) is;
        entries = ap (λ (y : Work). y.entries) is;
      };
      sound = marked_sound b x.work w' s is;
      own = subst (λ (xs : List Outbound). AllByRecursion (IsOwn b.me x.work.request) xs) (sym (marks_own b peer up x.hints x.work w' g away h)) tt;
      quiet = ap (filter is_entered_at_stop) (marks_entries b peer up x.hints x.work w' g h);
    }

-- a mark that fits is of another node
mark_other : (c : Setting) (me peer : ℕ) → mark_fits c me peer ≡ true → peer ≡ me → ⊥
mark_other c me peer fits is = true_false (sym (eq-eqb peer me is) ∙ not_true (peer == me) (and_parts (not (peer == me)) _ fits).0)
  where
    true_false : true ≡ false → ⊥
    true_false e = cc

    not_true : (b : Bool) → not b ≡ true → b ≡ false
    not_true true h = sym h
    not_true false h = refl

mark_cases : (b : Base) (honest : Type 0) (d : Durable) (x : Stage) (w' : Work) (peer : ℕ) (up : Bool) (g : Given) (fits : Bool) → (fits ≡ true → peer ≡ b.me → ⊥) → IsUnmoved x.work → IsSound b x.work → MarksIf fits b peer up x.hints x.work g w'
    → TakesIf b honest d x fits (Marks peer up) g (at w' x.hints)
mark_cases b honest d x w' peer up g true away u s h = (refl, mark_taken b honest d x w' peer up g u s (away refl) h)
mark_cases b honest d x w' peer up g false away u s h = (h.0, h.1, ap (λ (y : Work). at y x.hints) h.2)

pub mark_takes : (b : Base) (honest : Type 0) (d : Durable) (x : Stage) (w' : Work) (peer : ℕ) (up : Bool) (g : Given) → IsUnmoved x.work → IsSound b x.work → MarksIf (mark_fits b.setting b.me peer) b peer up x.hints x.work g w'
    → TakesIf b honest d x (mark_fits b.setting b.me peer) (Marks peer up) g (at w' x.hints)
mark_takes b honest d x w' peer up g u s marks = mark_cases b honest d x w' peer up g (mark_fits b.setting b.me peer) (mark_other b.setting b.me peer) u s marks

-- ---- what was given is sent and entered

-- without a matter
none_taken : (b : Base) (w mid w1 : Work) (g : Given) → g.sends ≡ [] → g.entries ≡ [] → mid ≡ w → IsSent b.me g.sends (record mid { entries = mid.entries ++ g.entries }) w1 → (w1 ≡ record w { queue = w1.queue }) × (w1.queue.items ≡ w.queue.items)
none_taken b w mid w1 g sends entries same sent = (
  sent.rest
      ∙ ap (λ (ms : List Message). let y : Work = record mid { entries = mid.entries ++ g.entries; queue = w1.queue; messages = ms } in y)
      (sent.messages ∙ ap (λ (xs : List Outbound). mid.messages ++ messages_of b.me mid.time xs) sends ∙ append-nil mid.messages)
      ∙ ap (λ (es : List Entry). let y : Work = record mid { entries = es; queue = w1.queue } in y) (ap (λ (es : List Entry). mid.entries ++ es) entries ∙ append-nil mid.entries)
      ∙ ap (λ (m : Work). let y : Work = record m { queue = w1.queue } in y) same,
  sent.queue ∙ ap (λ (xs : List Outbound). mid.queue.items ++ own_sent b.me xs) sends ∙ append-nil mid.queue.items ∙ ap (λ (m : Work). m.queue.items) same,
)

-- what a chain came to is a stop, where no request is left
pub come_cut : (b : Base) (d : Durable) (s : NodeState) (matters left : List Act) (pending : List Outbound) (x : Stage) → HasCome b d s matters left pending x → x.work.taken ≡ [] → AskNothing left → IsCut b s matters x.work
come_cut b d s matters left pending x come none asks =
    let made = come.leads d (subst (λ (xs : List LogItem). Commits xs d d) (sym none ∙ come.taken) refl) in
    record {
      deeds = made.deeds;
      reached = state_at b come.kept d x.work;
      pending = own_acts b.me pending;
      left = left;
      moves = made.moves;
      taken = asks;
      entries = ap (filter is_entered_at_stop) (come.entries ∙ sym made.told);
    }

ask_nothing : AskNothing []
ask_nothing ask h = contains_nil (Asks ask) h

-- what stays, and what is known of the step then
pub record Taken (b : Base) (honest : Type 0) (d : Durable) (left : List Act) (x x1 : Stage) : Type 0 where
  pub comes : honest → (s : NodeState) (matters : List Act) → HasCome b d s matters left [] x → HasCome b d s matters [] x1.work.queue.items x1
  pub cut : honest → CutsIn b d left x x1.work
  pub sound : IsSound b x1.work
  pub time : x1.work.time ≡ x.work.time
  pub ceiling : x1.work.ceiling ≡ x.work.ceiling
  pub request : x1.work.request ≡ x.work.request

quiet_cut : (b : Base) (d : Durable) (x mid x1 : Stage) (a : Act) (g : Given) → ((ask : Ask) → a ≡ Asks ask → ⊥) → IsUnmoved x.work → GoesOn x.work mid.work → filter is_entered_at_stop g.entries ≡ []
    → IsSent b.me g.sends (record mid.work { entries = mid.work.entries ++ g.entries }) x1.work → CutsIn b d (a ∷ []) x x1.work
quiet_cut b d x mid x1 a g no_ask u on quiet sent s matters come = cut_more b s matters x.work mid.work x1.work g (come_cut b d s matters (a ∷ []) [] x come u.taken (λ ask h. no_ask ask (contains_one a (Asks ask) h))) on quiet sent

matter_cut : (b : Base) (d : Durable) (x mid x1 : Stage) (a : Act) (g : Given) → IsUnmoved x.work → MovesTo b d x a g mid → GoesOn x.work mid.work → EntersQuietly a g.entries → IsSent b.me g.sends (record mid.work { entries = mid.work.entries ++ g.entries }) x1.work → x1.hints ≡ mid.hints
    → CutsIn b d (a ∷ []) x x1.work
matter_cut b d x mid x1 (Rises t) g u moves on quiet sent hints = quiet_cut b d x mid x1 (Rises t) g (λ ask e. cc) u on quiet sent
matter_cut b d x mid x1 (Hears m) g u moves on quiet sent hints = quiet_cut b d x mid x1 (Hears m) g (λ ask e. cc) u on quiet sent
matter_cut b d x mid x1 (Marks peer up) g u moves on quiet sent hints = quiet_cut b d x mid x1 (Marks peer up) g (λ ask e. cc) u on quiet sent
matter_cut b d x mid x1 (DeadlineComes id) g u moves on quiet sent hints = quiet_cut b d x mid x1 (DeadlineComes id) g (λ ask e. cc) u on quiet sent
matter_cut b d x mid x1 (HintExpires peer number) g u moves on quiet sent hints = quiet_cut b d x mid x1 (HintExpires peer number) g (λ ask e. cc) u on quiet sent
matter_cut b d x mid x1 (Asks ask) g u moves on quiet sent hints = λ s matters come.
    let m = moves come.kept come.same in
    let taken : x1.work.taken ≡ [] = ap (λ (y : Work). y.taken) sent.rest ∙ m.takes ∙ ap (λ (xs : List LogItem). x.work.taken ++ xs) (sym m.brings) ∙ append-nil x.work.taken ∙ u.taken in
    come_cut b d s matters [] (own_sent b.me g.sends) x1 (matter_more b d s matters [] (Asks ask) x mid x1 g come moves on sent hints) taken ask_nothing

pub taken : (b : Base) (honest : Type 0) (d : Durable) (left : List Act) (x mid x1 : Stage) (g : Given) → IsUnmoved x.work → IsSound b x.work → TakesMatters b honest d x left g mid → IsSent b.me g.sends (record mid.work { entries = mid.work.entries ++ g.entries }) x1.work → x1.hints ≡ mid.hints
    → Taken b honest d left x x1
taken b honest d [] x mid x1 g u s (sends, entries, same) sent hints =
    let none = none_taken b x.work mid.work x1.work g sends entries (ap (λ (y : Stage). y.work) same) sent in
    let queue = none.1 ∙ u.queue in
    let come_it : (t : NodeState) (matters : List Act) → HasCome b d t matters [] [] x → HasCome b d t matters [] x1.work.queue.items x1 =
    λ t matters come. subst (λ (q : List Outbound). HasCome b d t matters [] q x1) (sym queue) (requeued_come b d t matters [] [] x x1 none.0 (hints ∙ ap (λ (y : Stage). y.hints) same) come) in
    let nothing_taken : x1.work.taken ≡ [] = ap (λ (y : Work). y.taken) none.0 ∙ u.taken in
    record {
      comes = λ is t matters come. come_it t matters come;
      cut = λ is t matters come. come_cut b d t matters [] x1.work.queue.items x1 (come_it t matters come) nothing_taken ask_nothing;
      sound = sound_as b x.work x1.work s (subst (λ (y : Work). y ≡ record x.work { queue = y.queue; messages = y.messages; entries = y.entries }) (sym none.0) refl) (subst (λ (xs : List Outbound). AllByRecursion (IsOwn b.me x.work.request) xs) (sym queue) tt);
      time = ap (λ (y : Work). y.time) none.0;
      ceiling = ap (λ (y : Work). y.ceiling) none.0;
      request = ap (λ (y : Work). y.request) none.0;
    }
taken b honest d (a ∷ rest) x mid x1 g u s (last, takes) sent hints =
    let queue : x1.work.queue.items ≡ own_sent b.me g.sends = sent.queue ∙ ap (λ (q : List Outbound). q ++ own_sent b.me g.sends) (takes.goes_on.queue ∙ u.queue) in
    subst (λ (acts : List Act). Taken b honest d (a ∷ acts) x x1) (sym last) (record {
      comes = λ is t matters come.
          subst (λ (q : List Outbound). HasCome b d t matters [] q x1) (sym queue) (matter_more b d t matters [] a x mid x1 g come (takes.moves is) takes.goes_on sent hints);
      cut = λ is. matter_cut b d x mid x1 a g u (takes.moves is) takes.goes_on takes.quiet sent hints;
      sound = sent_sound b mid.work x1.work g takes.sound (subst (λ (id : ReqId). SendsOwn b id g) (sym takes.goes_on.request) takes.own) sent;
      time = ap (λ (y : Work). y.time) sent.rest ∙ takes.goes_on.time;
      ceiling = ap (λ (y : Work). y.ceiling) sent.rest ∙ takes.goes_on.ceiling;
      request = ap (λ (y : Work). y.request) sent.rest ∙ takes.goes_on.request;
    })

-- ---- and all that comes of it

pub worked_out : (b : Base) (honest : Type 0) (d : Durable) (left : List Act) (x x1 x2 : Stage) → Taken b honest d left x x1 → IsSettled b honest d x1 x2 → IsWorkedOut b honest d left x x2
worked_out b honest d left x x1 x2 first rest = record {
  comes = λ is s matters come. subst (λ (q : List Outbound). HasCome b d s matters [] q x2) rest.done (rest.along.comes is s matters [] (first.comes is s matters come));
  cut = λ is s matters come. rest.along.cut s matters (first.cut is s matters come);
  sound = rest.along.sound;
  time = rest.along.time ∙ first.time;
  ceiling = rest.along.ceiling ∙ first.ceiling;
  request = rest.along.request ∙ first.request;
}

pub worked_cut : (b : Base) (honest : Type 0) (d : Durable) (left : List Act) (x x1 : Stage) (w2 : Work) → Taken b honest d left x x1 → CutsOn b x1.work w2 → honest → CutsIn b d left x w2
worked_cut b honest d left x x1 w2 first rest is s matters come = rest s matters (first.cut is s matters come)

pub same_cut : (b : Base) (d : Durable) (left : List Act) (x : Stage) (w' : Work) → IsUnmoved x.work → w' ≡ x.work → AskNothing left → CutsIn b d left x w'
same_cut b d left x w' u same asks s matters come = subst (λ (y : Work). IsCut b s matters y) (sym same) (come_cut b d s matters left [] x come u.taken asks)

-- under another name of what is kept
pub settled_at : (b : Base) (honest : Type 0) (d d' : Durable) (x x' : Stage) → (honest → d ≡ d') → IsSettled b honest d x x' → IsSettled b honest d' x x'
settled_at b honest d d' x x' same h = record {
  along = record {
    comes = λ is s matters left. subst (λ (e : Durable). HasCome b e s matters left x.work.queue.items x → HasCome b e s matters left x'.work.queue.items x') (same is) (h.along.comes is s matters left);
    cut = h.along.cut;
    sound = h.along.sound;
    time = h.along.time;
    ceiling = h.along.ceiling;
    request = h.along.request;
  };
  done = h.done;
}

-- ---- by what the node looks at

abbrev TakesWhat : Base → Type 0 → Durable → Stage → What → Given → Stage → Type 0
TakesWhat b honest d x what g x' = TakesMatters b honest d x (matter_of b.setting b.me what) g x'

pub client_takes : (b : Base) (honest : Type 0) (d : Durable) (x x' : Stage) (what : What) (ask : Ask) (g : Given) → what ≡ Client ask → IsUnmoved x.work → IsSound b x.work → IsAbout b.me x.work.time what x.work.request → IsNewTo b x.work.time → AsksAs b ask.plan ask.level x x' g → Begins b x.work x'.work g
    → TakesWhat b honest d x what g x'
client_takes b honest d x x' what ask g is u s about new asks begins =
    let now = subst (λ (y : What). IsAbout b.me x.work.time y x.work.request) is about in
    subst (λ (y : What). TakesWhat b honest d x y g x') (sym is) (refl, ask_taken b honest d x x' ask g u s now new asks begins)

pub message_takes : (b : Base) (honest : Type 0) (d : Durable) (x x' : Stage) (what : What) (m : Message) (g : Given) → what ≡ Deliver m → TakesMatters b honest d x (heard_matter b.setting b.me m) g x' → TakesWhat b honest d x what g x'
message_takes b honest d x x' what m g is takes = subst (λ (y : What). TakesWhat b honest d x y g x') (sym is) takes

pub alive_takes : (b : Base) (honest : Type 0) (d : Durable) (x : Stage) (w' : Work) (what : What) (peer : ℕ) (up : Bool) (g : Given) → what ≡ Alive peer up → IsUnmoved x.work → IsSound b x.work → MarksIf (mark_fits b.setting b.me peer) b peer up x.hints x.work g w'
    → TakesWhat b honest d x what g (at w' x.hints)
alive_takes b honest d x w' what peer up g is u s marks = subst (λ (y : What). TakesWhat b honest d x y g (at w' x.hints)) (sym is) (mark_takes b honest d x w' peer up g u s marks)

pub what_asks : (c : Setting) (me : ℕ) (what : What) (m : Message) → what ≡ Deliver m → AskNothing (matter_of c me what)
what_asks c me what m is = subst (λ (y : What). AskNothing (matter_of c me y)) (sym is) (message_asks c me m)

pub what_request : (me time : ℕ) (what : What) (m : Message) (id : ReqId) → what ≡ Deliver m → IsAbout me time what id → m.request ≡ id
what_request me time what m id is about = sym (subst (λ (y : What). IsAbout me time y id) is about)
