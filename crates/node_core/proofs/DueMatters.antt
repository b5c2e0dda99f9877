-- One matter that is due: what a step knows of itself behind it.
use Rattle.std.proofs.Common.{◌≡◌, inl, inr, ℕ, ◌-◌, ◌<◌, ◌≤◌, false, Option, Some, None, List, [], ◌∷◌, ◌++◌, append-nil, refl, sym, ap, subst, ◌∙◌, arith, Contains}
use Rattle.std.specs.Prelude.{if◌then◌else◌}
use Rattle.std.specs.List.{AllByRecursion}
use Rattle.std.specs.BTreeMap.{is_at}
use Rattle.cs_base.specs.declared.ids.ReqId.{ReqId}
use Rattle.cs_base.specs.Requests.{request_cmp}
use Rattle.cs_base.proofs.Members.{contains_push}
use Rattle.stored_changes.specs.Spelling.{MutationFits}
use Rattle.peer_messages.specs.declared.chronicle.Entry.{Entry}
use Rattle.peer_messages.specs.declared.outcome.Outbound.{Outbound}
use Rattle.peer_messages.specs.Moves.{deadline_of}
use Rattle.node_steps.specs.State.{OpenWrite, OpenRead}
use Rattle.node_steps.specs.Effects.{open_at}
use Rattle.node_steps.specs.Writes.{unheard}
use Rattle.node_steps.specs.Acts.{Act, DeadlineComes, HintExpires}
use Rattle.node_steps.specs.Steps.{messages_of}
use Rattle.node_core.specs.declared.base.Base.{Base}
use Rattle.node_core.specs.declared.due.DueKind.{DueKind}
use Rattle.node_core.specs.declared.due.DueKind.TheVariants.{Deadline, Expiry}
use Rattle.node_core.specs.declared.due.DueKey.{DueKey}
use Rattle.node_core.specs.declared.slot.Slot.{Slot}
use Rattle.node_core.specs.declared.slot.Slot.TheVariants.{Untouched}
use Rattle.node_core.specs.declared.work.Given.{Given}
use Rattle.node_core.specs.declared.work.Work.{Work}
use Rattle.node_core.specs.Asking.{IsUnmoved}
use Rattle.node_core.specs.Deadlines.{EndsWrite, EndsRead, EndsRequest, EndsDue, EndedBy, IsNext, IsNextDue}
use Rattle.node_core.specs.Due.{act_at, act_by, deadline_key}
use Rattle.node_core.specs.Hinting.{Stage, DropsHint}
use Rattle.node_core.specs.Working.{EndedBefore, FitWrites, IsOwn, IsSent, IsSlotOf, IsSound, left_open, own_sent, with_slot}
use Rattle.node_core.specs.Moving.{EndsOne, IsHolding, SendsOwn}
use Rattle.node_core.specs.Slots.{IsNew}
use Rattle.node_core.proofs.Hinting.{dropped_sound, made_more}
use Rattle.node_core.proofs.LeftOpen.{all_at, all_left, left_count, left_length, left_other, one_waits, removed_length}
use Rattle.node_core.proofs.Sending.{sent_none}
use Rattle.node_core.proofs.Settling.{sent_sound}
use Rattle.node_core.proofs.Timeouts.{ended_work, given_nothing, goes_on_as, hint_moved, request_goes_on, request_moved, request_sends}

-- ---- what a step knows of itself then

-- an open write without an answer waits, and an open read is counted
pub open_waits : (b : Base) (w : Work) (id : ReqId) (o : OpenWrite) → IsSound b w → IsNext id w → open_at b.writes.entries id ≡ Some o → o.answered ≡ false → 0 < w.unanswered
open_waits b w id o s next there unsaid =
    let waits' = one_waits (left_open w.ended_writes b.writes.entries) id o (left_other id w.ended_writes b.writes.entries next.writes ∙ there) unsaid in
    let count = s.counted.unanswered in
    omega arith

pub open_counts : (b : Base) (w : Work) (id : ReqId) (r : OpenRead) → IsSound b w → IsNext id w → open_at b.reads.entries id ≡ Some r → 0 < w.open_reads
open_counts b w id r s next there =
    let all = removed_length (is_at (request_cmp id)) (left_open w.ended_reads b.reads.entries) r (left_other id w.ended_reads b.reads.entries next.reads ∙ there) in
    let count = s.counted.open_reads in
    omega arith

new_fresh : {A : Type 0} (slot : Slot A) → slot ≡ Untouched → IsNew slot → ⊥
new_fresh {A} slot is = subst (λ (s : Slot A). IsNew s → ⊥) (sym is) (λ h. h)

slot_fresh : {A : Type 0} (id : ReqId) (xs : List (ReqId × A)) (slot : Slot A) → slot ≡ Untouched → IsSlotOf id xs slot
slot_fresh {A} id xs slot is = subst (λ (s : Slot A). IsSlotOf id xs s) (sym is) tt

fits_left : (b : Base) (w : Work) (ids : List ReqId) → IsHolding b → w.write ≡ Untouched → FitWrites (with_slot w.request w.write (left_open ids b.writes.entries))
fits_left b w ids holding u = subst (λ (slot : Slot OpenWrite). FitWrites (with_slot w.request slot (left_open ids b.writes.entries))) (sym u) (all_left (λ x. MutationFits x.1.mutation) ids b.writes.entries holding.fit)

all_more : {X : Type 0} (P : X → Type 0) (xs : List X) (x : X) → AllByRecursion P xs → P x → AllByRecursion P (xs ++ x ∷ [])
all_more {X} P [] x all last = (last, tt)
all_more {X} P (y ∷ ys) x all last = (all.0, all_more P ys x all.1 last)

early_ended : (time : ℕ) (ids : List ReqId) (id : ReqId) → deadline_of id ≤ time → EndedBefore time ids → EndedBefore time (ids ++ id ∷ [])
early_ended time ids id due all = all_more (λ (k : ReqId). k.time < time) ids id all (omega arith)

write_sound : (b : Base) (id : ReqId) (o : OpenWrite) (x x' : Stage) (g : Given) → IsHolding b → IsSound b x.work → IsUnmoved x.work → IsNext id x.work → deadline_of id ≤ x.work.time → open_at b.writes.entries id ≡ Some o → EndsWrite b id o x g x' → IsSound b x'.work
write_sound b id o x x' g holding s u next due there e =
    let w = x.work in
    let fits : MutationFits o.mutation = all_at (λ y. MutationFits y.1.mutation) (λ y. MutationFits y.mutation) b.writes.entries id o (λ k y h. h) holding.fit there in
    let left : open_at (left_open w.ended_writes b.writes.entries) id ≡ Some o = left_other id w.ended_writes b.writes.entries next.writes ∙ there in
    subst (λ (y : Work). IsSound b y) (sym (ended_work b id o x x' g e)) (record {
      write = slot_fresh w.request (left_open (w.ended_writes ++ id ∷ []) b.writes.entries) w.write u.write;
      read = s.read;
      queue = s.queue;
      taken = s.taken;
      made = made_more (unheard b.setting o) id.time o.mutation x e.mid fits e.leaves s.made;
      gone = s.gone;
      early = record { write = λ h. absurd (new_fresh w.write u.write h); read = s.early.read };
      fits = fits_left b w (w.ended_writes ++ id ∷ []) holding u.write;
      counted = record {
        writes = early_ended w.time w.ended_writes id due s.counted.writes;
        reads = s.counted.reads;
        unanswered = ap (λ (n : ℕ). n - (if o.answered then 0 else 1)) s.counted.unanswered ∙ sym (left_count w.ended_writes id b.writes.entries o left);
        open_reads = s.counted.open_reads;
      };
    })

read_sound : (b : Base) (id : ReqId) (r : OpenRead) (w w' : Work) (g : Given) → IsSound b w → IsUnmoved w → IsNext id w → deadline_of id ≤ w.time → open_at b.reads.entries id ≡ Some r → EndsRead b id r w g w' → IsSound b w'
read_sound b id r w w' g s u next due there e =
    let left : open_at (left_open w.ended_reads b.reads.entries) id ≡ Some r = left_other id w.ended_reads b.reads.entries next.reads ∙ there in
    subst (λ (y : Work). IsSound b y) (sym e.ends) (record {
      write = s.write;
      read = slot_fresh w.request (left_open (w.ended_reads ++ id ∷ []) b.reads.entries) w.read u.read;
      queue = s.queue;
      taken = s.taken;
      made = s.made;
      gone = s.gone;
      early = record { write = s.early.write; read = λ h. absurd (new_fresh w.read u.read h) };
      fits = s.fits;
      counted = record {
        writes = s.counted.writes;
        reads = early_ended w.time w.ended_reads id due s.counted.reads;
        unanswered = s.counted.unanswered;
        open_reads = ap (λ (n : ℕ). n - 1) s.counted.open_reads ∙ sym (left_length w.ended_reads id b.reads.entries r left);
      };
    })

request_sound : (b : Base) (id : ReqId) (o : Option OpenWrite) (r : Option OpenRead) (x x' : Stage) (g : Given) → IsHolding b → IsSound b x.work → IsUnmoved x.work → IsNext id x.work → deadline_of id ≤ x.work.time → open_at b.writes.entries id ≡ o → open_at b.reads.entries id ≡ r
    → EndsRequest b id o r x g x' → IsSound b x'.work
request_sound b id (Some w) r x x' g holding s u next due writes reads e = write_sound b id w x x' g holding s u next due writes e
request_sound b id None (Some r) x x' g holding s u next due writes reads (e, hints) = read_sound b id r x.work x'.work g s u next due reads e
request_sound b id None None x x' g holding s u next due writes reads (sends, entries, is) = subst (λ (y : Stage). IsSound b y.work) (sym is) s

-- of what the event's own matter moves nothing was touched
record StaysUnmoved (w w' : Work) : Type 0 where
  pub marked : w'.marked ≡ w.marked
  pub batches : w'.batches ≡ w.batches
  pub write : w'.write ≡ w.write
  pub read : w'.read ≡ w.read
  pub taken : w'.taken ≡ w.taken
  pub queue : w'.queue.items ≡ w.queue.items
  pub messages : w'.messages ≡ w.messages

unmoved_on : (w w' : Work) → IsUnmoved w → StaysUnmoved w w' → IsUnmoved w'
unmoved_on w w' u h = record {
  marked = h.marked ∙ u.marked;
  batches = h.batches ∙ u.batches;
  write = h.write ∙ u.write;
  read = h.read ∙ u.read;
  taken = h.taken ∙ u.taken;
  queue = h.queue ∙ u.queue;
  messages = h.messages ∙ u.messages;
}

stays_as : (w w' v : Work) → w' ≡ v → StaysUnmoved w v → StaysUnmoved w w'
stays_as w w' v is h = subst (λ (y : Work). StaysUnmoved w y) (sym is) h

request_stays : (b : Base) (id : ReqId) (o : Option OpenWrite) (r : Option OpenRead) (x x' : Stage) (g : Given) → EndsRequest b id o r x g x' → StaysUnmoved x.work x'.work
request_stays b id (Some w) r x x' g e = stays_as x.work x'.work _ (ended_work b id w x x' g e) (record { marked = refl; batches = refl; write = refl; read = refl; taken = refl; queue = refl; messages = refl })
request_stays b id None (Some r) x x' g (e, hints) = stays_as x.work x'.work _ e.ends (record { marked = refl; batches = refl; write = refl; read = refl; taken = refl; queue = refl; messages = refl })
request_stays b id None None x x' g (sends, entries, is) = stays_as x.work x'.work x.work (ap (λ (y : Stage). y.work) is) (record { marked = refl; batches = refl; write = refl; read = refl; taken = refl; queue = refl; messages = refl })

-- what ended before, or this
ended_one : (k : DueKey) (ids : List ReqId) → k.kind ≡ Deadline → EndedBy k ids (ids ++ k.request ∷ [])
ended_one k ids own e there = elim ((contains_push ids k.request e).0 there) [ inl old ↦ inl old | inr here ↦ inr (own, sym here) ]

ended_none : (k : DueKey) (ids ids' : List ReqId) → ids' ≡ ids → EndedBy k ids ids'
ended_none k ids ids' is e there = inl (subst (λ (xs : List ReqId). Contains xs e) is there)

request_ended : (b : Base) (k : DueKey) (o : Option OpenWrite) (r : Option OpenRead) (x x' : Stage) (g : Given) → k.kind ≡ Deadline → EndsRequest b k.request o r x g x'
    → EndedBy k x.work.ended_writes x'.work.ended_writes × EndedBy k x.work.ended_reads x'.work.ended_reads
request_ended b k (Some w) r x x' g own e =
    let is = ended_work b k.request w x x' g e in
    (subst (λ (ids : List ReqId). EndedBy k x.work.ended_writes ids) (sym (ap (λ (y : Work). y.ended_writes) is)) (ended_one k x.work.ended_writes own), ended_none k x.work.ended_reads x'.work.ended_reads (ap (λ (y : Work). y.ended_reads) is))
request_ended b k None (Some r) x x' g own (e, hints) =
    (ended_none k x.work.ended_writes x'.work.ended_writes (ap (λ (y : Work). y.ended_writes) e.ends), subst (λ (ids : List ReqId). EndedBy k x.work.ended_reads ids) (sym (ap (λ (y : Work). y.ended_reads) e.ends)) (ended_one k x.work.ended_reads own))
request_ended b k None None x x' g own (sends, entries, is) =
    (ended_none k x.work.ended_writes x'.work.ended_writes (ap (λ (y : Stage). y.work.ended_writes) is), ended_none k x.work.ended_reads x'.work.ended_reads (ap (λ (y : Stage). y.work.ended_reads) is))

-- ---- and is told

quiet_own : (b : Base) (id : ReqId) (g : Given) → g.sends ≡ [] → SendsOwn b id g
quiet_own b id g none = subst (λ (xs : List Outbound). AllByRecursion (IsOwn b.me id) (own_sent b.me xs)) (sym none) tt

entered_stays : (b : Base) (mid w' : Work) (g : Given) → g.sends ≡ [] → IsSent b.me g.sends (record mid { entries = mid.entries ++ g.entries }) w' → StaysUnmoved mid w'
entered_stays b mid w' g none sent = record {
  marked = ap (λ (w : Work). w.marked) sent.rest;
  batches = ap (λ (w : Work). w.batches) sent.rest;
  write = ap (λ (w : Work). w.write) sent.rest;
  read = ap (λ (w : Work). w.read) sent.rest;
  taken = ap (λ (w : Work). w.taken) sent.rest;
  queue = sent.queue ∙ ap (λ (xs : List Outbound). mid.queue.items ++ own_sent b.me xs) none ∙ append-nil mid.queue.items;
  messages = sent.messages ∙ ap (λ (xs : List Outbound). mid.messages ++ messages_of b.me mid.time xs) none ∙ append-nil mid.messages;
}

pub deadline_act : (k : DueKey) → k.kind ≡ Deadline → act_by k ≡ DeadlineComes k.request
deadline_act k own = ap (λ (d : DueKind). act_at d k.request k.peer k.number) own

expiry_act : (k : DueKey) → k.kind ≡ Expiry → act_by k ≡ HintExpires k.peer k.number
expiry_act k end = ap (λ (d : DueKind). act_at d k.request k.peer k.number) end

pub deadline_ends : (b : Base) (k : DueKey) (x mid x' : Stage) (g : Given) → IsHolding b → IsSound b x.work → IsUnmoved x.work → k.moment ≤ x.work.time → k ≡ deadline_key k.request → k.kind ≡ Deadline → IsNextDue k x.work
    → EndsRequest b k.request (open_at b.writes.entries k.request) (open_at b.reads.entries k.request) x g mid → IsSent b.me g.sends (record mid.work { entries = mid.work.entries ++ g.entries }) x'.work → x'.hints ≡ mid.hints → EndsDue b k x x'
deadline_ends b k x mid x' g holding s u due key own next e sent hints =
    let id = k.request in
    let o = open_at b.writes.entries id in
    let r = open_at b.reads.entries id in
    let n = next own in
    let at_moment = ap (λ (y : DueKey). y.moment) key in
    let by : deadline_of id ≤ x.work.time = omega arith in
    let none = request_sends b id o r x mid g e in
    let on = request_goes_on b id o r x mid g e in
    let ended = request_ended b k o r x mid g own e in
    record {
      one = λ d. subst (λ (a : Act). EndsOne b d x a x') (sym (deadline_act k own)) (record {
        given = g;
        mid = mid;
        moves = λ kept same. request_moved b d kept id o r x mid g same u n refl refl e;
        goes_on = on;
        none = none;
        sent = sent;
        hints = hints;
      });
      sound = sent_sound b mid.work x'.work g (request_sound b id o r x mid g holding s u n by refl refl e) (quiet_own b mid.work.request g none) sent;
      unmoved = unmoved_on mid.work x'.work (unmoved_on x.work mid.work u (request_stays b id o r x mid g e)) (entered_stays b mid.work x'.work g none sent);
      writes = subst (λ (ids : List ReqId). EndedBy k x.work.ended_writes ids) (sym (ap (λ (w : Work). w.ended_writes) sent.rest)) ended.0;
      reads = subst (λ (ids : List ReqId). EndedBy k x.work.ended_reads ids) (sym (ap (λ (w : Work). w.ended_reads) sent.rest)) ended.1;
      time = ap (λ (w : Work). w.time) sent.rest ∙ on.time;
      ceiling = ap (λ (w : Work). w.ceiling) sent.rest ∙ on.ceiling;
      request = ap (λ (w : Work). w.request) sent.rest ∙ on.request;
    }

told_nothing : (b : Base) (w : Work) → IsSent b.me [] (record w { entries = w.entries ++ [] }) w
told_nothing b w = subst (λ (es : List Entry). IsSent b.me [] (record w { entries = es }) w) (sym (append-nil w.entries)) (sent_none b.me w)

pub hint_ends : (b : Base) (k : DueKey) (x x' : Stage) → k.kind ≡ Expiry → IsSound b x.work → IsUnmoved x.work → DropsHint k.peer k.number x x' → EndsDue b k x x'
hint_ends b k x x' end s u h = record {
  one = λ d. subst (λ (a : Act). EndsOne b d x a x') (sym (expiry_act k end)) (record {
    given = given_nothing;
    mid = x';
    moves = λ kept same. hint_moved b d kept k.peer k.number x x' same h;
    goes_on = goes_on_as x.work x'.work _ h.work (record { time = refl; ceiling = refl; request = refl; queue = refl; messages = refl; entries = refl });
    none = refl;
    sent = told_nothing b x'.work;
    hints = refl;
  });
  sound = dropped_sound b k.peer k.number x x' s h;
  unmoved = unmoved_on x.work x'.work u (stays_as x.work x'.work _ h.work (record { marked = refl; batches = refl; write = refl; read = refl; taken = refl; queue = refl; messages = refl }));
  writes = ended_none k x.work.ended_writes x'.work.ended_writes (ap (λ (w : Work). w.ended_writes) h.work);
  reads = ended_none k x.work.ended_reads x'.work.ended_reads (ap (λ (w : Work). w.ended_reads) h.work);
  time = ap (λ (w : Work). w.time) h.work;
  ceiling = ap (λ (w : Work). w.ceiling) h.work;
  request = ap (λ (w : Work). w.request) h.work;
}
