-- From what a step made in memory to the step of the plain node.
use Rattle.std.proofs.Common.{◌≡◌, ◌<◌, ◌+◌, ◌↔◌, ◌⊎◌, inl, inr, ℕ, Bool, true, false, Option, Some, None, List, [], ◌∷◌, ◌++◌, refl, sym, ap, subst, ◌∙◌, arith, filter, map, max, Contains}
use Rattle.std.specs.Prelude.{◌==◌, if◌then◌else◌, flat_map}
use Rattle.std.specs.List.{AllByRecursion}
use Rattle.std.proofs.Math.Nat.{le-max_left}
use Rattle.std.proofs.lemmas.Bool.{eqb-true}
use Rattle.std.proofs.lemmas.List.Elements.{filter-append}
use Rattle.cs_base.specs.declared.ids.ReqId.{ReqId}
use Rattle.changes.specs.declared.Partition.{Partition}
use Rattle.cs_store.specs.Disk.{Disk, IsImage}
use Rattle.row_change.specs.declared.entry.Hint as hint
use Rattle.row_change.specs.declared.entry.LogItem.{LogItem}
use Rattle.row_change.specs.declared.entry.LogItem.TheVariants.{Data, Paxos, HintAdd, HintGone, Ceiling, Mark, Purge}
use Rattle.peer_messages.specs.declared.chronicle.Entry.{Entry}
use Rattle.peer_messages.specs.declared.event.Event.{Event}
use Rattle.peer_messages.specs.declared.event.What.{What}
use Rattle.peer_messages.specs.declared.event.What.TheVariants.{Client, Deliver, Alive, Collect, Flush, Tick}
use Rattle.peer_messages.specs.declared.message.Message.{Message}
use Rattle.peer_messages.specs.declared.outcome.Outbound.{Outbound}
use Rattle.peer_messages.specs.declared.outcome.Outputs.{Outputs}
use Rattle.row_change.specs.declared.entry.Mark as mark
use Rattle.durable_state.specs.State.{Durable, IsSameKept, row_at}
use Rattle.durable_state.specs.Keeping.{Commits, IsWithOrWithout, TakesItem}
use Rattle.durable_state.proofs.Entries.{commits_parts}
use Rattle.node_steps.specs.State.{NodeState, Batch, OpenWrite, OpenRead}
use Rattle.node_steps.specs.Effects.{nothing}
use Rattle.node_steps.specs.Hints.{KeptHints, hints_in}
use Rattle.node_steps.specs.Leading.{Forgotten, keeping, nothing_made, state_under}
use Rattle.node_steps.specs.Acts.{Act, Rises, Deed, Chain, ceiling_after}
use Rattle.node_steps.specs.Acts.Chain.{begun, matter}
use Rattle.node_steps.specs.Steps.{NodeStep, Due, AreDue, IsExpiry, TellsTables, act_of, risen_time, message_time, looked_at, reading, matter_of, started_by, is_refused, messages_of, sends_of, entries_of}
use Rattle.node_steps.specs.Keeping.{Gone, add_item, ceiling_in, entry_of, data_in, hint_items, hints_made, hints_gone}
use Rattle.node_steps.specs.Stops.{CutStep, Leads as leads_to, MayBeLeft, asked_by, is_entered_at_stop, remains, remains_in}
use Rattle.node_steps.proofs.Entries.{chain_hints}
use Rattle.node_steps.proofs.Failing.{failed_stops}
use Rattle.node_steps.proofs.HintLists.{HintMove, hint_items_only}
use Rattle.hint_store.specs.Staged.{IsSameHints}
use Rattle.hint_store.proofs.Same.{same_member}
use Rattle.replica.specs.Finding.{AlwaysLeaves, IsSafe, StandFor}
use Rattle.replica.specs.Kept.{IsKeptAfter, IsKeptOf}
use Rattle.replica.proofs.Fronts.{leaves_more, leaves_on, leaves_still, stand_more}
use Rattle.node_core.specs.declared.memory.Made as made
use Rattle.node_core.specs.declared.memory.Memory.{Memory}
use Rattle.node_core.specs.declared.outcome.Lost.{Lost}
use Rattle.node_core.specs.declared.slot.Slot.{Slot}
use Rattle.node_core.specs.declared.slot.Slot.TheVariants.{Untouched}
use Rattle.node_core.specs.declared.work.Work.{Work}
use Rattle.node_core.specs.Asking.{IsFresh}
use Rattle.node_core.specs.Due.{AreDueKeys, act_by, due_by, waits_in}
use Rattle.node_core.specs.declared.due.DueKey.{DueKey}
use Rattle.node_core.specs.Hinting.{at}
use Rattle.node_core.specs.Leading.{Leads, Made}
use Rattle.node_core.specs.Memory.{AreOutputsOf, Begun, CutsOff, IsBegun, IsLost, TellsBy, WorksOut, core_behind, core_of, entry_made, is_flush, kept_with, outputs_with}
use Rattle.node_core.specs.Moving.{HasCome, IsCut}
use Rattle.node_core.specs.Nodes.{Core, Halts, HasNoRoom, IsBeforeOrBehind, IsTooLarge, LeadsBy, OverflowsLog, Steps, WouldKeep, state_with}
use Rattle.node_core.specs.Working.{IsDataAt, IsSound, batches_with, down_with, forgotten_in, left_open, with_slot}
use Rattle.replica.specs.Lengths.{IsFirstTooLarge}

-- ---- time rises

abbrev pub before : Memory → Durable → NodeState
before m d = state_with (core_of m) d

abbrev pub matters_of : Memory → Event → List Act
matters_of m e = matter_of m.base.setting m.base.me (looked_at m.time e)

abbrev pub all_matters : Memory → Event → List Due → List Act
all_matters m e due = Rises (risen_time m.time e) ∷ (map act_of due ++ matters_of m e)

pub rises : (m : Memory) (e : Event) → m.time < risen_time m.time e
rises m e = let h = le-max_left (m.time + 1) (max (message_time (looked_at m.time e)) (reading e)) in omega arith

-- what a node forgets at a stop, at the beginning of its step
abbrev begun_at : Memory → ℕ → Forgotten
begun_at m t = record { time = t; risen = t; down = m.base.down; batches = m.base.batches; writes = m.base.writes.entries; reads = m.base.reads.entries }

abbrev forgotten_by : Memory → ReqId → ℕ → Option (List ℕ) → Option (List Batch) → Slot OpenWrite → Slot OpenRead → List ReqId → List ReqId → Forgotten
forgotten_by m id time mark batches write read ws rs = record {
  time = time;
  risen = time;
  down = down_with mark m.base.down;
  batches = batches_with batches m.base.batches;
  writes = with_slot id write (left_open ws m.base.writes.entries);
  reads = with_slot id read (left_open rs m.base.reads.entries);
}

fresh_forgets : (m : Memory) (w : Work) (t : ℕ) → IsFresh m.base w → w.time ≡ t → forgotten_in m.base w ≡ begun_at m t
fresh_forgets m w t fresh time =
    let u = fresh.unmoved in
    ap (λ (x : ℕ). forgotten_by m w.request x w.marked w.batches w.write w.read w.ended_writes w.ended_reads) time
    ∙ ap (λ (x : Option (List ℕ)). forgotten_by m w.request t x w.batches w.write w.read w.ended_writes w.ended_reads) u.marked
    ∙ ap (λ (x : Option (List Batch)). forgotten_by m w.request t None x w.write w.read w.ended_writes w.ended_reads) u.batches
    ∙ ap (λ (x : Slot OpenWrite). forgotten_by m w.request t None None x w.read w.ended_writes w.ended_reads) u.write
    ∙ ap (λ (x : Slot OpenRead). forgotten_by m w.request t None None Untouched x w.ended_writes w.ended_reads) u.read
    ∙ ap (λ (x : List ReqId). forgotten_by m w.request t None None Untouched Untouched x w.ended_reads) fresh.ended_writes
    ∙ ap (λ (x : List ReqId). forgotten_by m w.request t None None Untouched Untouched [] x) fresh.ended_reads

risen_leads : (m : Memory) (d : Durable) (t : ℕ) (left : List Act) → m.time < t → Leads m.base.setting m.base.me d (before m d) (Rises t ∷ left) (ceiling_after d.ceiling t) nothing_made (hints_in (before m d)) (begun_at m t) [] left
risen_leads m d t left later d' is =
    let s = before m d in
    let s' : Durable → NodeState = λ e. state_under (ceiling_after d.ceiling t) (begun_at m t) (keeping (hints_in s) e) in
    let deed : Deed = record { node = m.base.me; act = Rises t; before = s; after = s' d; effects = nothing } in
    subst (λ (e : Durable). Made m.base.setting m.base.me s (Rises t ∷ left) nothing_made (s' e) [] left) (sym is) (record {
      deeds = deed ∷ [];
      moves = matter [] s (s' d) (Rises t) left nothing begun (later, refl, refl);
      sent = refl;
      told = refl;
      taken = refl;
      made = refl;
      gone = refl;
    })

begun_come : (m : Memory) (d : Durable) (w : Work) (t : ℕ) (left : List Act) (k : KeptHints) → IsFresh m.base w → m.time < t → w.time ≡ t → w.ceiling ≡ ceiling_after d.ceiling t → IsSameHints (hints_in (before m d)) k
    → HasCome m.base d (before m d) (Rises t ∷ left) left [] (at w k)
begun_come m d w t left k fresh later time ceiling same =
    let u = fresh.unmoved in
    record {
      kept = hints_in (before m d);
      same = same;
      making = nothing_made;
      taken = u.taken;
      made = fresh.made;
      gone = fresh.gone;
      messages = u.messages;
      entries = fresh.entries;
      leads = subst (λ (n : ℕ). Leads m.base.setting m.base.me d (before m d) (Rises t ∷ left) n nothing_made (hints_in (before m d)) (forgotten_in m.base w) [] left) (sym ceiling)
          (subst (λ (f : Forgotten). Leads m.base.setting m.base.me d (before m d) (Rises t ∷ left) (ceiling_after d.ceiling t) nothing_made (hints_in (before m d)) f [] left) (sym (fresh_forgets m w t fresh time)) (risen_leads m d t left later));
    }

-- ---- what is due

acts_are : (keys : List DueKey) → map act_of (map due_by keys) ≡ map act_by keys
acts_are [] = refl
acts_are (k ∷ keys) = ap (λ (acts : List Act). act_by k ∷ acts) (acts_are keys)

either_on : {P Q R : Type 0} → (Q → R) → P ⊎ Q → P ⊎ R
either_on {P} {Q} {R} to (inl p) = inl p
either_on {P} {Q} {R} to (inr q) = inr (to q)

-- the hints that are kept here are those of the store
expiry_by : (m : Memory) (d : Durable) (k : KeptHints) (x : Due) → ((h : hint.Hint) → Contains k.hints h → Contains d.hints h) → IsExpiry m.base.setting m.base.me (waits_in m.base k) x → IsExpiry m.base.setting m.base.me (before m d) x
expiry_by m d k x to (h, there, is) = (h, to h there, is)

expiry_to : (m : Memory) (d : Durable) (k : KeptHints) (x : Due) → ((h : hint.Hint) → Contains d.hints h → Contains k.hints h) → IsExpiry m.base.setting m.base.me (before m d) x → IsExpiry m.base.setting m.base.me (waits_in m.base k) x
expiry_to m d k x to (h, there, is) = (h, to h there, is)

pub due_before : (m : Memory) (d : Durable) (k : KeptHints) (time : ℕ) (keys : List DueKey) → IsSameHints (hints_in (before m d)) k → AreDueKeys m.base k time keys → AreDue m.base.setting m.base.me time (before m d) (map due_by keys)
due_before m d k time keys same are = record {
  ascending = are.ascending;
  each = λ x.
      let here = are.each x in
      let member : (h : hint.Hint) → Contains k.hints h ↔ Contains d.hints h = λ h. same_member (hints_in (before m d)) k same h in (
        λ there. let is = here.0 there in (is.0, either_on (expiry_by m d k x (λ h. (member h).0)) is.1),
        λ is. here.1 (is.0, either_on (expiry_to m d k x (λ h. (member h).1)) is.1),
      );
}

-- ---- what a step made, as its contracts know it

pub record IsReady (m : Memory) (d : Durable) (e : Event) (y : made.Made) (k : KeptHints) : Type 0 where
  pub due : List Due
  pub are_due : AreDue m.base.setting m.base.me (risen_time m.time e) (before m d) due
  pub come : HasCome m.base d (before m d) (all_matters m e due) [] [] (at y.work k)
  pub cut : IsCut m.base (before m d) (all_matters m e due) y.work
  pub sound : IsSound m.base y.work
  pub time : y.work.time ≡ risen_time m.time e
  pub started : y.started ≡ started_by m.base.me (risen_time m.time e) e.what
  pub refused : y.refused ≡ is_refused m.base.setting m.time (risen_time m.time e) e e.what
  pub flushes : y.flushes ≡ is_flush e.what
  pub ceiling : m.kept.ceiling ≡ d.ceiling

-- at a stop inside the step
pub record IsCutIn (m : Memory) (d : Durable) (e : Event) (w : Work) : Type 0 where
  pub due : List Due
  pub are_due : AreDue m.base.setting m.base.me (risen_time m.time e) (before m d) due
  pub cut : IsCut m.base (before m d) (all_matters m e due) w

abbrev with_work : made.Made → Work → made.Made
with_work y w = record y { work = w }

-- the store has what is kept
same_tied : (m : Memory) (d : Durable) → IsKeptOf d (core_of m).kept → m.hints.now ≡ m.hints.before → IsSameHints (hints_in (before m d)) m.hints.now
same_tied m d tied settled = subst (λ (k : KeptHints). IsSameHints (hints_in (before m d)) k) (sym settled) (record { hints = tied.hints; numbers = tied.numbers })

begins : (m : Memory) (d : Durable) (e : Event) (t : ℕ) (x : Begun) (left : List Act) → t ≡ risen_time m.time e → IsBegun m.base m.time m.kept.ceiling t e x → IsKeptOf d (core_of m).kept → m.hints.now ≡ m.hints.before
    → HasCome m.base d (before m d) (Rises (risen_time m.time e) ∷ left) left [] (at x.made.work m.hints.now)
begins m d e t x left at_time b tied settled =
    begun_come m d x.made.work (risen_time m.time e) left m.hints.now b.fresh (rises m e) (b.time ∙ at_time)
    (b.ceiling ∙ ap (λ (c : ℕ). ceiling_after c t) tied.ceiling ∙ ap (ceiling_after d.ceiling) at_time) (same_tied m d tied settled)

-- the matters are those of what the node looks at
abbrev of_what : Memory → What → List Act
of_what m what = matter_of m.base.setting m.base.me what

due_come : (m : Memory) (d : Durable) (e : Event) (t : ℕ) (x : Begun) (keys : List DueKey) → t ≡ risen_time m.time e → IsBegun m.base m.time m.kept.ceiling t e x → IsKeptOf d (core_of m).kept → m.hints.now ≡ m.hints.before
    → HasCome m.base d (before m d) (all_matters m e (map due_by keys)) (map act_by keys ++ of_what m x.what) [] (at x.made.work m.hints.now)
due_come m d e t x keys at_time b tied settled =
    let first : HasCome m.base d (before m d) (all_matters m e (map due_by keys)) (map act_of (map due_by keys) ++ matters_of m e) [] (at x.made.work m.hints.now) = begins m d e t x (map act_of (map due_by keys) ++ matters_of m e) at_time b tied settled in
    subst (λ (acts : List Act). HasCome m.base d (before m d) (all_matters m e (map due_by keys)) acts [] (at x.made.work m.hints.now))
    (ap (λ (acts : List Act). acts ++ matters_of m e) (acts_are keys) ∙ ap (λ (what : What). map act_by keys ++ of_what m what) (sym b.what)) first

due_at : (m : Memory) (d : Durable) (e : Event) (t : ℕ) (x : Begun) (keys : List DueKey) → t ≡ risen_time m.time e → IsBegun m.base m.time m.kept.ceiling t e x → IsKeptOf d (core_of m).kept → m.hints.now ≡ m.hints.before → AreDueKeys m.base m.hints.now x.made.work.time keys
    → AreDue m.base.setting m.base.me (risen_time m.time e) (before m d) (map due_by keys)
due_at m d e t x keys at_time b tied settled are =
    due_before m d m.hints.now (risen_time m.time e) keys (same_tied m d tied settled) (subst (λ (u : ℕ). AreDueKeys m.base m.hints.now u keys) (b.time ∙ at_time) are)

pub ready : (m : Memory) (d : Durable) (e : Event) (t : ℕ) (x : Begun) (honest : Type 0) (w : Work) (k : KeptHints) → t ≡ risen_time m.time e → IsBegun m.base m.time m.kept.ceiling t e x → WorksOut m.base honest d x.what (at x.made.work m.hints.now) (at w k) → honest → IsKeptOf d (core_of m).kept
    → m.hints.now ≡ m.hints.before → IsReady m d e (with_work x.made w) k
ready m d e t x honest w k at_time b works is tied settled =
    let keys = works.due.keys in
    let start = works.due.comes d (before m d) (all_matters m e (map due_by keys)) (of_what m x.what) (due_come m d e t x keys at_time b tied settled) in
    record {
      due = map due_by keys;
      are_due = due_at m d e t x keys at_time b tied settled works.due.due;
      come = works.worked.comes is (before m d) (all_matters m e (map due_by keys)) start;
      cut = works.worked.cut is (before m d) (all_matters m e (map due_by keys)) start;
      sound = works.worked.sound;
      time = works.worked.time ∙ works.due.time ∙ b.time ∙ at_time;
      started = b.started ∙ ap (λ (u : ℕ). started_by m.base.me u e.what) at_time;
      refused = b.refused ∙ ap (λ (u : ℕ). is_refused m.base.setting m.time u e e.what) at_time;
      flushes = b.flushes;
      ceiling = tied.ceiling;
    }

pub cut_at : (m : Memory) (d : Durable) (e : Event) (t : ℕ) (x : Begun) (w : Work) → t ≡ risen_time m.time e → IsBegun m.base m.time m.kept.ceiling t e x → CutsOff m.base d x.what (at x.made.work m.hints.now) w → IsKeptOf d (core_of m).kept → m.hints.now ≡ m.hints.before → IsCutIn m d e w
cut_at m d e t x w at_time b off tied settled =
    let keys = off.due.keys in
    record {
      due = map due_by keys;
      are_due = due_at m d e t x keys at_time b tied settled off.due.due;
      cut = off.cuts (before m d) (all_matters m e (map due_by keys)) (off.due.comes d (before m d) (all_matters m e (map due_by keys)) (of_what m x.what) (due_come m d e t x keys at_time b tied settled));
    }

-- ---- what the entry makes of what is kept

-- of what is kept, all but the content
abbrev rest_of : Durable → Durable
rest_of d = record d { content = [] }

item_rest : (t : ℕ) (x : LogItem) (d d' : Durable) → IsDataAt t x → TakesItem x d d' → rest_of d' ≡ rest_of d
item_rest t (Data arrival m) d d' is h = ap rest_of h.2
item_rest t (Paxos p row) d d' is h = absurd is
item_rest t (HintAdd h') d d' is h = absurd is
item_rest t (HintGone peer number) d d' is h = absurd is
item_rest t (Ceiling n) d d' is h = absurd is
item_rest t (Mark m) d d' is h = absurd is
item_rest t (Purge x) d d' is h = absurd is

items_rest : (t : ℕ) (items : List LogItem) (d d' : Durable) → AllByRecursion (IsDataAt t) items → Commits items d d' → rest_of d' ≡ rest_of d
items_rest t [] d d' all is = ap rest_of is
items_rest t (x ∷ xs) d d' all (mid, takes, more) = items_rest t xs mid d' all.1 more ∙ item_rest t x d mid all.0 takes

raised : (b : Bool) (old n : ℕ) (mid d : Durable) → (old == n) ≡ b → mid.ceiling ≡ old → Commits (if b then [] else Ceiling n ∷ []) mid d → d ≡ record mid { ceiling = n }
raised true old n mid d same at is = is ∙ ap (λ (x : ℕ). record mid { ceiling = x }) (at ∙ eqb-true old n same)
raised false old n mid d same at (next, takes, is) = is ∙ takes

-- the moves lead to what the entry makes
record Brought (m : Memory) (d : Durable) (e : Event) (y : made.Made) (k : KeptHints) (due : List Due) (d' : Durable) : Type 0 where
  pub kept : KeptHints
  pub same : IsSameHints kept k
  pub mid : Durable
  pub rest : rest_of mid ≡ rest_of d
  pub whole : d' ≡ record (keeping kept mid) { ceiling = y.work.ceiling }
  pub deeds : List Deed
  pub moves : Chain m.base.setting m.base.me (before m d) (all_matters m e due) deeds (state_with (core_behind m y.work k) d') [] []
  pub messages : y.work.messages ≡ messages_of m.base.me y.work.time (flat_map sends_of deeds)
  pub entries : y.work.entries ≡ flat_map entries_of deeds
  pub items : entry_made m.kept.ceiling y.work ≡ entry_of m.base.setting (before m d) deeds (state_with (core_behind m y.work k) d')

abbrev entry_by : List LogItem → List hint.Hint → List Gone → ℕ → ℕ → List LogItem
entry_by taken made gone a b = taken ++ (hint_items made gone ++ ceiling_in a b)

brought : (m : Memory) (d : Durable) (e : Event) (y : made.Made) (k : KeptHints) (d' : Durable) → (r : IsReady m d e y k) → Commits (entry_made m.kept.ceiling y.work) d d' → Brought m d e y k r.due d'
brought m d e y k d' r commits =
    let w = y.work in
    let c = m.base.setting in
    let me = m.base.me in
    let s = before m d in
    let x = r.come.making in
    let j = r.come.kept in
    let entry : entry_made m.kept.ceiling w ≡ entry_by x.taken x.made x.gone d.ceiling w.ceiling =
    ap (λ (xs : List LogItem). xs ++ ((w.made ++ w.gone) ++ ceiling_in m.kept.ceiling w.ceiling)) r.come.taken
    ∙ ap (λ (xs : List LogItem). x.taken ++ ((xs ++ w.gone) ++ ceiling_in m.kept.ceiling w.ceiling)) r.come.made
    ∙ ap (λ (xs : List LogItem). x.taken ++ ((map add_item x.made ++ xs) ++ ceiling_in m.kept.ceiling w.ceiling)) r.come.gone
    ∙ ap (λ (n : ℕ). entry_by x.taken x.made x.gone n w.ceiling) r.ceiling in
    let parts = commits_parts x.taken (hint_items x.made x.gone ++ ceiling_in d.ceiling w.ceiling) d d' (subst (λ (xs : List LogItem). Commits xs d d') entry commits) in
    let mid = parts.0 in
    let more = commits_parts (hint_items x.made x.gone) (ceiling_in d.ceiling w.ceiling) mid d' parts.2 in
    let prev = r.come.leads mid parts.1 in
    let deeds = prev.deeds in
    let rest = items_rest w.time x.taken d mid (subst (λ (xs : List LogItem). AllByRecursion (IsDataAt w.time) xs) r.come.taken r.sound.taken) parts.1 in
    let start : keeping (hints_in s) mid ≡ mid = ap (λ (z : Durable). record mid { hints = z.hints; numbers = z.numbers }) (sym rest) in
    let moved : HintMove (hints_in s) (flat_map (hints_made c) deeds) (flat_map (hints_gone c) deeds) j = chain_hints c me s _ deeds (state_under w.ceiling (forgotten_in m.base w) (keeping j mid)) [] [] prev.moves in
    let hinted : HintMove (hints_in s) x.made x.gone j =
    subst (λ (gs : List Gone). HintMove (hints_in s) x.made gs j) prev.gone (subst (λ (hs : List hint.Hint). HintMove (hints_in s) hs (flat_map (hints_gone c) deeds) j) prev.made moved) in
    let behind : more.0 ≡ keeping j mid = hint_items_only (hints_in s) j x.made x.gone mid more.0 hinted (subst (λ (z : Durable). Commits (hint_items x.made x.gone) z more.0) (sym start) more.1) in
    let ceiling : more.0.ceiling ≡ d.ceiling = ap (λ (z : Durable). z.ceiling) behind ∙ ap (λ (z : Durable). z.ceiling) rest in
    let whole : d' ≡ record (keeping j mid) { ceiling = w.ceiling } = raised (d.ceiling == w.ceiling) d.ceiling w.ceiling more.0 d' refl ceiling more.2 ∙ ap (λ (z : Durable). record z { ceiling = w.ceiling }) behind in
    record {
      kept = j;
      same = r.come.same;
      mid = mid;
      rest = rest;
      whole = whole;
      deeds = deeds;
      moves = subst (λ (z : Durable). Chain c me s (all_matters m e r.due) deeds (state_with (core_behind m w k) z) [] []) (sym whole) prev.moves;
      messages = r.come.messages ∙ ap (λ (xs : List Outbound). messages_of me w.time xs) (sym prev.sent);
      entries = r.come.entries ∙ sym prev.told;
      items =
          entry
          ∙ ap (λ (xs : List LogItem). entry_by xs x.made x.gone d.ceiling w.ceiling) (sym prev.taken)
          ∙ ap (λ (hs : List hint.Hint). entry_by (flat_map (data_in c) deeds) hs x.gone d.ceiling w.ceiling) (sym prev.made)
          ∙ ap (λ (gs : List Gone). entry_by (flat_map (data_in c) deeds) (flat_map (hints_made c) deeds) gs d.ceiling w.ceiling) (sym prev.gone)
          ∙ ap (λ (z : Durable). entry_by (flat_map (data_in c) deeds) (flat_map (hints_made c) deeds) (flat_map (hints_gone c) deeds) d.ceiling z.ceiling) (sym whole);
    }

-- ---- to whatever the entry makes of what is kept

tells : (what : What) (tables : Option ℕ) → TellsBy (is_flush what) tables → TellsTables what tables
tells (Client ask) tables h = h
tells (Deliver msg) tables h = h
tells (Alive peer up) tables h = h
tells (Collect request) tables h = h
tells Flush tables h = h
tells Tick tables h = h

some_tables : (what : What) → (tables : Option ℕ) × TellsTables what tables
some_tables (Client ask) = (None, refl)
some_tables (Deliver msg) = (None, refl)
some_tables (Alive peer up) = (None, refl)
some_tables (Collect request) = (None, refl)
some_tables Flush = (Some 0, (0, refl))
some_tables Tick = (None, refl)

abbrev Brings : Memory → Durable → Event → made.Made → KeptHints → Option ℕ → Durable → Type 0
Brings m d e y k tables d' =
    (deeds : List Deed) × NodeStep m.base.setting m.base.me (before m d) e deeds (outputs_with y tables) (state_with (core_behind m y.work k) d') × (entry_made m.kept.ceiling y.work ≡ entry_of m.base.setting (before m d) deeds (state_with (core_behind m y.work k) d'))

brings : (m : Memory) (d : Durable) (e : Event) (y : made.Made) (k : KeptHints) (tables : Option ℕ) (d' : Durable) → IsReady m d e y k → TellsTables e.what tables → Commits (entry_made m.kept.ceiling y.work) d d' → Brings m d e y k tables d'
brings m d e y k tables d' r told commits =
    let w = y.work in
    let b = brought m d e y k d' r commits in
    let given : (started : Option ReqId) (refused : Bool) (ms : List Message) (es : List Entry) → Outputs = λ started refused ms es. record { time = w.time; started = started; sends = ms; entries = es; tables = tables; refused = refused } in (
      b.deeds,
      record {
        due = r.due;
        are_due = r.are_due;
        moves = b.moves;
        tables = told;
        outputs =
            ap (λ (x : Option ReqId). given x y.refused w.messages w.entries) r.started
            ∙ ap (λ (x : Bool). given (started_by m.base.me (risen_time m.time e) e.what) x w.messages w.entries) r.refused
            ∙ ap (λ (x : List Message). given (started_by m.base.me (risen_time m.time e) e.what) (is_refused m.base.setting m.time (risen_time m.time e) e e.what) x w.entries) b.messages
            ∙ ap (λ (x : List Entry). given (started_by m.base.me (risen_time m.time e) e.what) (is_refused m.base.setting m.time (risen_time m.time e) e e.what) (messages_of m.base.me w.time (flat_map sends_of b.deeds)) x) b.entries;
      },
      b.items,
    )

-- and it is kept so
pub kept_after : (m : Memory) (d : Durable) (e : Event) (y : made.Made) (k : KeptHints) → IsReady m d e y k → IsKeptOf d (core_of m).kept → IsKeptAfter (entry_made m.kept.ceiling y.work) d (record (kept_with k m.kept) { ceiling = y.work.ceiling })
kept_after m d e y k r tied d' commits =
    let b = brought m d e y k d' r commits in
    subst (λ (z : Durable). IsKeptOf z (record (kept_with k m.kept) { ceiling = y.work.ceiling })) (sym b.whole) (record {
      ceiling = refl;
      rows = λ p. tied.rows p ∙ ap (λ (z : Durable). row_at z.rows p) (sym b.rest);
      hints = b.same.hints;
      numbers = b.same.numbers;
      marks = λ x. subst (λ (xs : List mark.Mark). Contains m.kept.marks x ↔ Contains xs x) (ap (λ (z : Durable). z.marks) (sym b.rest)) (tied.marks x);
    })

pub leads_by : (m : Memory) (d : Durable) (e : Event) (y : made.Made) (k : KeptHints) (tables : Option ℕ) → IsReady m d e y k → TellsTables e.what tables → LeadsBy (core_of m) d e (outputs_with y tables) (entry_made m.kept.ceiling y.work)
leads_by m d e y k tables r told d' commits = let b = brings m d e y k tables d' r told commits in (b.0, state_with (core_behind m y.work k) d', b.1, refl, b.2)

pub would_keep : (m : Memory) (d : Durable) (e : Event) (y : made.Made) (k : KeptHints) (P : List LogItem → Type 0) → IsReady m d e y k → P (entry_made m.kept.ceiling y.work) → WouldKeep (core_of m) d e P
would_keep m d e y k P r has =
    let t = some_tables e.what in
    record { items = entry_made m.kept.ceiling y.work; outputs = outputs_with y t.0; leads = leads_by m d e y k t.0 r t.1; has = has }

pub no_room : (m : Memory) (d : Durable) (log_end : ℕ) (e : Event) (y : made.Made) (k : KeptHints) → IsReady m d e y k → OverflowsLog log_end d (entry_made m.kept.ceiling y.work) → HasNoRoom (core_of m) d log_end e
no_room m d log_end e y k r over = inr (would_keep m d e y k (OverflowsLog log_end d) r over)

pub too_large : (m : Memory) (d : Durable) (e : Event) (y : made.Made) (k : KeptHints) (p : Partition) → IsReady m d e y k → IsFirstTooLarge (entry_made m.kept.ceiling y.work) d p → IsTooLarge (core_of m) d e p
too_large m d e y k p r large = would_keep m d e y k (λ items. IsFirstTooLarge items d p) r large

pub stepped : (m : Memory) (d : Durable) (e : Event) (y : made.Made) (k : KeptHints) (o : Outputs) (n' : Core) (d' : Durable) → IsReady m d e y k → AreOutputsOf y o → n' ≡ core_behind m y.work k → Commits (entry_made m.kept.ceiling y.work) d d' → Steps (core_of m) d e o n' d'
stepped m d e y k o n' d' r outputs is commits =
    let told = tells e.what o.tables (subst (λ (f : Bool). TellsBy f o.tables) r.flushes outputs.tables) in
    let b = brings m d e y k o.tables d' r told commits in
    subst (λ (n : Core). Steps (core_of m) d e o n d') (sym is) (record {
      deeds = b.0;
      step = subst (λ (x : Outputs). NodeStep m.base.setting m.base.me (before m d) e b.0 x (state_with (core_behind m y.work k) d')) (sym outputs.outputs) b.1;
      stays = refl;
    })

-- ---- a stop

may_be_left : (m : Memory) (d : Durable) (e : Event) (y : made.Made) (k : KeptHints) (x : Durable) → IsReady m d e y k → IsWithOrWithout (entry_made m.kept.ceiling y.work) d x → MayBeLeft m.base.setting m.base.me (before m d) e (remains y.started y.work.entries) x
may_be_left m d e y k x r may =
    let t = some_tables e.what in
    let leads : leads_to m.base.setting m.base.me (before m d) e (outputs_with y t.0) (entry_made m.kept.ceiling y.work) = λ d' commits. let b = brings m d e y k t.0 d' r t.1 commits in (b.0, state_with (core_behind m y.work k) d', b.1, refl) in
    failed_stops m.base.setting m.base.me (before m d) e (outputs_with y t.0) (entry_made m.kept.ceiling y.work) x leads may

cut_step : (m : Memory) (d : Durable) (e : Event) (w : Work) → (c : IsCutIn m d e w) → CutStep m.base.setting m.base.me (before m d) e c.cut.deeds
cut_step m d e w c = record { reached = c.cut.reached; pending = c.cut.pending; left = c.cut.left; due = c.due; are_due = c.are_due; moves = c.cut.moves; taken = c.cut.taken }

remain : (m : Memory) (d : Durable) (e : Event) (w : Work) (started : Option ReqId) → (c : IsCutIn m d e w) → started ≡ started_by m.base.me (risen_time m.time e) e.what → remains started w.entries ≡ remains_in m.base.me (before m d) e c.cut.deeds
remain m d e w started c is =
    ap (λ (x : Option ReqId). remains x w.entries) is
    ∙ filter-append is_entered_at_stop (asked_by (started_by m.base.me (risen_time m.time e) e.what)) w.entries
    ∙ ap (λ (xs : List Entry). filter is_entered_at_stop (asked_by (started_by m.base.me (risen_time m.time e) e.what)) ++ xs) c.cut.entries
    ∙ sym (filter-append is_entered_at_stop (asked_by (started_by m.base.me (risen_time m.time e) e.what)) (flat_map entries_of c.cut.deeds))

pub ready_cut : (m : Memory) (d : Durable) (e : Event) (y : made.Made) (k : KeptHints) → IsReady m d e y k → IsCutIn m d e y.work
ready_cut m d e y k r = record { due = r.due; are_due = r.are_due; cut = r.cut }

lost_remains : (started : Option ReqId) (entries : List Entry) (l : Lost) → IsLost started entries l → remains l.started l.entries ≡ remains started entries
lost_remains started entries l lost = ap (λ (x : Option ReqId). remains x l.entries) lost.started ∙ ap (remains started) lost.entries

abbrev Meaning : Type 1
Meaning = (ℕ → List ℕ) → Durable → Type 0

halts : (st : Meaning) (m : Memory) (d : Durable) (e : Event) (w : Work) (started : Option ReqId) (l : Lost) (disk : Disk) → IsCutIn m d e w → started ≡ started_by m.base.me (risen_time m.time e) e.what → IsLost started w.entries l
    → ((files : ℕ → List ℕ) → IsImage disk disk.moment files → StandFor st (MayBeLeft m.base.setting m.base.me (before m d) e (remains started w.entries)) files)
    → Halts (core_of m) d e (remains l.started l.entries) st disk
halts st m d e w started l disk cut is lost leaves =
    subst (λ (xs : List Entry). Halts (core_of m) d e xs st disk) (sym (lost_remains started w.entries l lost)) (record {
      deeds = cut.cut.deeds;
      cut = cut_step m d e w cut;
      entries = remain m d e w started cut is;
      leaves = leaves;
    })

at_the_end : (st : Meaning) (P : Durable → Type 0) (old new : Disk) → AlwaysLeaves st P old new → (files : ℕ → List ℕ) → IsImage new new.moment files → StandFor st P files
at_the_end st P old new h files image = let later = h.on.later in h.files new.moment files later (omega arith) image

-- the commit failed
pub commit_halts : (st : Meaning) (m : Memory) (d : Durable) (e : Event) (y : made.Made) (k : KeptHints) (l : Lost) (old new : Disk) → IsReady m d e y k → IsLost y.started y.work.entries l → AlwaysLeaves st (IsWithOrWithout (entry_made m.kept.ceiling y.work) d) old new → Halts (core_of m) d e (remains l.started l.entries) st new
commit_halts st m d e y k l old new r lost leaves =
    halts st m d e y.work y.started l new (ready_cut m d e y k r) r.started lost
    (λ files image. stand_more st (IsWithOrWithout (entry_made m.kept.ceiling y.work) d) (MayBeLeft m.base.setting m.base.me (before m d) e (remains y.started y.work.entries)) (λ x may. may_be_left m d e y k x r may) files (at_the_end st _ old new leaves files image))

-- a look at what is kept failed
pub look_halts : (st : Meaning) (m : Memory) (d : Durable) (e : Event) (w : Work) (started : Option ReqId) (l : Lost) (old new : Disk) → IsCutIn m d e w → started ≡ started_by m.base.me (risen_time m.time e) e.what → IsLost started w.entries l
    → AlwaysLeaves st (IsSameKept d) old new → Halts (core_of m) d e (remains l.started l.entries) st new
look_halts st m d e w started l old new cut is lost leaves =
    halts st m d e w started l new cut is lost
    (λ files image. stand_more st (IsSameKept d) (MayBeLeft m.base.setting m.base.me (before m d) e (remains started w.entries)) (λ x same. inl same) files (at_the_end st _ old new leaves files image))

-- ---- a crash at any moment

pub look_leaves : (st : Meaning) (n : Core) (d : Durable) (e : Event) (old new : Disk) → AlwaysLeaves st (IsSameKept d) old new → AlwaysLeaves st (IsBeforeOrBehind n d e) old new
look_leaves st n d e old new h = leaves_more st (IsSameKept d) (IsBeforeOrBehind n d e) old new (λ x same. ([], inl same)) h

pub still_leaves : (st : Meaning) (n : Core) (d : Durable) (e : Event) (disk : Disk) → IsSafe st d disk → AlwaysLeaves st (IsBeforeOrBehind n d e) disk disk
still_leaves st n d e disk safe = look_leaves st n d e disk disk (leaves_still st d disk safe)

pub step_leaves : (st : Meaning) (m : Memory) (d : Durable) (e : Event) (y : made.Made) (k : KeptHints) (old mid new : Disk) → IsReady m d e y k → AlwaysLeaves st (IsSameKept d) old mid → AlwaysLeaves st (IsWithOrWithout (entry_made m.kept.ceiling y.work) d) mid new → AlwaysLeaves st (IsBeforeOrBehind (core_of m) d e) old new
step_leaves st m d e y k old mid new r first rest =
    leaves_on st (IsBeforeOrBehind (core_of m) d e) old mid new (look_leaves st (core_of m) d e old mid first)
    (leaves_more st (IsWithOrWithout (entry_made m.kept.ceiling y.work) d) (IsBeforeOrBehind (core_of m) d e) mid new (λ x may. (remains y.started y.work.entries, may_be_left m d e y k x r may)) rest)
