-- What a deadline makes of a step, and the age of a hint, each as one move.
use Rattle.std.proofs.Common.{◌≡◌, inl, inr, ℕ, ◌-◌, ◌≤◌, Bool, true, false, Option, Some, None, List, [], ◌∷◌, ◌++◌, map, append-nil, refl, sym, ap, subst, ◌∙◌, arith, Contains}
use Rattle.std.specs.Prelude.{if◌then◌else◌, nat_lt}
use Rattle.std.proofs.lemmas.Bool.{cases_Bool, ltb-true}
use Rattle.std.specs.Map.{remove_entry}
use Rattle.std.specs.BTreeMap.{is_at}
use Rattle.cs_base.specs.declared.ids.ReqId.{ReqId}
use Rattle.cs_base.specs.Requests.{request_cmp}
use Rattle.row_change.specs.declared.entry.Hint as hint
use Rattle.peer_messages.specs.declared.chronicle.Entry.{Entry}
use Rattle.peer_messages.specs.declared.outcome.Move.{Move}
use Rattle.peer_messages.specs.declared.outcome.Outbound.{Outbound}
use Rattle.peer_messages.specs.Moves.{deadline_of, quiet}
use Rattle.durable_state.specs.State.{Durable}
use Rattle.node_steps.specs.State.{NodeState, OpenWrite, OpenRead}
use Rattle.node_steps.specs.Effects.{Effects, open_at}
use Rattle.node_steps.specs.Hints.{KeptHints, push_hints, pushed_hints, drop_hint}
use Rattle.node_steps.specs.Leading.{Forgotten, keeping, state_under}
use Rattle.node_steps.specs.Writes.{unheard, write_at, write_told}
use Rattle.node_steps.specs.Acts.{DeadlineComes, HintExpires, Ends, EndsRead as reads_end}
use Rattle.node_steps.specs.Keeping.{Gone, add_item, gone_item, gone_if_kept, hints_at_end}
use Rattle.hint_store.specs.Staged.{IsSameHints}
use Rattle.hint_store.proofs.Same.{same_drop, same_kept, same_pushed_all, same_pushes, same_trans}
use Rattle.node_core.specs.declared.base.Base.{Base}
use Rattle.node_core.specs.declared.slot.Slot.{Slot}
use Rattle.node_core.specs.declared.slot.Slot.TheVariants.{Untouched}
use Rattle.node_core.specs.declared.work.Given.{Given}
use Rattle.node_core.specs.declared.work.Work.{Work}
use Rattle.node_core.specs.Asking.{IsUnmoved}
use Rattle.node_core.specs.Deadlines.{EndsWrite, EndsRead, EndsRequest, IsNext}
use Rattle.node_core.specs.Hinting.{Stage, at, DropsHint, LeavesHints}
use Rattle.node_core.specs.Working.{effects_given, forgotten_in, left_open, state_at, with_slot}
use Rattle.node_core.specs.Moving.{GoesOn, Moved}
use Rattle.node_core.proofs.Hinting.{no_gone}
use Rattle.node_core.proofs.LeftOpen.{left_more, left_other}

-- ---- a slot that the step has not touched

plain : {A : Type 0} (id : ReqId) (slot : Slot A) (xs : List (ReqId × A)) → slot ≡ Untouched → with_slot id slot xs ≡ xs
plain {A} id slot xs is = ap (λ (s : Slot A). with_slot id s xs) is

plain_removed : {A : Type 0} (id e : ReqId) (slot : Slot A) (xs : List (ReqId × A)) → slot ≡ Untouched → with_slot id slot (remove_entry (is_at (request_cmp e)) xs) ≡ remove_entry (is_at (request_cmp e)) (with_slot id slot xs)
plain_removed {A} id e slot xs is = plain id slot (remove_entry (is_at (request_cmp e)) xs) is ∙ ap (λ (ys : List (ReqId × A)). remove_entry (is_at (request_cmp e)) ys) (sym (plain id slot xs is))

-- what one more that ended makes of the open ones
one_ended : {A : Type 0} (id e : ReqId) (ids : List ReqId) (slot : Slot A) (xs : List (ReqId × A)) → slot ≡ Untouched → with_slot id slot (left_open (ids ++ e ∷ []) xs) ≡ remove_entry (is_at (request_cmp e)) (with_slot id slot (left_open ids xs))
one_ended {A} id e ids slot xs is = ap (λ (ys : List (ReqId × A)). with_slot id slot ys) (left_more ids e xs) ∙ plain_removed id e slot (left_open ids xs) is

still_open : {A : Type 0} (id e : ReqId) (ids : List ReqId) (slot : Slot A) (xs : List (ReqId × A)) (o : Option A) → slot ≡ Untouched → ((k : ReqId) → Contains ids k → k ≡ e → ⊥) → open_at xs e ≡ o → open_at (with_slot id slot (left_open ids xs)) e ≡ o
still_open {A} id e ids slot xs o is away there = ap (λ (ys : List (ReqId × A)). open_at ys e) (plain id slot (left_open ids xs) is) ∙ left_other e ids xs away ∙ there

given_as : (g : Given) (es : List Entry) → g.sends ≡ [] → g.entries ≡ es → let o : Effects = record { sends = []; entries = es } in effects_given g ≡ o
given_as g es sends entries =
    ap (λ (ys : List Outbound). let o : Effects = record { sends = ys; entries = g.entries } in o) sends ∙ ap (λ (zs : List Entry). let o : Effects = record { sends = []; entries = zs } in o) entries

-- ---- a write ends

pub ended_work : (b : Base) (id : ReqId) (o : OpenWrite) (x x' : Stage) (g : Given) → (e : EndsWrite b id o x g x')
    → x'.work ≡ record x.work { made = e.mid.work.made; ended_writes = x.work.ended_writes ++ id ∷ []; unanswered = x.work.unanswered - (if o.answered then 0 else 1) }
ended_work b id o x x' g e =
    ap (λ (y : Stage). y.work) e.ends
    ∙ ap (λ (w : Work). let v : Work = record w { made = e.mid.work.made; ended_writes = x.work.ended_writes ++ id ∷ []; unanswered = x.work.unanswered - (if o.answered then 0 else 1) } in v) e.leaves.work

write_forgets : (b : Base) (id : ReqId) (o : OpenWrite) (x x' : Stage) (g : Given) → IsUnmoved x.work → EndsWrite b id o x g x'
    → forgotten_in b x'.work ≡ (let f = forgotten_in b x.work in let f' : Forgotten = record f { writes = remove_entry (is_at (request_cmp id)) f.writes } in f')
write_forgets b id o x x' g u e =
    ap (λ (w : Work). forgotten_in b w) (ended_work b id o x x' g e)
    ∙ ap (λ (ys : List (ReqId × OpenWrite)). let f : Forgotten = record (forgotten_in b x.work) { writes = ys } in f) (one_ended x.work.request id x.work.ended_writes x.work.write b.writes.entries u.write)

write_moved : (b : Base) (d : Durable) (k : KeptHints) (id : ReqId) (o : OpenWrite) (x x' : Stage) (g : Given) → IsSameHints k x.hints → IsUnmoved x.work → IsNext id x.work → open_at b.writes.entries id ≡ Some o → EndsWrite b id o x g x'
    → Moved b d k x (DeadlineComes id) g x'
write_moved b d k id o x x' g same u next there e =
    let c = b.setting in
    let peers = unheard c o in
    let kept = push_hints peers id.time o.mutation k in
    let is = ended_work b id o x x' g e in
    let pushed : IsSameHints kept x'.hints =
    subst (λ (h : KeptHints). IsSameHints kept h) (sym (ap (λ (y : Stage). y.hints) e.ends))
    (same_trans kept (push_hints peers id.time o.mutation x.hints) e.mid.hints (same_pushes peers k x.hints same id.time o.mutation) e.leaves.hints) in
    record {
      kept = kept;
      same = pushed;
      taken = [];
      made = pushed_hints peers id.time o.mutation k;
      gone = [];
      takes = ap (λ (w : Work). w.taken) is ∙ sym (append-nil x.work.taken);
      makes = ap (λ (w : Work). w.made) is ∙ ap (λ (w : Work). w.made) e.leaves.work ∙ ap (λ (hs : List hint.Hint). x.work.made ++ map add_item hs) (same_pushed_all peers k x.hints same id.time o.mutation);
      loses = ap (λ (w : Work). w.gone) is ∙ sym (append-nil x.work.gone);
      brings = refl;
      moves = λ f f' before at_f.
          let s = state_at b k f x.work in
          let open' : open_at s.writes id ≡ Some o = still_open x.work.request id x.work.ended_writes x.work.write b.writes.entries (Some o) u.write next.writes there in
          let after : state_under x.work.ceiling (forgotten_in b x'.work) (keeping kept f') ≡ (let t : NodeState = record s { hints = kept.hints; numbers = kept.numbers; writes = remove_entry (is_at (request_cmp id)) s.writes } in t) =
          ap (λ (y : Durable). state_under x.work.ceiling (forgotten_in b x'.work) (keeping kept y)) at_f ∙ ap (λ (y : Forgotten). state_under x.work.ceiling y (keeping kept f)) (write_forgets b id o x x' g u e) in (
            subst (λ (w : Option OpenWrite). Ends c id w s (effects_given g) (state_under x.work.ceiling (forgotten_in b x'.work) (keeping kept f'))) (sym open') (given_as g _ e.sends e.entries, after),
            ap (λ (w : Option OpenWrite). hints_at_end c id w s) open',
            refl,
          );
    }

late : (time : ℕ) (id : ReqId) → deadline_of id ≤ time → nat_lt time (deadline_of id) ≡ false
late time id le = elim (cases_Bool (nat_lt time (deadline_of id))) [ inl yes' ↦ let before = ltb-true time (deadline_of id) yes' in absurd (omega arith) | inr no' ↦ no' ]

-- one write less waits, if it had no answer
pub less_one : (n : ℕ) (answered : Bool) → answered ≡ false → n - 1 ≡ n - (if answered then 0 else 1)
less_one n answered is = ap (λ (t : Bool). n - (if t then 0 else 1)) (sym is)

pub less_none : (n : ℕ) (answered : Bool) → answered ≡ true → n ≡ n - (if answered then 0 else 1)
less_none n answered is = let same : n ≡ n - 0 = omega arith in same ∙ ap (λ (t : Bool). n - (if t then 0 else 1)) (sym is)

pub ended_as : (w : Work) (ids ids' : List ReqId) (m n : ℕ) → ids ≡ ids' → m ≡ n → let v : Work = record w { ended_writes = ids; unanswered = m } in v ≡ record w { ended_writes = ids'; unanswered = n }
ended_as w ids ids' m n same count =
    ap (λ (xs : List ReqId). let v : Work = record w { ended_writes = xs; unanswered = m } in v) same ∙ ap (λ (k : ℕ). let v : Work = record w { ended_writes = ids'; unanswered = k } in v) count

pub write_ends : (b : Base) (id : ReqId) (o : OpenWrite) (x mid x' : Stage) (g : Given) (turn : Move) → deadline_of id ≤ x.work.time → LeavesHints (unheard b.setting o) id.time o.mutation x mid
    → x'.work ≡ record mid.work { ended_writes = mid.work.ended_writes ++ id ∷ []; unanswered = mid.work.unanswered - (if o.answered then 0 else 1) } → x'.hints ≡ mid.hints → turn ≡ write_at b.setting id x'.work.time o → g.sends ≡ turn.sends → g.entries ≡ turn.entries
    → EndsWrite b id o x g x'
write_ends b id o x mid x' g turn due leaves is hints turned sends entries =
    let time : x'.work.time ≡ x.work.time = ap (λ (w : Work). w.time) is ∙ ap (λ (w : Work). w.time) leaves.work in
    let at_end : turn ≡ record { sends = []; entries = write_told b.setting id o; ended = true } =
    turned ∙ ap (λ (t : ℕ). write_at b.setting id t o) time ∙ ap (λ (t : Bool). let m : Move = if t then quiet else record { sends = []; entries = write_told b.setting id o; ended = true } in m) (late x.work.time id due) in
    record {
      sends = sends ∙ ap (λ (m : Move). m.sends) at_end;
      entries = entries ∙ ap (λ (m : Move). m.entries) at_end;
      mid = mid;
      leaves = leaves;
      ends =
          ap (λ (w : Work). at w x'.hints) is
          ∙ ap (λ (h : KeptHints). at (record mid.work { ended_writes = mid.work.ended_writes ++ id ∷ []; unanswered = mid.work.unanswered - (if o.answered then 0 else 1) }) h) hints
          ∙ ap (λ (w : Work). at (record mid.work { ended_writes = w.ended_writes ++ id ∷ []; unanswered = w.unanswered - (if o.answered then 0 else 1) }) mid.hints) leaves.work;
    }

-- ---- a read ends

read_forgets : (b : Base) (id : ReqId) (r : OpenRead) (w w' : Work) (g : Given) → IsUnmoved w → EndsRead b id r w g w' → forgotten_in b w' ≡ (let f = forgotten_in b w in let f' : Forgotten = record f { reads = remove_entry (is_at (request_cmp id)) f.reads } in f')
read_forgets b id r w w' g u e =
    ap (λ (v : Work). forgotten_in b v) e.ends
    ∙ ap (λ (ys : List (ReqId × OpenRead)). let f : Forgotten = record (forgotten_in b w) { reads = ys } in f) (one_ended w.request id w.ended_reads w.read b.reads.entries u.read)

read_moved : (b : Base) (d : Durable) (k : KeptHints) (id : ReqId) (r : OpenRead) (x : Stage) (w' : Work) (g : Given) → IsSameHints k x.hints → IsUnmoved x.work → IsNext id x.work → open_at b.writes.entries id ≡ None → open_at b.reads.entries id ≡ Some r
    → EndsRead b id r x.work g w' → Moved b d k x (DeadlineComes id) g (at w' x.hints)
read_moved b d k id r x w' g same u next none there e =
    let c = b.setting in
    let is = e.ends in
    record {
      kept = k;
      same = same;
      taken = [];
      made = [];
      gone = [];
      takes = ap (λ (w : Work). w.taken) is ∙ sym (append-nil x.work.taken);
      makes = ap (λ (w : Work). w.made) is ∙ sym (append-nil x.work.made);
      loses = ap (λ (w : Work). w.gone) is ∙ sym (append-nil x.work.gone);
      brings = refl;
      moves = λ f f' before at_f.
          let s = state_at b k f x.work in
          let no_write : open_at s.writes id ≡ None = still_open x.work.request id x.work.ended_writes x.work.write b.writes.entries None u.write next.writes none in
          let open' : open_at s.reads id ≡ Some r = still_open x.work.request id x.work.ended_reads x.work.read b.reads.entries (Some r) u.read next.reads there in
          let after : state_under x.work.ceiling (forgotten_in b w') (keeping k f') ≡ (let t : NodeState = record s { reads = remove_entry (is_at (request_cmp id)) s.reads } in t) =
          ap (λ (y : Durable). state_under x.work.ceiling (forgotten_in b w') (keeping k y)) at_f ∙ ap (λ (y : Forgotten). state_under x.work.ceiling y (keeping k f)) (read_forgets b id r x.work w' g u e) in (
            subst (λ (w : Option OpenWrite). Ends c id w s (effects_given g) (state_under x.work.ceiling (forgotten_in b w') (keeping k f'))) (sym no_write)
                (subst (λ (o : Option OpenRead). reads_end c id o s (effects_given g) (state_under x.work.ceiling (forgotten_in b w') (keeping k f'))) (sym open') (given_as g _ e.sends e.entries, after)),
            ap (λ (w : Option OpenWrite). hints_at_end c id w s) no_write,
            refl,
          );
    }

-- ---- none is open

none_moved : (b : Base) (d : Durable) (k : KeptHints) (id : ReqId) (x : Stage) (g : Given) → IsSameHints k x.hints → IsUnmoved x.work → IsNext id x.work → open_at b.writes.entries id ≡ None → open_at b.reads.entries id ≡ None → g.sends ≡ [] → g.entries ≡ []
    → Moved b d k x (DeadlineComes id) g x
none_moved b d k id x g same u next no_write no_read sends entries =
    let c = b.setting in
    record {
      kept = k;
      same = same;
      taken = [];
      made = [];
      gone = [];
      takes = sym (append-nil x.work.taken);
      makes = sym (append-nil x.work.made);
      loses = sym (append-nil x.work.gone);
      brings = refl;
      moves = λ f f' before at_f.
          let s = state_at b k f x.work in
          let none : open_at s.writes id ≡ None = still_open x.work.request id x.work.ended_writes x.work.write b.writes.entries None u.write next.writes no_write in
          let none_too : open_at s.reads id ≡ None = still_open x.work.request id x.work.ended_reads x.work.read b.reads.entries None u.read next.reads no_read in
          let after : state_at b k f' x.work ≡ s = ap (λ (y : Durable). state_at b k y x.work) at_f in (
            subst (λ (w : Option OpenWrite). Ends c id w s (effects_given g) (state_at b k f' x.work)) (sym none)
                (subst (λ (o : Option OpenRead). reads_end c id o s (effects_given g) (state_at b k f' x.work)) (sym none_too) (given_as g [] sends entries, after)),
            ap (λ (w : Option OpenWrite). hints_at_end c id w s) none,
            refl,
          );
    }

-- ---- a hint goes by its age

same_gone : (k k' : KeptHints) (peer number : ℕ) → IsSameHints k k' → gone_if_kept k' peer number ≡ gone_if_kept k peer number
same_gone k k' peer number same = ap (λ (t : Bool). if t then record { peer = peer; number = number } ∷ [] else no_gone) (same_kept k k' same peer number)

abbrev pub given_nothing : Given
given_nothing = record { sends = []; entries = [] }

pub hint_moved : (b : Base) (d : Durable) (k : KeptHints) (peer number : ℕ) (x x' : Stage) → IsSameHints k x.hints → DropsHint peer number x x' → Moved b d k x (HintExpires peer number) given_nothing x'
hint_moved b d k peer number x x' same h =
    record {
      kept = drop_hint peer number k;
      same = subst (λ (y : KeptHints). IsSameHints (drop_hint peer number k) y) (sym h.hints) (same_drop k x.hints same peer number);
      taken = [];
      made = [];
      gone = gone_if_kept k peer number;
      takes = ap (λ (w : Work). w.taken) h.work ∙ sym (append-nil x.work.taken);
      makes = ap (λ (w : Work). w.made) h.work ∙ sym (append-nil x.work.made);
      loses = ap (λ (w : Work). w.gone) h.work ∙ ap (λ (xs : List Gone). x.work.gone ++ map gone_item xs) (same_gone k x.hints peer number same);
      brings = refl;
      moves = λ f f' before at_f. (
        (
          refl,
          ap (λ (y : Durable). state_under x.work.ceiling (forgotten_in b x'.work) (keeping (drop_hint peer number k) y)) at_f
              ∙ ap (λ (w : Work). state_under x.work.ceiling (forgotten_in b w) (keeping (drop_hint peer number k) f)) h.work,
        ),
        refl,
        refl,
      );
    }

-- ---- one matter

pub goes_on_as : (w w' v : Work) → w' ≡ v → GoesOn w v → GoesOn w w'
goes_on_as w w' v is h = subst (λ (y : Work). GoesOn w y) (sym is) h

pub request_moved : (b : Base) (d : Durable) (k : KeptHints) (id : ReqId) (o : Option OpenWrite) (r : Option OpenRead) (x x' : Stage) (g : Given) → IsSameHints k x.hints → IsUnmoved x.work → IsNext id x.work → open_at b.writes.entries id ≡ o → open_at b.reads.entries id ≡ r
    → EndsRequest b id o r x g x' → Moved b d k x (DeadlineComes id) g x'
request_moved b d k id (Some w) r x x' g same u next writes reads e = write_moved b d k id w x x' g same u next writes e
request_moved b d k id None (Some r) x x' g same u next writes reads (e, hints) =
    subst (λ (h : KeptHints). Moved b d k x (DeadlineComes id) g (at x'.work h)) (sym hints) (read_moved b d k id r x x'.work g same u next writes reads e)
request_moved b d k id None None x x' g same u next writes reads (sends, entries, is) =
    subst (λ (y : Stage). Moved b d k x (DeadlineComes id) g y) (sym is) (none_moved b d k id x g same u next writes reads sends entries)

pub request_goes_on : (b : Base) (id : ReqId) (o : Option OpenWrite) (r : Option OpenRead) (x x' : Stage) (g : Given) → EndsRequest b id o r x g x' → GoesOn x.work x'.work
request_goes_on b id (Some w) r x x' g e = goes_on_as x.work x'.work _ (ended_work b id w x x' g e) (record { time = refl; ceiling = refl; request = refl; queue = refl; messages = refl; entries = refl })
request_goes_on b id None (Some r) x x' g (e, hints) = goes_on_as x.work x'.work _ e.ends (record { time = refl; ceiling = refl; request = refl; queue = refl; messages = refl; entries = refl })
request_goes_on b id None None x x' g (sends, entries, is) = goes_on_as x.work x'.work x.work (ap (λ (y : Stage). y.work) is) (record { time = refl; ceiling = refl; request = refl; queue = refl; messages = refl; entries = refl })

pub request_sends : (b : Base) (id : ReqId) (o : Option OpenWrite) (r : Option OpenRead) (x x' : Stage) (g : Given) → EndsRequest b id o r x g x' → g.sends ≡ []
request_sends b id (Some w) r x x' g e = e.sends
request_sends b id None (Some r) x x' g (e, hints) = e.sends
request_sends b id None None x x' g (sends, entries, is) = sends
