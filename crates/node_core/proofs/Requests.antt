-- The open requests of a node behind a step, and where it is not kept.
use Rattle.std.proofs.Common.{◌≡◌, ◌<◌, ◌≤◌, ℕ, Bool, true, false, Option, Some, None, List, [], ◌∷◌, refl, sym, ap, subst, ◌∙◌, arith}
use Rattle.std.specs.Prelude.{cond}
use Rattle.std.specs.Map.{lookup, set_value, remove_entry}
use Rattle.std.specs.BTreeMap.{insert_entry, is_at}
use Rattle.std.specs.Ordering.{match_ordering}
use Rattle.std.specs.declared.cmp.Ordering.{Ordering}
use Rattle.std.specs.declared.cmp.Ordering.TheVariants.{Less, Equal, Greater}
use Rattle.cs_base.specs.declared.ids.ReqId.{ReqId}
use Rattle.cs_base.specs.Requests.{request_cmp}
use Rattle.node_steps.specs.State.{OpenWrite, OpenRead}
use Rattle.node_steps.specs.Hints.{KeptHints}
use Rattle.node_steps.specs.Acts.{request_at}
use Rattle.replica.specs.declared.kept.Kept.{Kept}
use Rattle.node_core.specs.declared.base.Base.{Base}
use Rattle.node_core.specs.declared.memory.Memory.{Memory}
use Rattle.node_core.specs.declared.opening.Began.{Began}
use Rattle.node_core.specs.declared.slot.Slot.{Slot}
use Rattle.node_core.specs.declared.slot.Slot.TheVariants.{Untouched, New, Old, Gone}
use Rattle.node_core.specs.declared.work.Work.{Work}
use Rattle.node_core.specs.Due.{AreOwn}
use Rattle.node_core.specs.Memory.{HoldsCore, IsBare, core_behind, core_of, kept_with}
use Rattle.node_core.specs.Moving.{BeganBefore, IsNewTo}
use Rattle.node_core.specs.Nodes.{Core}
use Rattle.node_core.specs.Opening.{AreOrdered, BeganBy, IsBegunAs, Known, LeavesRest, MayPut, Rest, known_of, known_with, known_without, rest_of, with_begun, with_rest, without_begun}
use Rattle.node_core.specs.Slots.{IsNew}
use Rattle.node_core.specs.Working.{EndedBefore, FitWrites, IsSound, batches_with, down_with, left_open, with_slot}
use Rattle.node_core.proofs.LeftOpen.{all_left, all_removed, left_put}
use Rattle.node_core.proofs.Slots.{remove_inserted, request_itself, some_not_none}
use Rattle.node_core.proofs.Taking.{none_open}

-- ---- what began, and the rest

put_slot : {A : Type 0} (id : ReqId) (slot : Slot A) (began : Bool) (rest : Slot A) (xs : List (ReqId × A)) → LeavesRest slot began rest → with_rest id rest (with_begun id slot xs) ≡ with_slot id slot xs
put_slot {A} id Untouched began rest xs h = ap (λ (s : Slot A). with_rest id s xs) h.1
put_slot {A} id (New a) began rest xs h = ap (λ (s : Slot A). with_rest id s (insert_entry request_cmp xs id a)) h.1
put_slot {A} id (Old a) began rest xs h = ap (λ (s : Slot A). with_rest id s xs) h.1
put_slot {A} id Gone began rest xs h = ap (λ (s : Slot A). with_rest id s xs) h.1

pub close_slot : {A : Type 0} (id : ReqId) (slot : Slot A) (began : Bool) (rest : Slot A) (xs : List (ReqId × A)) → MayPut id xs slot → LeavesRest slot began rest → without_begun id began (with_begun id slot xs) ≡ xs
close_slot {A} id Untouched began rest xs is h = ap (λ (b : Bool). without_begun id b xs) h.0
close_slot {A} id (New a) began rest xs is h = ap (λ (b : Bool). without_begun id b (insert_entry request_cmp xs id a)) h.0 ∙ remove_inserted request_cmp xs id a (request_itself id) (is tt)
close_slot {A} id (Old a) began rest xs is h = ap (λ (b : Bool). without_begun id b xs) h.0
close_slot {A} id Gone began rest xs is h = ap (λ (b : Bool). without_begun id b xs) h.0

abbrev with_both : Known → List (ReqId × OpenWrite) → List (ReqId × OpenRead) → Known
with_both k writes reads = record k { writes = writes; reads = reads }

abbrev closing : ReqId → Began → Known → Known
closing id began k = record k { writes = without_begun id began.write k.writes; reads = without_begun id began.read k.reads }

pub known_undone : (b : Base) (ws : List (ReqId × OpenWrite)) (rs : List (ReqId × OpenRead)) → ws ≡ b.writes.entries → rs ≡ b.reads.entries → with_both (known_of b) ws rs ≡ known_of b
known_undone b ws rs write read = ap (λ (xs : List (ReqId × OpenWrite)). with_both (known_of b) xs rs) write ∙ ap (λ (xs : List (ReqId × OpenRead)). with_both (known_of b) b.writes.entries xs) read

-- a write that began is taken out again
pub write_undone : (b b1 b2 : Base) (rs : List (ReqId × OpenRead)) (id : ReqId) (slot rest : Slot OpenWrite) (began : Bool) → MayPut id b.writes.entries slot → LeavesRest slot began rest → known_of b1 ≡ record (known_of b) { writes = with_begun id slot b.writes.entries }
    → rs ≡ b1.reads.entries → known_of b2 ≡ with_both (known_of b1) (without_begun id began b1.writes.entries) rs → known_of b2 ≡ known_of b
write_undone b b1 b2 rs id slot rest began may leaves put same is =
    is ∙ ap (λ (xs : List (ReqId × OpenRead)). with_both (known_of b1) (without_begun id began b1.writes.entries) xs) same
    ∙ ap (λ (k : Known). with_both k (without_begun id began k.writes) k.reads) put
    ∙ ap (λ (ws : List (ReqId × OpenWrite)). with_both (known_of b) ws b.reads.entries) (close_slot id slot began rest b.writes.entries may leaves)

-- what ended is taken out behind what began
left_begun : {A : Type 0} (me time : ℕ) (id : ReqId) (ids : List ReqId) (slot : Slot A) (xs : List (ReqId × A)) → (IsNew slot → id ≡ request_at me time) → EndedBefore time ids → AreOwn me xs → BeganBefore time xs → left_open ids (with_begun id slot xs) ≡ with_begun id slot (left_open ids xs)
left_begun {A} me time id ids Untouched xs early ended own before = refl
left_begun {A} me time id ids (New a) xs early ended own before =
    let is = early tt in
    left_put ids id a xs (subst (λ (k : ReqId). EndedBefore k.time ids) (sym is) ended) (subst (λ (k : ReqId). AreOwn k.node xs) (sym is) own) (subst (λ (k : ReqId). BeganBefore k.time xs) (sym is) before)
left_begun {A} me time id ids (Old a) xs early ended own before = refl
left_begun {A} me time id ids Gone xs early ended own before = refl

-- what a step makes of a node in memory
abbrev pub known_behind : Base → Work → Known
known_behind b w = record (known_of b) {
  down = down_with w.marked b.down;
  batches = batches_with w.batches b.batches;
  writes = with_slot w.request w.write (left_open w.ended_writes b.writes.entries);
  reads = with_slot w.request w.read (left_open w.ended_reads b.reads.entries);
}

abbrev putting : Rest → Known → Known
putting r k = record k {
  down = down_with r.marked k.down;
  batches = batches_with r.batches k.batches;
  writes = with_rest r.request r.write (left_open r.ended_writes k.writes);
  reads = with_rest r.request r.read (left_open r.ended_reads k.reads);
}

pub put_known : (b b1 b2 : Base) (w w1 : Work) (began : Began) → IsSound b w → AreOwn b.me b.writes.entries → AreOwn b.me b.reads.entries → IsNewTo b w.time → IsBegunAs w.request w.write w.read b began w1.write w1.read b1 → w1 ≡ record w { taken = w1.taken; made = w1.made; gone = w1.gone; write = w1.write; read = w1.read }
    → known_of b2 ≡ known_with (rest_of w1) b1 → known_of b2 ≡ known_behind b w
put_known b b1 b2 w w1 began s own_writes own_reads new opened same is =
    let rest : Rest = record (rest_of w) { write = w1.write; read = w1.read } in
    let rest_is : rest_of w1 ≡ rest = ap (λ (y : Work). rest_of y) same in
    let k : Known = known_behind b w in
    is ∙ ap (λ (r : Rest). putting r (known_of b1)) rest_is ∙ ap (putting rest) opened.known
    ∙ ap (λ (ws : List (ReqId × OpenWrite)). with_both k (with_rest w.request w1.write ws) (with_rest w.request w1.read (left_open w.ended_reads (with_begun w.request w.read b.reads.entries))))
    (left_begun b.me w.time w.request w.ended_writes w.write b.writes.entries s.early.write s.counted.writes own_writes new.writes)
    ∙ ap (λ (ws : List (ReqId × OpenWrite)). with_both k ws (with_rest w.request w1.read (left_open w.ended_reads (with_begun w.request w.read b.reads.entries)))) (put_slot w.request w.write began.write w1.write (left_open w.ended_writes b.writes.entries) opened.write)
    ∙ ap (λ (rs : List (ReqId × OpenRead)). with_both k k.writes (with_rest w.request w1.read rs)) (left_begun b.me w.time w.request w.ended_reads w.read b.reads.entries s.early.read s.counted.reads own_reads new.reads)
    ∙ ap (λ (rs : List (ReqId × OpenRead)). with_both k k.writes rs) (put_slot w.request w.read began.read w1.read (left_open w.ended_reads b.reads.entries) opened.read)

pub close_known : (id : ReqId) (write : Slot OpenWrite) (read : Slot OpenRead) (b b1 b2 : Base) (began : Began) (write' : Slot OpenWrite) (read' : Slot OpenRead) → MayPut id b.writes.entries write → MayPut id b.reads.entries read → IsBegunAs id write read b began write' read' b1 → known_of b2 ≡ known_without id began b1
    → known_of b2 ≡ known_of b
close_known id write read b b1 b2 began write' read' at_write at_read opened is =
    let k : Known = known_of b in
    is ∙ ap (closing id began) opened.known
    ∙ ap (λ (ws : List (ReqId × OpenWrite)). with_both k ws (without_begun id began.read (with_begun id read b.reads.entries))) (close_slot id write began.write write' b.writes.entries at_write opened.write)
    ∙ ap (λ (rs : List (ReqId × OpenRead)). with_both k b.writes.entries rs) (close_slot id read began.read read' b.reads.entries at_read opened.read)

-- what begins is not open yet
pub may_put : {A : Type 0} (me time : ℕ) (id : ReqId) (slot : Slot A) (xs : List (ReqId × A)) → (IsNew slot → id ≡ request_at me time) → BeganBefore time xs → MayPut id xs slot
may_put {A} me time id slot xs early before new = none_open id xs (subst (λ (k : ReqId). BeganBefore k.time xs) (sym (early new)) before)

abbrev core_with : Known → ℕ → Kept → Core
core_with k time kept = record { setting = k.setting; me = k.me; runs = true; time = time; risen = time; kept = kept; down = k.down; batches = k.batches; writes = k.writes; reads = k.reads }

pub core_put : (m m' : Memory) (w : Work) → known_of m'.base ≡ known_behind m.base w → m'.time ≡ w.time → m'.kept ≡ record m.kept { ceiling = w.ceiling } → m'.hints.before ≡ m.hints.now → core_of m' ≡ core_behind m w m.hints.now
core_put m m' w known time kept hints =
    ap (λ (k : Known). core_with k m'.time (kept_with m'.hints.before m'.kept)) known
    ∙ ap (λ (t : ℕ). core_with (known_behind m.base w) t (kept_with m'.hints.before m'.kept)) time
    ∙ ap (λ (h : KeptHints). core_with (known_behind m.base w) w.time (kept_with h m'.kept)) hints
    ∙ ap (λ (x : Kept). core_with (known_behind m.base w) w.time (kept_with m.hints.now x)) kept

pub core_back : (m m' : Memory) → known_of m'.base ≡ known_of m.base → m'.time ≡ m.time → m'.kept ≡ m.kept → m'.hints.before ≡ m.hints.before → core_of m' ≡ core_of m
core_back m m' known time kept hints =
    ap (λ (k : Known). core_with k m'.time (kept_with m'.hints.before m'.kept)) known
    ∙ ap (λ (t : ℕ). core_with (known_of m.base) t (kept_with m'.hints.before m'.kept)) time
    ∙ ap (λ (h : KeptHints). core_with (known_of m.base) m.time (kept_with h m'.kept)) hints
    ∙ ap (λ (x : Kept). core_with (known_of m.base) m.time (kept_with m.hints.before x)) kept

-- ---- when they began

began_later : {A : Type 0} (t u : ℕ) (xs : List (ReqId × A)) → t ≤ u → BeganBy t xs → BeganBy u xs
began_later {A} t u [] le all = tt
began_later {A} t u (x ∷ xs) le all = let first = all.0 in (omega arith, began_later t u xs le all.1)

pub began_before : {A : Type 0} (t u : ℕ) (xs : List (ReqId × A)) → t < u → BeganBy t xs → BeganBefore u xs
began_before {A} t u [] lt all = tt
began_before {A} t u (x ∷ xs) lt all = let first = all.0 in (omega arith, began_before t u xs lt all.1)

put_cases : {A : Type 0} (o : Ordering) (t : ℕ) (x : ReqId × A) (xs ys : List (ReqId × A)) (id : ReqId) (a : A) → id.time ≤ t → BeganBy t (x ∷ xs) → BeganBy t ys → BeganBy t (match_ordering o ((id, a) ∷ x ∷ xs) ((x.0, a) ∷ xs) (x ∷ ys))
put_cases {A} Less t x xs ys id a at all more = (at, all)
put_cases {A} Equal t x xs ys id a at all more = (all.0, all.1)
put_cases {A} Greater t x xs ys id a at all more = (all.0, more)

began_put : {A : Type 0} (t : ℕ) (xs : List (ReqId × A)) (id : ReqId) (a : A) → id.time ≤ t → BeganBy t xs → BeganBy t (insert_entry request_cmp xs id a)
began_put {A} t [] id a at all = (at, tt)
began_put {A} t (x ∷ xs) id a at all = put_cases (request_cmp id x.0) t x xs (insert_entry request_cmp xs id a) id a at all (began_put t xs id a at all.1)

set_cases : {A : Type 0} (b : Bool) (t : ℕ) (x : ReqId × A) (xs ys : List (ReqId × A)) (a : A) → BeganBy t (x ∷ xs) → BeganBy t ys → BeganBy t (cond b ((x.0, a) ∷ xs) (x ∷ ys))
set_cases {A} true t x xs ys a all more = (all.0, all.1)
set_cases {A} false t x xs ys a all more = (all.0, more)

began_set : {A : Type 0} (t : ℕ) (test : ReqId → Bool) (xs : List (ReqId × A)) (a : A) → BeganBy t xs → BeganBy t (set_value test xs a)
began_set {A} t test [] a all = tt
began_set {A} t test (x ∷ xs) a all = set_cases (test x.0) t x xs (set_value test xs a) a all (began_set t test xs a all.1)

remove_cases : {A : Type 0} (b : Bool) (t : ℕ) (x : ReqId × A) (xs ys : List (ReqId × A)) → BeganBy t (x ∷ xs) → BeganBy t ys → BeganBy t (cond b xs (x ∷ ys))
remove_cases {A} true t x xs ys all more = all.1
remove_cases {A} false t x xs ys all more = (all.0, more)

began_remove : {A : Type 0} (t : ℕ) (test : ReqId → Bool) (xs : List (ReqId × A)) → BeganBy t xs → BeganBy t (remove_entry test xs)
began_remove {A} t test [] all = tt
began_remove {A} t test (x ∷ xs) all = remove_cases (test x.0) t x xs (remove_entry test xs) all (began_remove t test xs all.1)

began_slot : {A : Type 0} (t : ℕ) (id : ReqId) (slot : Slot A) (xs : List (ReqId × A)) → (IsNew slot → id.time ≤ t) → BeganBy t xs → BeganBy t (with_slot id slot xs)
began_slot {A} t id Untouched xs early all = all
began_slot {A} t id (New a) xs early all = began_put t xs id a (early tt) all
began_slot {A} t id (Old a) xs early all = began_set t (is_at (request_cmp id)) xs a all
began_slot {A} t id Gone xs early all = began_remove t (is_at (request_cmp id)) xs all

own_put_cases : {A : Type 0} (o : Ordering) (me : ℕ) (x : ReqId × A) (xs ys : List (ReqId × A)) (id : ReqId) (a : A) → id.node ≡ me → AreOwn me (x ∷ xs) → AreOwn me ys → AreOwn me (match_ordering o ((id, a) ∷ x ∷ xs) ((x.0, a) ∷ xs) (x ∷ ys))
own_put_cases {A} Less me x xs ys id a at all more = (at, all)
own_put_cases {A} Equal me x xs ys id a at all more = (all.0, all.1)
own_put_cases {A} Greater me x xs ys id a at all more = (all.0, more)

own_put : {A : Type 0} (me : ℕ) (xs : List (ReqId × A)) (id : ReqId) (a : A) → id.node ≡ me → AreOwn me xs → AreOwn me (insert_entry request_cmp xs id a)
own_put {A} me [] id a at all = (at, tt)
own_put {A} me (x ∷ xs) id a at all = own_put_cases (request_cmp id x.0) me x xs (insert_entry request_cmp xs id a) id a at all (own_put me xs id a at all.1)

own_set_cases : {A : Type 0} (b : Bool) (me : ℕ) (x : ReqId × A) (xs ys : List (ReqId × A)) (a : A) → AreOwn me (x ∷ xs) → AreOwn me ys → AreOwn me (cond b ((x.0, a) ∷ xs) (x ∷ ys))
own_set_cases {A} true me x xs ys a all more = (all.0, all.1)
own_set_cases {A} false me x xs ys a all more = (all.0, more)

own_set : {A : Type 0} (me : ℕ) (test : ReqId → Bool) (xs : List (ReqId × A)) (a : A) → AreOwn me xs → AreOwn me (set_value test xs a)
own_set {A} me test [] a all = tt
own_set {A} me test (x ∷ xs) a all = own_set_cases (test x.0) me x xs (set_value test xs a) a all (own_set me test xs a all.1)

own_slot : {A : Type 0} (me time : ℕ) (id : ReqId) (slot : Slot A) (xs : List (ReqId × A)) → (IsNew slot → id ≡ request_at me time) → AreOwn me xs → AreOwn me (with_slot id slot xs)
own_slot {A} me time id Untouched xs early all = all
own_slot {A} me time id (New a) xs early all = own_put me xs id a (ap (λ (k : ReqId). k.node) (early tt)) all
own_slot {A} me time id (Old a) xs early all = own_set me (is_at (request_cmp id)) xs a all
own_slot {A} me time id Gone xs early all = all_removed (λ x. x.0.node ≡ me) (is_at (request_cmp id)) xs all

-- ---- what holds of a node in memory

-- what its core tells of it
record Holds (n : Core) : Type 0 where
  pub own_writes : AreOwn n.me n.writes
  pub own_reads : AreOwn n.me n.reads
  pub fit : FitWrites n.writes
  pub writes : BeganBy n.time n.writes
  pub reads : BeganBy n.time n.reads

held_as : (m : Memory) (n : Core) → core_of m ≡ n → AreOrdered m.base → IsBare m.kept → Holds n → HoldsCore m
held_as m n is ordered bare holds =
    let own = subst Holds (sym is) holds in
    record {
      holding = record { writes = ordered.writes; reads = ordered.reads; own_writes = own.own_writes; own_reads = own.own_reads; fit = own.fit; unanswered = ordered.unanswered };
      writes = own.writes;
      reads = own.reads;
      bare = bare;
    }

pub held_back : (m m' : Memory) → HoldsCore m → AreOrdered m'.base → IsBare m'.kept → core_of m' ≡ core_of m → HoldsCore m'
held_back m m' held ordered bare is =
    held_as m' (core_of m) is ordered bare (record { own_writes = held.holding.own_writes; own_reads = held.holding.own_reads; fit = held.holding.fit; writes = held.writes; reads = held.reads })

early_time : {A : Type 0} (me time : ℕ) (id : ReqId) (slot : Slot A) → (IsNew slot → id ≡ request_at me time) → IsNew slot → id.time ≤ time
early_time {A} me time id slot early new = let at = ap (λ (k : ReqId). k.time) (early new) in omega arith

pub held_behind : (m m' : Memory) (w : Work) (k : KeptHints) → HoldsCore m → m.time ≤ w.time → IsSound m.base w → AreOrdered m'.base → IsBare m'.kept → core_of m' ≡ core_behind m w k → HoldsCore m'
held_behind m m' w k held later s ordered bare is =
    held_as m' (core_behind m w k) is ordered bare (record {
      own_writes = own_slot m.base.me w.time w.request w.write _ s.early.write (all_left (λ x. x.0.node ≡ m.base.me) w.ended_writes m.base.writes.entries held.holding.own_writes);
      own_reads = own_slot m.base.me w.time w.request w.read _ s.early.read (all_left (λ x. x.0.node ≡ m.base.me) w.ended_reads m.base.reads.entries held.holding.own_reads);
      fit = s.fits;
      writes =
          began_slot w.time w.request w.write _ (early_time m.base.me w.time w.request w.write s.early.write) (all_left (λ x. x.0.time ≤ w.time) w.ended_writes m.base.writes.entries (began_later m.time w.time m.base.writes.entries later held.writes));
      reads =
          began_slot w.time w.request w.read _ (early_time m.base.me w.time w.request w.read s.early.read) (all_left (λ x. x.0.time ≤ w.time) w.ended_reads m.base.reads.entries (began_later m.time w.time m.base.reads.entries later held.reads));
    })

pub held_new : (m : Memory) (u : ℕ) → m.time < u → HoldsCore m → IsNewTo m.base u
held_new m u lt held = record { writes = began_before m.time u m.base.writes.entries lt held.writes; reads = began_before m.time u m.base.reads.entries lt held.reads }

-- ---- a key that is not there

set_cond_absent : {K A : Type 0} (b : Bool) (e : K × A) (es ys : List (K × A)) (w : A) → (rest : Option A) → cond b (Some e.1) rest ≡ None → (rest ≡ None → ys ≡ es) → cond b ((e.0, w) ∷ es) (e ∷ ys) ≡ e ∷ es
set_cond_absent {K} {A} true e es ys w rest none same = absurd (some_not_none e.1 none)
set_cond_absent {K} {A} false e es ys w rest none same = ap (λ (zs : List (K × A)). e ∷ zs) (same none)

pub set_absent : {K A : Type 0} (test : K → Bool) (es : List (K × A)) (w : A) → lookup test es ≡ None → set_value test es w ≡ es
set_absent {K} {A} test [] w none = refl
set_absent {K} {A} test (e ∷ es) w none = set_cond_absent (test e.0) e es (set_value test es w) w (lookup test es) none (set_absent test es w)
