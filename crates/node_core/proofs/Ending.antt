-- What a step leaves, from what it made and how that was kept.
use Rattle.std.proofs.Common.{◌≡◌, ◌<◌, ◌≤◌, ◌^◌, ℕ, Option, List, Ok, Err, IsErrOf, IfOk, OnOk, OnErr, sym, ap, subst, ◌∙◌, arith}
use Rattle.peer_messages.specs.declared.chronicle.Entry.{Entry}
use Rattle.peer_messages.specs.declared.event.Event.{Event}
use Rattle.durable_state.specs.State.{Durable}
use Rattle.durable_state.specs.Keeping.{Commits}
use Rattle.node_steps.specs.Hints.{KeptHints}
use Rattle.node_steps.specs.Steps.{risen_time, end_of_time, started_by}
use Rattle.replica.specs.declared.kept.Kept.{Kept}
use Rattle.replica.specs.Kept.{IsKeptOf}
use Rattle.cs_base.specs.declared.ids.ReqId.{ReqId}
use Rattle.hint_store.specs.Staged.{Staged}
use Rattle.node_core.specs.declared.memory.Made.{Made}
use Rattle.node_core.specs.declared.memory.Memory.{Memory}
use Rattle.node_core.specs.declared.outcome.Lost.{Lost}
use Rattle.node_core.specs.declared.outcome.StepError.TheVariants.{Failed}
use Rattle.node_core.specs.declared.work.Work.{Work}
use Rattle.node_core.specs.Memory.{AreOutputsOf, Begun, HoldsCore, IsBare, IsBegun, IsLost, core_behind, core_of, entry_made, kept_with}
use Rattle.node_core.specs.Moving.{IsAbout, IsNewTo}
use Rattle.node_core.specs.Nodes.{Core, HasRoom, Steps, WouldKeep}
use Rattle.node_core.specs.Opening.{AreOrdered}
use Rattle.node_core.specs.Working.{IsSound}
use Rattle.node_core.proofs.Answered.{NotFailed, Told, ok_both, ok_more, ok_or, one_lost}
use Rattle.node_core.proofs.Requests.{held_back, held_behind, held_new}
use Rattle.node_core.proofs.Stepping.{IsReady, kept_after, rises, stepped, would_keep}

-- ---- hints are settled before a step

-- the node with its hints as they are in their store now
abbrev pub with_hints : Memory → Staged → Memory
with_hints m h = record m { hints = h }

pub same_core : (m : Memory) (h : Staged) → h.before ≡ m.hints.before → core_of (with_hints m h) ≡ core_of m
same_core m h is = ap (λ (k : KeptHints). let n : Core = record (core_of m) { kept = kept_with k m.kept } in n) is

pub held_with : (m : Memory) (h : Staged) (y : Made) → HoldsCore m → HoldsCore (record m { hints = h; made = y })
held_with m h y held = record { holding = held.holding; writes = held.writes; reads = held.reads; bare = held.bare }

-- ---- a step begins

pub begun_about : (m : Memory) (t : ℕ) (e : Event) (x : Begun) → IsBegun m.base m.time m.kept.ceiling t e x → IsAbout m.base.me x.made.work.time x.what x.made.work.request
begun_about m t e x b = subst (λ (u : ℕ). IsAbout m.base.me u x.what x.made.work.request) (sym b.time) b.about

pub begun_later : (m : Memory) (t : ℕ) (e : Event) (x : Begun) → IsBegun m.base m.time m.kept.ceiling t e x → t ≡ risen_time m.time e → m.time < x.made.work.time
begun_later m t e x b at = let later = rises m e in let time = b.time in omega arith

pub begun_new : (m : Memory) (t : ℕ) (e : Event) (x : Begun) → IsBegun m.base m.time m.kept.ceiling t e x → t ≡ risen_time m.time e → HoldsCore m → IsNewTo m.base x.made.work.time
begun_new m t e x b at held = held_new m x.made.work.time (begun_later m t e x b at) held

pub begun_within : (m : Memory) (t : ℕ) (e : Event) (x : Begun) → IsBegun m.base m.time m.kept.ceiling t e x → t ≤ end_of_time → x.made.work.time < 2 ^ 63
begun_within m t e x b within = let time = b.time in omega arith

pub begun_started : (m : Memory) (t : ℕ) (e : Event) (x : Begun) → IsBegun m.base m.time m.kept.ceiling t e x → t ≡ risen_time m.time e → x.made.started ≡ started_by m.base.me (risen_time m.time e) e.what
begun_started m t e x b at = b.started ∙ ap (λ (u : ℕ). started_by m.base.me u e.what) at

pub lost_as : (started : Option ReqId) (entries : List Entry) (k l : Lost) → (let r : Told = Err (Failed k) in IsErrOf r (Failed l)) → IsLost started entries k → IsLost started entries l
lost_as started entries k l told lost = subst (λ (x : Lost). IsLost started entries x) (one_lost k l told) lost

-- ---- it is kept

pub steps_kept : (r : Told) (m m' : Memory) (n : Core) (d d1 d' : Durable) (e : Event) (y : Made) (k : KeptHints) (honest : Type 0) → core_of m ≡ n → (honest → IsReady m d e y k) → (honest → d1 ≡ d) → IfOk r (AreOutputsOf y) → OnOk r (honest → Commits (entry_made m.kept.ceiling y.work) d1 d')
    → OnOk r (core_of m' ≡ core_behind m y.work k) → IfOk r (λ o. honest → Steps n d e o (core_of m') d')
steps_kept r m m' n d d1 d' e y k honest at ready same outputs commits behind =
    ok_both r (AreOutputsOf y) (honest → Commits (entry_made m.kept.ceiling y.work) d1 d') (core_of m' ≡ core_behind m y.work k) (λ o. honest → Steps n d e o (core_of m') d')
    (λ o are makes is h. subst (λ (c : Core). Steps c d e o (core_of m') d') at (stepped m d e y k o (core_of m') d' (ready h) are is (subst (λ (x : Durable). Commits (entry_made m.kept.ceiling y.work) x d') (same h) (makes h))))
    outputs commits behind

pub room_kept : (r : Told) (m : Memory) (c : Core) (d d1 : Durable) (n n1 : ℕ) (e : Event) (y : Made) (k : KeptHints) (honest : Type 0) → core_of m ≡ c → (honest → IsReady m d e y k) → (honest → d1 ≡ d) → n1 ≡ n → OnOk r (honest → HasRoom n1 d1 (entry_made m.kept.ceiling y.work))
    → OnOk r (honest → WouldKeep c d e (HasRoom n d))
room_kept r m c d d1 n n1 e y k honest at ready same log room =
    ok_more r (honest → HasRoom n1 d1 (entry_made m.kept.ceiling y.work)) (honest → WouldKeep c d e (HasRoom n d))
    (λ has h. subst (λ (z : Core). WouldKeep z d e (HasRoom n d)) at
    (would_keep m d e y k (HasRoom n d) (ready h) (subst (λ (j : ℕ). HasRoom j d (entry_made m.kept.ceiling y.work)) log (subst (λ (x : Durable). HasRoom n1 x (entry_made m.kept.ceiling y.work)) (same h) (has h)))))
    room

pub held_kept : (r : Told) (m m' : Memory) (w : Work) (k : KeptHints) → HoldsCore m → m.time ≤ w.time → IsSound m.base w → AreOrdered m'.base → IsBare m'.kept → OnOk r (core_of m' ≡ core_behind m w k) → OnErr r (core_of m' ≡ core_of m) → HoldsCore m'
held_kept r m m' w k held later sound ordered bare behind back =
    ok_or r (core_of m' ≡ core_behind m w k) (core_of m' ≡ core_of m) (HoldsCore m') (λ is. held_behind m m' w k held later sound ordered bare is) (λ is. held_back m m' held ordered bare is) behind back

kept_behind : (m m' : Memory) (d d' : Durable) (e : Event) (y : Made) (k : KeptHints) → IsReady m d e y k → IsKeptOf d (core_of m).kept → core_of m' ≡ core_behind m y.work k → Commits (entry_made m.kept.ceiling y.work) d d' → IsKeptOf d' (core_of m').kept
kept_behind m m' d d' e y k ready tied is commits = subst (λ (x : Kept). IsKeptOf d' x) (sym (ap (λ (n : Core). n.kept) is)) (kept_after m d e y k ready tied d' commits)

kept_back : (m m' : Memory) (d d' : Durable) → IsKeptOf d (core_of m).kept → core_of m' ≡ core_of m → d' ≡ d → IsKeptOf d' (core_of m').kept
kept_back m m' d d' tied is same = subst (λ (x : Durable). IsKeptOf x (core_of m').kept) (sym same) (subst (λ (k : Kept). IsKeptOf d k) (sym (ap (λ (n : Core). n.kept) is)) tied)

pub tied_kept : (r : Told) (m m' : Memory) (d d1 d' : Durable) (e : Event) (y : Made) (k : KeptHints) (honest : Type 0) → (honest → IsReady m d e y k) → (honest → IsKeptOf d (core_of m).kept) → (honest → d1 ≡ d) → OnOk r (honest → Commits (entry_made m.kept.ceiling y.work) d1 d')
    → OnOk r (core_of m' ≡ core_behind m y.work k) → OnErr r (core_of m' ≡ core_of m) → OnErr r (NotFailed r → honest → d' ≡ d1) → NotFailed r → honest → IsKeptOf d' (core_of m').kept
tied_kept (Ok o) m m' d d1 d' e y k honest ready tied same commits behind back still on h =
    kept_behind m m' d d' e y k (ready h) (tied h) behind (subst (λ (x : Durable). Commits (entry_made m.kept.ceiling y.work) x d') (same h) (commits h))
tied_kept (Err z) m m' d d1 d' e y k honest ready tied same commits behind back still on h = kept_back m m' d d' (tied h) back (still on h ∙ same h)

pub same_kept : (r : Told) (d d1 d' : Durable) (honest : Type 0) → (honest → d1 ≡ d) → OnErr r (NotFailed r → honest → d' ≡ d1) → OnErr r (NotFailed r → honest → d' ≡ d)
same_kept (Ok o) d d1 d' honest same still = tt
same_kept (Err e) d d1 d' honest same still = λ on h. still on h ∙ same h
