-- A node with what it has in memory, by whether it runs.
use Rattle.std.proofs.Common.{◌≡◌, Bool, true, false, Ok, Err, IsErrOf, IfOk, OnOk, OnErr, sym, ap, subst, ◌∙◌}
use Rattle.std.specs.Prelude.{not}
use Rattle.peer_messages.specs.declared.event.Event.{Event}
use Rattle.durable_state.specs.State.{Durable}
use Rattle.node_core.specs.declared.memory.Memory.{Memory}
use Rattle.node_core.specs.declared.outcome.Lost.{Lost}
use Rattle.node_core.specs.declared.outcome.StepError.TheVariants.{Failed}
use Rattle.node_core.specs.Memory.{core_of, has_stopped}
use Rattle.node_core.specs.Nodes.{Core, Steps}
use Rattle.hint_store.specs.Staged.{Staged}
use Rattle.node_core.proofs.Answered.{NotFailed, Told, err_more, goes_on, still_on, stopped_by}
use Rattle.node_core.proofs.Ending.{same_core, with_hints}

abbrev pub core_if : Memory → Bool → Core
core_if m runs = record (core_of m) { runs = runs }

-- a node that runs
pub running : (m : Memory) (runs : Bool) (n : Core) → runs ≡ true → core_if m runs ≡ n → core_of m ≡ n
running m runs n run is = ap (core_if m) (sym run) ∙ is

-- it runs on unless it has stopped
pub on_told : (r : Told) (s : Bool) → s ≡ has_stopped r → not s ≡ true → NotFailed r
on_told r s is run = goes_on r (ap not (sym is) ∙ run)

pub run_told : (r : Told) (s : Bool) → s ≡ has_stopped r → NotFailed r → not s ≡ true
run_told r s is on = ap not is ∙ still_on r on

pub goes_told : (r : Told) (s : Bool) → s ≡ has_stopped r → OnOk r (not s ≡ true)
goes_told (Ok o) s is = ap not is
goes_told (Err e) s is = tt

pub steps_told : (r : Told) (s : Bool) (m m' : Memory) (n : Core) (d d' : Durable) (e : Event) (honest : Type 0) → s ≡ has_stopped r → core_of m ≡ n → IfOk r (λ o. honest → Steps (core_of m) d e o (core_of m') d')
    → IfOk r (λ o. honest → Steps n d e o (core_if m' (not s)) d')
steps_told (Ok o) s m m' n d d' e honest told is steps = λ h. subst (λ (x : Core). Steps n d e o x d') (ap (λ (b : Bool). core_if m' (not b)) (sym told)) (subst (λ (x : Core). Steps x d e o (core_of m') d') is (steps h))
steps_told (Err e') s m m' n d d' e honest told is steps = tt

pub same_told : (r : Told) (s : Bool) (m m' : Memory) (n : Core) (S : Type 0) → s ≡ has_stopped r → core_of m ≡ n → OnErr r (core_of m' ≡ core_of m) → OnErr r (NotFailed r → S) → OnErr r (not s ≡ true → (core_if m' (not s) ≡ n) × S)
same_told (Ok o) s m m' n S told is back same = tt
same_told (Err e) s m m' n S told is back same = let r : Told = Err e in λ run. (ap (core_if m') run ∙ back ∙ is, same (on_told r s told run))

pub failed_told : (r : Told) (s : Bool) (l : Lost) (m m' : Memory) (n : Core) → s ≡ has_stopped r → IsErrOf r (Failed l) → core_of m ≡ n → OnErr r (core_of m' ≡ core_of m) → core_if m' (not s) ≡ record n { runs = false }
failed_told r s l m m' n told err is back =
    let at = subst (λ (x : Told). OnErr x (core_of m' ≡ core_of m)) err back in
    ap (λ (b : Bool). core_if m' (not b)) told ∙ ap (core_if m') (stopped_by r l err) ∙ ap (λ (x : Core). let y : Core = record x { runs = false } in y) (at ∙ is)

pub others_told : (r : Told) (s : Bool) → s ≡ has_stopped r → OnErr r (NotFailed r → not s ≡ true)
others_told (Ok o) s told = tt
others_told (Err e) s told = let r : Told = Err e in λ on. run_told r s told on

-- ---- hints are settled behind a step

pub steps_settled : (r : Told) (m m' : Memory) (h : Staged) (d d' : Durable) (e : Event) (honest : Type 0) → h.before ≡ m'.hints.before → IfOk r (λ o. honest → Steps (core_of m) d e o (core_of m') d')
    → IfOk r (λ o. honest → Steps (core_of m) d e o (core_of (with_hints m' h)) d')
steps_settled (Ok o) m m' h d d' e honest same steps = λ is. subst (λ (x : Core). Steps (core_of m) d e o x d') (sym (same_core m' h same)) (steps is)
steps_settled (Err e') m m' h d d' e honest same steps = tt

pub back_settled : (r : Told) (m m' : Memory) (h : Staged) → h.before ≡ m'.hints.before → OnErr r (core_of m' ≡ core_of m) → OnErr r (core_of (with_hints m' h) ≡ core_of m)
back_settled r m m' h same back = err_more r _ _ (λ is. same_core m' h same ∙ is) back

pub log_told : (r : Told) (s : Bool) (S : Type 0) → s ≡ has_stopped r → OnErr r (NotFailed r → S) → OnErr r (not s ≡ true → S)
log_told (Ok o) s S told still = tt
log_told (Err e) s S told still = let r : Told = Err e in λ run. still (on_told r s told run)
