-- Whether a node has nothing to do at a reading of its clock.
use Rattle.std.proofs.Common.{◌≡◌, ◌≤◌, ◌<◌, ◌↔◌, ℕ, Bool, true, false, [], IsTrue, refl, sym, subst, arith}
use Rattle.std.specs.Prelude.{not}
use Rattle.cs_base.proofs.Members.{contains_nil}
use Rattle.node_steps.specs.Hints.{KeptHints}
use Rattle.node_steps.specs.Steps.{Due, IsDue, end_of_time, risen_time}
use Rattle.node_core.specs.declared.memory.Memory.{Memory}
use Rattle.node_core.specs.Due.{AreDueKeys, waits_in}
use Rattle.node_core.specs.Nodes.{Core, IsIdle, memory_state, tick_at}
use Rattle.node_core.proofs.Running.{core_if}

false_true : false ≡ true → ⊥
false_true e = cc

idle_at : (m : Memory) (runs : Bool) (clock t : ℕ) (due : Bool) → t ≡ risen_time m.time (tick_at clock) → t ≤ end_of_time
    → (due ≡ false → AreDueKeys m.base m.hints.before t []) → (due ≡ true → (d : Due) × IsDue m.base.setting m.base.me t (waits_in m.base m.hints.before) d)
    → IsTrue (not due) ↔ IsIdle (core_if m runs) clock
idle_at m runs clock t true rises within none some = (
  λ h. absurd (false_true h),
  λ idle. let found = some refl in absurd (idle.none found.0 (subst (λ (u : ℕ). IsDue m.base.setting m.base.me u (memory_state (core_if m runs)) found.0) rises found.1)),
)
idle_at m runs clock t false rises within none some = (
  λ h. record {
    within = subst (λ (u : ℕ). u ≤ end_of_time) rises within;
    none = λ d due. contains_nil _ (((none refl).each d).1 (subst (λ (u : ℕ). IsDue m.base.setting m.base.me u (waits_in m.base m.hints.before) d) (sym rises) due));
  },
  λ idle. refl,
)

pub idle_told : (m : Memory) (runs : Bool) (n : Core) (clock t : ℕ) (due : Bool) → core_if m runs ≡ n → m.hints.now ≡ m.hints.before → t ≡ risen_time m.time (tick_at clock) → t ≤ end_of_time
    → (due ≡ false → AreDueKeys m.base m.hints.now t []) → (due ≡ true → (d : Due) × IsDue m.base.setting m.base.me t (waits_in m.base m.hints.now) d)
    → IsTrue (not due) ↔ IsIdle n clock
idle_told m runs n clock t due is settled rises within none some =
    subst (λ (x : Core). IsTrue (not due) ↔ IsIdle x clock) is
    (idle_at m runs clock t due rises within (λ h. subst (λ (k : KeptHints). AreDueKeys m.base k t []) settled (none h))
    (λ h. subst (λ (k : KeptHints). (d : Due) × IsDue m.base.setting m.base.me t (waits_in m.base k) d) settled (some h)))

pub never_idle : (m : Memory) (runs : Bool) (n : Core) (clock : ℕ) → core_if m runs ≡ n → end_of_time < risen_time m.time (tick_at clock) → IsTrue false ↔ IsIdle n clock
never_idle m runs n clock is late =
    subst (λ (x : Core). IsTrue false ↔ IsIdle x clock) is (λ h. absurd (false_true h), λ idle. let within = idle.within in absurd (omega arith))
