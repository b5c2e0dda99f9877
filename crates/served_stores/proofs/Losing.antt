-- What is left where a node is not had, once the stores of those before it are back.
use Rattle.std.proofs.Common.{◌≡◌, ◌≢◌, ℕ, ◌<◌, ◌≤◌, List, length, sym, subst, ◌∙◌, arith, inl, inr}
use Rattle.std.proofs.lemmas.Bool.Decides.{leb_tells}
use mathlib.Core.Path.{fun_ext}
use Rattle.cs_base.specs.Faults.{HasRisen}
use Rattle.durable_state.specs.State.{IsSameKept}
use Rattle.peer_messages.specs.declared.setting.Setting.{Setting}
use Rattle.node_core.specs.declared.node.Node.{Node}
use Rattle.replica.specs.Finding.{StandFor}
use Rattle.served_stores.specs.Shown.{Shown, IsSameAt}
use Rattle.served_stores.specs.Loading.{Keeper, AreTakenFrom, IsReleased, IsFirstLost}
use Rattle.served_stores.specs.Releasing.{AreBackFrom}
use Rattle.served_stores.proofs.Taking.{taken_at}
use Rattle.served_stores.proofs.Backing.{back_at, same_on}

-- files that are what a whole replica's disk has stand for what it keeps
abbrev pub StaysSafe : {R : Type 0} → Keeper R → Type 0
StaysSafe {R} m = (r : R) → m.is_honest → m.is_whole r → (files : ℕ → List ℕ) → ((k : ℕ) → files k ≡ m.seen r k) → StandFor m.stands_for (IsSameKept (m.durable r)) files

-- Nodes were loaded up to n, node n was not, and their stores were given back.
pub record IsLost {R D : Type 0} (m : Keeper R) (setting : Setting) (n : ℕ) (xs : List (Node R D)) (old now mid new : Shown) : Type 0 where
  pub count : n ≡ length xs
  pub taken : AreTakenFrom m setting 0 xs old now
  pub past : (k : ℕ) → n ≤ k → IsSameAt k old now
  pub others : (k : ℕ) → k ≢ n → IsSameAt k now mid
  pub back : AreBackFrom m.is_honest (λ (x : Node R D). m.seen x.replica) (λ (x : Node R D). m.faults x.replica) 0 xs mid new
  pub rest : (k : ℕ) → length xs ≤ k → IsSameAt k mid new

module _ {R D : Type 0} {m : Keeper R} {setting : Setting} {n : ℕ} {xs : List (Node R D)} {old now mid new : Shown} (lost : IsLost m setting n xs old now mid new) where
  pub lost_behind : (k : ℕ) → n < k → IsSameAt k old new
  lost_behind k lt = same_on k old mid new (same_on k old now mid (lost.past k (omega (arith, lt))) (lost.others k (omega (arith, lt)))) (lost.rest k (omega (arith, lt, lost.count)))

  pub lost_home : mid.is_out n ≡ now.is_out n → (k : ℕ) → new.is_out k ≡ old.is_out k
  lost_home here k =
      elim (leb_tells n k) [
        | inl behind ↦ elim (leb_tells k n) [
          | inl same ↦ (let low = behind.1 in let high = same.1 in let e : n ≡ k = omega (arith, low, high) in
              subst (λ (j : ℕ). new.is_out j ≡ old.is_out j) e ((lost.rest n (omega (arith, lost.count))).is_out ∙ here ∙ (lost.past n (omega arith)).is_out))
          | inr after ↦ (lost_behind k after.1).is_out
        ]
        | inr before ↦ (let lt = before.1 in let (x, at, one) = taken_at m setting k xs old now lost.taken (omega (arith, lt, lost.count)) in
            (back_at m.is_honest (λ (x : Node R D). m.seen x.replica) (λ (x : Node R D). m.faults x.replica) k xs x mid new lost.back at).home ∙ sym one.was_home)
      ]

  pub lost_later : now.faults n ≤ mid.faults n → (k : ℕ) → old.faults k ≤ new.faults k
  lost_later here k =
      elim (leb_tells n k) [
        | inl behind ↦ elim (leb_tells k n) [
          | inl same ↦ (let low = behind.1 in let high = same.1 in let e : n ≡ k = omega (arith, low, high) in
              let a = (lost.past n (omega arith)).faults in let b = (lost.rest n (omega (arith, lost.count))).faults in
              subst (λ (j : ℕ). old.faults j ≤ new.faults j) e (omega (arith, here, a, b)))
          | inr after ↦ (let e = (lost_behind k after.1).faults in omega arith)
        ]
        | inr before ↦ (let lt = before.1 in let (x, at, one) = taken_at m setting k xs old now lost.taken (omega (arith, lt, lost.count)) in
            let a = one.later in let b = (lost.others k (λ e. absurd (omega (arith, lt, e)))).faults in
            let c = (back_at m.is_honest (λ (x : Node R D). m.seen x.replica) (λ (x : Node R D). m.faults x.replica) k xs x mid new lost.back at).later in
            omega (arith, a, b, c))
      ]

  pub lost_risen : HasRisen (now.faults n) (mid.faults n) → HasRisen (old.faults n) (new.faults n)
  lost_risen up =
      subst (λ (x : ℕ). HasRisen x (new.faults n)) (lost.past n (omega arith)).faults
      (subst (λ (y : ℕ). HasRisen (now.faults n) y) (sym (lost.rest n (omega (arith, lost.count))).faults) up)

  pub lost_held : now.holds n ≡ old.holds n
  lost_held = fun_ext (lost.past n (omega arith)).holds

  lost_before : StaysSafe m → (k : ℕ) → k < n → IsReleased m k old new
  lost_before safe k lt =
      let (x, at, one) = taken_at m setting k xs old now lost.taken (omega (arith, lt, lost.count)) in
      let home = back_at m.is_honest (λ (x : Node R D). m.seen x.replica) (λ (x : Node R D). m.faults x.replica) k xs x mid new lost.back at in
      record {
        was_home = one.was_home;
        later = (let a = one.later in let b = (lost.others k (λ e. absurd (omega (arith, lt, e)))).faults in let c = home.later in omega (arith, a, b, c));
        stands = λ honest. (m.durable x.replica, one.loaded.found honest, safe x.replica honest one.loaded.whole (new.holds k) (home.holds honest));
      }

  pub lost_first : StaysSafe m → (nodes : ℕ) → n < nodes → IsFirstLost m nodes n old new
  lost_first safe nodes within = record { within = within; before = lost_before safe; behind = lost_behind }
