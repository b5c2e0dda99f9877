use Rattle.std.proofs.Common.{rules, ◌≡◌, ◌≢◌, ℕ, ◌+◌, ◌≤◌, ◌<◌, List, Err, length, ap, subst, ◌∙◌, sym, arith, inl, inr}
use Rattle.cs_base.specs.Faults.{HasRisen}
use Rattle.node_core.specs.declared.node.Node.{Node}
use Rattle.served_stores.specs.Loading.{AreTakenFrom, IsTaken, IsFirstLost, keeper}
use Rattle.served_stores.specs.Shown.{shown}
use Rattle.served_stores.specs.declared.fault.LoadFault.TheVariants as load_fault
use Rattle.served_stores.proofs.Backing.{same_on}
use Rattle.served_stores.proofs.Losing.{IsLost, StaysSafe, lost_behind, lost_home, lost_later, lost_risen, lost_held, lost_first}
use Rattle.served_stores.proofs.Taking.{more_taken, taken_later}
use Rattle.served_stores.proofs.loading.load_nodes.Given.{Over}
use Rattle.served_stores.proofs.loading.load_nodes.Goals as goal

at_place : (g : Over) (c : goal.After-release_nodes g) → c.unwrap-me.result ≡ c.loop-number.number
at_place g c = search rules

lost : (g : Over) (c : goal.After-release_nodes g) → IsLost (keeper g.R.Disk.Store.is_honest g.R.Replica.stands_for g.R.Replica.durable g.R.Replica.is_whole g.R.Replica.disk g.R.Disk.Store.disk g.R.Disk.Store.faults)
    c.args.setting.now c.loop-number.number c.loop-number.nodes.items
    (shown g.D.Stores.holds g.D.Stores.faults g.D.Stores.taken g.D.Stores.is_out c.args.stores.now) (shown g.D.Stores.holds g.D.Stores.faults g.D.Stores.taken g.D.Stores.is_out c.loop-number.stores)
    (shown g.D.Stores.holds g.D.Stores.faults g.D.Stores.taken g.D.Stores.is_out c.load_node.new.stores) (shown g.D.Stores.holds g.D.Stores.faults g.D.Stores.taken g.D.Stores.is_out c.release_nodes.new.stores)
lost g c = record {
  count = sym c.loop-number.invariant.count ∙ c.loop-number.nodes.ok.0;
  taken = c.loop-number.invariant.taken;
  past = c.loop-number.invariant.past;
  others = λ k apart. c.load_node.ensures.others k (λ e. apart (e ∙ at_place g c));
  back = c.release_nodes.ensures.back;
  rest = λ k le. c.release_nodes.ensures.others k (let ok = c.loop-number.nodes.ok.0 in omega (arith, le, ok));
}

pub returns-in-Err-clause-others : goal.returns-in-Err-clause-others
returns-in-Err-clause-others g c n le =
    let below : c.loop-number.number < length c.args.setting.now.ring = search rules in
    lost_behind (lost g c) n (omega (arith, le, below))

pub returns-in-Err-clause-later : goal.returns-in-Err-clause-later
returns-in-Err-clause-later g c n =
    lost_later (lost g c) (subst (λ (k : ℕ). g.D.Stores.faults c.loop-number.stores k ≤ g.D.Stores.faults c.load_node.new.stores k) (at_place g c) c.load_node.ensures.later) n

pub returns-in-Err-clause-home : goal.returns-in-Err-clause-home
returns-in-Err-clause-home g c n =
    lost_home (lost g c) (subst (λ (k : ℕ). g.D.Stores.is_out c.load_node.new.stores k ≡ g.D.Stores.is_out c.loop-number.stores k) (at_place g c) c.in-Err.ensures.home) n

pub returns-in-Err-clause-failed : goal.returns-in-Err-clause-failed
returns-in-Err-clause-failed g c n is =
    let told : c.in-Err.fault ≡ load_fault.Failed n = cc in
    let from = c.in-Err.ensures.failed n (ap Err told) in
    let up = lost_risen (lost g c) (subst (λ (k : ℕ). HasRisen (g.D.Stores.faults c.loop-number.stores k) (g.D.Stores.faults c.load_node.new.stores k)) (at_place g c) from.1) in
    subst (λ (k : ℕ). HasRisen (g.D.Stores.faults c.args.stores.now k) (g.D.Stores.faults c.release_nodes.new.stores k)) (sym (from.0 ∙ at_place g c)) up

pub returns-in-Err-clause-damaged : goal.returns-in-Err-clause-damaged
returns-in-Err-clause-damaged g c n f p is =
    let told : c.in-Err.fault ≡ load_fault.Damaged n f p = cc in
    let from = c.in-Err.ensures.damaged n f p (ap Err told) in
    λ honest. subst (λ (files : ℕ → List ℕ). g.R.Replica.is_damaged files f p)
    (ap (λ (k : ℕ). g.D.Stores.holds c.loop-number.stores k) (at_place g c) ∙ lost_held (lost g c) ∙ ap (λ (k : ℕ). g.D.Stores.holds c.args.stores.now k) (sym (from.0 ∙ at_place g c))) (from.1 honest)

pub returns-in-Err-clause-first : goal.returns-in-Err-clause-first
returns-in-Err-clause-first g c n f p is =
    let show = shown g.D.Stores.holds g.D.Stores.faults g.D.Stores.taken g.D.Stores.is_out in
    let m = keeper g.R.Disk.Store.is_honest g.R.Replica.stands_for g.R.Replica.durable g.R.Replica.is_whole g.R.Replica.disk g.R.Disk.Store.disk g.R.Disk.Store.faults in
    let safe : StaysSafe m = λ r honest whole files same. g.met.R.Replica.is_safe r honest whole files
    (λ k. subst (λ (bytes : List ℕ). (g.R.Disk.Store.disk (g.R.Replica.disk r)).left (g.R.Disk.Store.disk (g.R.Replica.disk r)).moment k bytes) (sym (same k)) (g.met.R.Disk.Store.may_stay (g.R.Replica.disk r) honest k)) in
    let node : n ≡ c.loop-number.number = elim is [
      | inl failed ↦ (let told : c.in-Err.fault ≡ load_fault.Failed n = cc in (c.in-Err.ensures.failed n (ap Err told)).0 ∙ at_place g c)
      | inr damaged ↦ (let told : c.in-Err.fault ≡ load_fault.Damaged n f p = cc in (c.in-Err.ensures.damaged n f p (ap Err told)).0 ∙ at_place g c)
    ] in
    let below : c.loop-number.number < length c.args.setting.now.ring = search rules in
    subst (λ (k : ℕ). IsFirstLost m (length c.args.setting.now.ring) k (show c.args.stores.now) (show c.release_nodes.new.stores)) (sym node)
    (lost_first (lost g c) safe (length c.args.setting.now.ring) below)

pub loop-number-preserved : goal.loop-number-preserved
loop-number-preserved g c =
    let show = shown g.D.Stores.holds g.D.Stores.faults g.D.Stores.taken g.D.Stores.is_out in
    let m = keeper g.R.Disk.Store.is_honest g.R.Replica.stands_for g.R.Replica.durable g.R.Replica.is_whole g.R.Replica.disk g.R.Disk.Store.disk g.R.Disk.Store.faults in
    let me : c.unwrap-me.result ≡ c.loop-number.number = search rules in
    let one = subst (λ (k : ℕ). IsTaken m c.args.setting.now k (show c.loop-number.stores) (show c.load_node.new.stores) c.in-Ok.node.core c.in-Ok.node.replica) me c.in-Ok.ensures.taken in
    let others = λ (k : ℕ) (apart : k ≢ c.loop-number.number). c.load_node.ensures.others k (λ e. apart (e ∙ me)) in
    record {
      count = c.push_reserved.ensures.len ∙ ap (λ (k : ℕ). k + 1) c.loop-number.invariant.count;
      room = search rules;
      taken = subst (λ (xs : List (Node g.row.R.Denot g.row.R-Disk.Denot)). AreTakenFrom m c.args.setting.now 0 xs (show c.args.stores.now) (show c.load_node.new.stores)) (sym c.push_reserved.ensures.items)
          (more_taken m c.args.setting.now c.loop-number.number c.loop-number.nodes.items c.in-Ok.node (show c.args.stores.now) (show c.loop-number.stores) (show c.load_node.new.stores) (sym c.loop-number.invariant.count ∙ c.loop-number.nodes.ok.0) c.loop-number.invariant.taken c.loop-number.invariant.past one others);
      past = λ n le. same_on n (show c.args.stores.now) (show c.loop-number.stores) (show c.load_node.new.stores) (c.loop-number.invariant.past n (omega (arith, le))) (others n (λ e. absurd (omega (arith, le, e))));
    }

pub returns-clause-later : goal.returns-clause-later
returns-clause-later g c n =
    let show = shown g.D.Stores.holds g.D.Stores.faults g.D.Stores.taken g.D.Stores.is_out in
    let m = keeper g.R.Disk.Store.is_honest g.R.Replica.stands_for g.R.Replica.durable g.R.Replica.is_whole g.R.Replica.disk g.R.Disk.Store.disk g.R.Disk.Store.faults in
    taken_later m c.args.setting.now c.loop-number.number c.loop-number.nodes.items (show c.args.stores.now) (show c.loop-number.stores) (sym c.loop-number.invariant.count ∙ c.loop-number.nodes.ok.0) c.loop-number.invariant.taken c.loop-number.invariant.past n
