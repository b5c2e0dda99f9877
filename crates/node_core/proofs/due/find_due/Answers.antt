use Rattle.std.proofs.Common.{◌≡◌, ◌↔◌, true, List, sym, ap, subst, ◌∙◌, arith, Contains}
use Rattle.std.specs.Map.{keys_of}
use Rattle.cs_base.specs.declared.ids.ReqId.{ReqId}
use Rattle.row_change.specs.declared.entry.Hint.{Hint}
use Rattle.hint_store.specs.declared.aging.Expired.{Expired}
use Rattle.hint_store.specs.Expiry.{IsExpired, expired_of}
use Rattle.node_core.specs.Due.{is_due_at}
use Rattle.node_core.proofs.DueKeys.{all_due, front_of, front_short}
use Rattle.node_core.proofs.due.find_due.Goals as goal

pub all_keys-requires-clause-writes : goal.all_keys-requires-clause-writes
all_keys-requires-clause-writes c = λ id there.
    let le = front_short c.args.time c.args.base.now.me c.args.base.now.writes c.requires.holding.writes c.requires.holding.own_writes id (subst (λ (ids : List ReqId). Contains ids id) (c.deref.ensures.value ∙ c.in_ok-writes.ensures) there) in
    let soon = c.requires.time in
    omega arith

pub all_keys-requires-clause-reads : goal.all_keys-requires-clause-reads
all_keys-requires-clause-reads c = λ id there.
    let le = front_short c.args.time c.args.base.now.me c.args.base.now.reads c.requires.holding.reads c.requires.holding.own_reads id (subst (λ (ids : List ReqId). Contains ids id) (c.deref-2.ensures.value ∙ c.in_ok-reads.ensures) there) in
    let soon = c.requires.time in
    omega arith

pub all_keys-requires-clause-expired : goal.all_keys-requires-clause-expired
all_keys-requires-clause-expired c = λ x there.
    let h = (c.in_ok-expired.ensures.each x).0 (subst (λ (xs : List Expired). Contains xs x) c.as_slice.ensures there) in
    let old = h.2 in
    let born = ap (λ (y : Expired). y.born) h.3 in
    let soon = c.requires.time in
    omega arith

pub returns : goal.returns
returns c = all_due c.args.base.now c.args.hints.now.now c.args.time c.deref.result.now c.deref-2.result.now c.as_slice.result.now c.in_ok-due.due.keys (record {
  writes = λ id. subst (λ (ids : List ReqId). Contains ids id ↔ (Contains (keys_of c.args.base.now.writes.entries) id × (is_due_at c.args.time id ≡ true))) (sym (c.deref.ensures.value ∙ c.in_ok-writes.ensures))
      (front_of c.args.time c.args.base.now.me c.args.base.now.writes c.requires.holding.writes c.requires.holding.own_writes id);
  reads = λ id. subst (λ (ids : List ReqId). Contains ids id ↔ (Contains (keys_of c.args.base.now.reads.entries) id × (is_due_at c.args.time id ≡ true))) (sym (c.deref-2.ensures.value ∙ c.in_ok-reads.ensures))
      (front_of c.args.time c.args.base.now.me c.args.base.now.reads c.requires.holding.reads c.requires.holding.own_reads id);
  expired = λ x. subst (λ (xs : List Expired). Contains xs x ↔ ((h : Hint) × Contains c.args.hints.now.now.hints h × IsExpired c.args.base.now.setting.expiry c.args.time h × (x ≡ expired_of h))) (sym c.as_slice.ensures) (c.in_ok-expired.ensures.each x);
  keys_are = c.in_ok-due.ensures;
  ordered = c.stands_in_order.ensures;
})
