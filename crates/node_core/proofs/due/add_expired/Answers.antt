use Rattle.std.proofs.Common.{◌↔◌, ◌⊎◌, List, [], ◌∷◌, ◌++◌, take, sym, ap, subst, ◌∙◌, Contains}
use Rattle.std.specs.BTreeSet.{insert_key}
use Rattle.std.proofs.lemmas.List.{take_all}
use Rattle.hint_store.specs.declared.aging.Expired.{Expired}
use Rattle.cs_base.proofs.Members.{front_more, contains_at}
use Rattle.node_core.specs.declared.due.DueKey.{DueKey}
use Rattle.node_core.specs.Due.{IsExpiryKey, key_cmp}
use Rattle.node_core.proofs.DueKeys.{expiries_none, expiries_more}
use Rattle.node_core.proofs.due.add_expired.Goals as goal

pub loop-hint-init : goal.loop-hint-init
loop-hint-init c = expiries_none c.args.me c.args.expiry c.args.due.now.keys

pub expiry_key-requires : goal.expiry_key-requires
expiry_key-requires c = c.requires c.hint-item.result (contains_at c.args.expired.now c.loop-hint.hint-index c.hint-item.result c.loop-hint-test.true c.hint-item.is)

pub loop-hint-preserved : goal.loop-hint-preserved
loop-hint-preserved c =
    let front = take c.loop-hint.hint-index c.args.expired.now in
    subst (λ (xs : List Expired). (k : DueKey) → Contains c.put.new.due.keys k ↔ (Contains c.args.due.now.keys k ⊎ IsExpiryKey c.args.me c.args.expiry xs k)) (sym (front_more c.args.expired.now c.loop-hint.hint-index c.hint-item.result c.loop-hint-test.true c.hint-item.is))
    (subst (λ (ks : List DueKey). (k : DueKey) → Contains ks k ↔ (Contains c.args.due.now.keys k ⊎ IsExpiryKey c.args.me c.args.expiry (front ++ c.hint-item.result ∷ []) k))
    (sym (c.in_ok-put.ensures ∙ ap (λ (k : DueKey). insert_key key_cmp c.loop-hint.due.keys k) c.expiry_key.ensures))
    (expiries_more c.args.me c.args.expiry c.args.due.now.keys c.loop-hint.due.keys front c.hint-item.result c.loop-hint.invariant))

pub returns : goal.returns
returns c =
    subst (λ (xs : List Expired). (k : DueKey) → Contains c.loop-hint.due.keys k ↔ (Contains c.args.due.now.keys k ⊎ IsExpiryKey c.args.me c.args.expiry xs k)) (take_all c.loop-hint.hint-index c.args.expired.now c.loop-hint-test.false) c.loop-hint.invariant
