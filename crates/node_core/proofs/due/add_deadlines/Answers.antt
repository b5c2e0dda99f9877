use Rattle.std.proofs.Common.{◌↔◌, ◌⊎◌, List, [], ◌∷◌, ◌++◌, take, sym, ap, subst, ◌∙◌, Contains}
use Rattle.std.specs.BTreeSet.{insert_key}
use Rattle.std.proofs.lemmas.List.{take_all}
use Rattle.cs_base.specs.declared.ids.ReqId.{ReqId}
use Rattle.cs_base.proofs.Members.{front_more, contains_at}
use Rattle.node_core.specs.declared.due.DueKey.{DueKey}
use Rattle.node_core.specs.Due.{IsDeadlineKey, key_cmp}
use Rattle.node_core.proofs.DueKeys.{deadlines_none, deadlines_more}
use Rattle.node_core.proofs.due.add_deadlines.Goals as goal

pub loop-id-init : goal.loop-id-init
loop-id-init c = deadlines_none c.args.due.now.keys

pub deadline_key-requires : goal.deadline_key-requires
deadline_key-requires c = c.requires c.id-item.result (contains_at c.args.ids.now c.loop-id.id-index c.id-item.result c.loop-id-test.true c.id-item.is)

pub loop-id-preserved : goal.loop-id-preserved
loop-id-preserved c =
    subst (λ (ids : List ReqId). (k : DueKey) → Contains c.put.new.due.keys k ↔ (Contains c.args.due.now.keys k ⊎ IsDeadlineKey ids k)) (sym (front_more c.args.ids.now c.loop-id.id-index c.id-item.result c.loop-id-test.true c.id-item.is))
    (subst (λ (ks : List DueKey). (k : DueKey) → Contains ks k ↔ (Contains c.args.due.now.keys k ⊎ IsDeadlineKey (take c.loop-id.id-index c.args.ids.now ++ c.id-item.result ∷ []) k))
    (sym (c.in_ok-put.ensures ∙ ap (λ (k : DueKey). insert_key key_cmp c.loop-id.due.keys k) c.deadline_key.ensures))
    (deadlines_more c.args.due.now.keys c.loop-id.due.keys (take c.loop-id.id-index c.args.ids.now) c.id-item.result c.loop-id.invariant))

pub returns : goal.returns
returns c = subst (λ (ids : List ReqId). (k : DueKey) → Contains c.loop-id.due.keys k ↔ (Contains c.args.due.now.keys k ⊎ IsDeadlineKey ids k)) (take_all c.loop-id.id-index c.args.ids.now c.loop-id-test.false) c.loop-id.invariant
