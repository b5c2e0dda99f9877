use Rattle.std.proofs.Common.{◌≡◌, true, false, Contains, sym, subst, ◌∙◌}
use Rattle.cs_base.specs.declared.ids.ReqId.{ReqId}
use Rattle.node_core.proofs.LeftOpen.{left_gone, left_other}
use Rattle.node_core.proofs.hears.left.Goals as goal

pub returns-then-has_ended : goal.returns-then-has_ended
returns-then-has_ended g c = sym (left_gone c.args.request.now c.args.ended.now c.args.requests.now c.requires (c.has_ended.ensures.0 c.if-has_ended.true))

pub returns : goal.returns
returns g c =
    c.get.ensures.value
    ∙ sym (left_other c.args.request.now c.args.ended.now c.args.requests.now.entries
    (λ e there same. false_true (sym c.if-has_ended.false ∙ c.has_ended.ensures.1 (subst (λ (k : ReqId). Contains c.args.ended.now k) same there))))
  where
    false_true : false ≡ true → ⊥
    false_true e = cc
