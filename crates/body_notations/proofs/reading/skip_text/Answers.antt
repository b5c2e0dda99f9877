use Rattle.std.proofs.Common.{◌∙◌, ap, ◌-◌, ℕ, length}
use Rattle.body_notations.proofs.Texts.{behind_text, behind_none}
use Rattle.body_notations.proofs.reading.skip_text.Goals as goal

pub returns-in-Ok : goal.returns-in-Ok
returns-in-Ok c =
    behind_text c.args.count c.args.bytes.now c.in_ok-text.text.now c.in_ok-text.rest.now c.in_ok-text.ensures c.in-Ok.ensures.cases.1

pub returns-in-Err : goal.returns-in-Err
returns-in-Err c =
    behind_none c.args.count c.args.bytes.now c.in_ok-text.text.now c.in_ok-text.rest.now _ c.in_ok-text.ensures c.in-Err.ensures.cases.0
    (c.saturating_sub.ensures ∙ ap (λ (n : ℕ). length c.args.bytes.now - n) (c.valid_up_to.ensures ∙ c.in-Err.ensures.valid_len))
