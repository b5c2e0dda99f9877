-- The text that is copied is that of the bytes.
use Rattle.std.proofs.Common.{◌∙◌, ap, ◌-◌, ℕ, length}
use Rattle.body_notations.proofs.Texts.{text_is, none_is}
use Rattle.body_notations.proofs.reading.read_text.Goals as goal

pub returns-in_ok-from_str-in-Ok : goal.returns-in_ok-from_str-in-Ok
returns-in_ok-from_str-in-Ok c =
    text_is c.args.count c.args.bytes.now c.in_ok-text.text.now c.in_ok-text.rest.now _ c.in_ok-text.ensures c.in-Ok.ensures.cases.1 (c.in_ok-from_str-in-Ok.ensures ∙ c.in-Ok.ensures.cases.0)

pub returns-in-Err : goal.returns-in-Err
returns-in-Err c =
    none_is c.args.count c.args.bytes.now c.in_ok-text.text.now c.in_ok-text.rest.now _ c.in_ok-text.ensures c.in-Err.ensures.cases.0
    (c.saturating_sub.ensures ∙ ap (λ (n : ℕ). length c.args.bytes.now - n) (c.valid_up_to.ensures ∙ c.in-Err.ensures.valid_len))
