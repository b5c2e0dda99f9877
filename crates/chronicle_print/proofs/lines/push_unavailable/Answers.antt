use Rattle.std.proofs.Common.{◌++◌, List, ℕ, ◌∙◌, ap}
use Rattle.std.specs.Prelude.{codes}
use Rattle.std.specs.Fmt.{decimal}
use Rattle.chronicle_print.specs.Printed.{refusal_text}
use Rattle.peer_messages.specs.declared.chronicle.Refusal.TheVariants.{Unavailable}
use Rattle.chronicle_print.proofs.Lists.{four_parts}
use Rattle.chronicle_print.proofs.lines.push_unavailable.Goals as goal

pub returns : goal.returns
returns c =
    let required = decimal c.from.result in
    let alive = decimal c.from-2.result in
    let out = c.args.out.now.items in
    c.in_ok-push_number-2.ensures
    ∙ ap (λ (o : List ℕ). o ++ alive) (c.in_ok-extend_from_slice-2.ensures.items
    ∙ ap (λ (o : List ℕ). o ++ codes " alive ") (c.in_ok-push_number.ensures ∙ ap (λ (o : List ℕ). o ++ required) c.in_ok-extend_from_slice.ensures.items))
    ∙ four_parts out (codes "unavailable required ") required (codes " alive ") alive
    ∙ ap (λ (n : ℕ). out ++ refusal_text (Unavailable n c.from-2.result)) c.from.ensures
    ∙ ap (λ (n : ℕ). out ++ refusal_text (Unavailable c.args.required n)) c.from-2.ensures
