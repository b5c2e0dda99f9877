use Rattle.std.proofs.Common.{List, sym, ap, ◌++◌, ◌∷◌, [], ◌∙◌}
use Rattle.std.proofs.lemmas.List.{map-append}
use Rattle.peer_messages.specs.declared.outcome.Outbound.{Outbound}
use Rattle.node_steps.specs.Hints.{send_hint}
use Rattle.node_core.proofs.hints.send_hints.Goals as goal

pub loop-hint-preserved : goal.loop-hint-preserved
loop-hint-preserved c =
    c.in_ok-push.ensures.ok
    ∙ ap (λ (x : Outbound). c.loop-hint.sends ++ x ∷ []) c.send_hint.ensures
    ∙ ap (λ (xs : List Outbound). xs ++ send_hint c.args.me c.in-Some.hint ∷ []) c.loop-hint.invariant
    ∙ sym (map-append (send_hint c.args.me) c.loop-hint.yielded (c.in-Some.hint ∷ []))
