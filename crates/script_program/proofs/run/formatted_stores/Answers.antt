use Rattle.std.proofs.Common.{◌+◌, ◌∷◌, [], length, ap, ◌∙◌}
use Rattle.std.proofs.lemmas.List.{length-append}
use Rattle.script_program.proofs.RunLaws.{formatted_more}
use Rattle.script_program.proofs.run.formatted_stores.Goals as goal

pub loop-preserved : goal.loop-preserved
loop-preserved c = (
  ap length c.in_ok-push.ensures.items ∙ (length-append c.loop.stores.items (c.in_ok-formatted.field-0 ∷ []) ∙ ap (λ n. n + 1) c.loop.invariant.0),
  formatted_more c.loop.stores.items c.push.new.self.items c.in_ok-formatted.field-0 c.in_ok-push.ensures.items c.in_ok-formatted.ensures.files c.loop.invariant.1,
)
