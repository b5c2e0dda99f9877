use Rattle.std.proofs.Common.{rules, filter, ◌∙◌, ap, List}
use Rattle.std.proofs.lemmas.Fn.{filter_same}
use Rattle.partition_content.specs.declared.Arrived.{Arrived}
use Rattle.list_replica.specs.Removing.{is_other}
use Rattle.list_replica.proofs.removing.others.Goals as goal

pub returns : goal.returns
returns c = filter_same _ _ _ (λ x b f' k. search rules) _ _ c.retain.ensures.filtered ∙ ap (λ (l : List Arrived). filter (is_other c.args.held.now) l) c.in_ok-all.ensures
