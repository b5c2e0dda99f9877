use Rattle.std.proofs.Common.{◌∙◌, ap, sym, subst, List}
use Rattle.partition_content.specs.declared.Arrived.{Arrived}
use Rattle.partition_content.specs.Partition.{Partition as Content}
use Rattle.list_replica.specs.Removing.{IsWithout}
use Rattle.list_replica.proofs.removing.remove.Goals as goal

pub returns : goal.returns
returns c =
    let old = c.in_ok-content.ensures ∙ ap (λ (p : Content). p.stored) c.replace.ensures.value in
    let new = ap (λ (p : Content). p.stored) c.replace-2.ensures.after ∙ c.from_content.ensures in
    subst (λ (l : List Arrived). IsWithout c.args.held.now l c.replace-2.new.dest.stored) old (subst (λ (l : List Arrived). IsWithout c.args.held.now c.in_ok-content.content.stored l) (sym new) c.in_ok-rest.ensures)
