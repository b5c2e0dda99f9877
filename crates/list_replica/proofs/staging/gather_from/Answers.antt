use Rattle.std.proofs.Common.{◌++◌, ◌∙◌, List, ap}
use Rattle.changes.specs.declared.Held.{Held}
use Rattle.list_replica.proofs.Gathering.{brings_all}
use Rattle.list_replica.proofs.staging.gather_from.Goals as goal

pub returns-in_ok-copy_onto : goal.returns-in_ok-copy_onto
returns-in_ok-copy_onto c =
    brings_all c.args.item.now c.in-Some.mutation.now c.args.partition.now c.args.changes.now.items c.copy_onto.new.changes.items c.in-Some.ensures (c.is_same.ensures.0 c.if-is_same.true)
    (c.in_ok-copy_onto.ensures ∙ ap (λ (l : List Held). c.args.changes.now.items ++ l) c.as_slice.ensures)
