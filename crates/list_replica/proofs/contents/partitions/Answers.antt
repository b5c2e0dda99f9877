use Rattle.std.proofs.Common.{◌∙◌, sym, subst, List}
use Rattle.std.specs.List.Sorted.{IsStrictlySortedBy}
use Rattle.changes.specs.declared.Partition.{Partition}
use Rattle.changes.specs.Order.{partition_cmp}
use Rattle.list_replica.specs.Stores.{is_listed}
use Rattle.list_replica.proofs.Listing.{AreListed, listed_are, keys_in_order}
use Rattle.list_replica.proofs.contents.partitions.Goals as goal

pub returns-clause-held : goal.returns-clause-held
returns-clause-held c =
    subst (λ (ps : List Partition). AreListed c.args.contents.now c.args.range.now ps) (sym (c.from_vec.ensures ∙ c.in_ok-partitions.ensures)) (λ p. listed_are c.args.contents.now c.args.range.now p c.requires)

pub returns-clause-in_order : goal.returns-clause-in_order
returns-clause-in_order c =
    subst (λ (ps : List Partition). IsStrictlySortedBy partition_cmp ps) (sym (c.from_vec.ensures ∙ c.in_ok-partitions.ensures))
    (keys_in_order (is_listed c.args.range.now) c.args.contents.now.entries c.requires)
