use Rattle.std.proofs.Common.{◌≡◌, ◌∙◌, ap, sym, subst, None}
use Rattle.std.specs.BTreeMap.{get}
use Rattle.changes.specs.declared.Partition.{Partition}
use Rattle.changes.specs.Order.{partition_cmp}
use Rattle.list_replica.specs.Stores.{all_of}
use Rattle.list_replica.proofs.Looking.{all_inserted, away}
use Rattle.list_replica.proofs.contents.begin.Goals as goal

pub returns-in_ok-insert-in-Ok-clause-stored : goal.returns-in_ok-insert-in-Ok-clause-stored
returns-in_ok-insert-in-Ok-clause-stored c =
    ap all_of c.in_ok-insert-in-Ok.ensures.entries
    ∙ all_inserted c.in_ok-key.key c.reserve_in.new.content c.args.contents.now.entries (c.reserve_in.ensures.stored ∙ c.new-content.ensures.stored)
    (subst (λ (q : Partition). get partition_cmp c.args.contents.now q ≡ None) (sym c.in_ok-key.ensures) c.requires.new)

pub returns-in_ok-insert-in-Ok-clause-others : goal.returns-in_ok-insert-in-Ok-clause-others
returns-in_ok-insert-in-Ok-clause-others c q other = c.in_ok-insert-in-Ok.ensures.updates.2 q (away c.in_ok-key.key q (λ e. other (e ∙ c.in_ok-key.ensures)))
