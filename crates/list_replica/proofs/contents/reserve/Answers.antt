use Rattle.std.proofs.Common.{◌∙◌, ap, sym}
use Rattle.std.specs.BTreeMap.{is_at}
use Rattle.changes.specs.Order.{partition_cmp}
use Rattle.list_replica.specs.Stores.{all_of}
use Rattle.list_replica.proofs.Looking.{all_written, away, is_found}
use Rattle.list_replica.proofs.contents.reserve.Goals as goal

pub returns-in-Some-clause-stored : goal.returns-in-Some-clause-stored
returns-in-Some-clause-stored c =
    ap all_of (c.get_mut.follows.holds c.reserve_in.new.content).0
    ∙ all_written (is_at (partition_cmp c.args.partition.now)) c.args.contents.now.entries c.in-Some.content.now c.reserve_in.new.content (sym c.in-Some.ensures.value) c.reserve_in.ensures.stored

pub returns-in-Some-clause-others : goal.returns-in-Some-clause-others
returns-in-Some-clause-others c q other =
    ((c.get_mut.follows.holds c.reserve_in.new.content).3 (is_found c.args.contents.now c.args.partition.now c.in-Some.content.now c.in-Some.ensures.value)).2 q (away c.args.partition.now q other)
