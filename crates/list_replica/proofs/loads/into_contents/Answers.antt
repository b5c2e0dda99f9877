use Rattle.std.proofs.Common.{List, sym, subst}
use Rattle.changes.specs.declared.Partition.{Partition}
use Rattle.partition_content.specs.Partition.{Partition as Content}
use Rattle.list_replica.proofs.Loading.{IsMade, made_none, made_more, made_all}
use Rattle.list_replica.proofs.loads.into_contents.Goals as goal

pub loop-partition-init : goal.loop-partition-init
loop-partition-init c = record {
  made = subst (λ (l : List (Partition × Content)). IsMade c.new-contents.result.entries l c.args.loads.entries) (sym c.into_iter-partition-iterator.ensures.into_iter_gives.0) (made_none c.new-contents.result.entries c.args.loads.entries c.new-contents.ensures.empty);
  ordered = c.new-contents.ensures.ordered;
}

pub loop-partition-preserved : goal.loop-partition-preserved
loop-partition-preserved c = record {
  made = made_more c.loop-partition.contents.entries c.insert.new.self.entries c.loop-partition.partition-iterator c.next.new.self c.args.loads.entries c.in-Some.partition c.in-Some.loaded c.in-Ok.content
      c.into_iter-partition-iterator.ensures.into_iter_gives.5 c.loop-partition.invariant.made c.in-Some.ensures.steps c.in-Ok.ensures c.in_ok-insert-in-Ok.ensures.entries;
  ordered = c.insert.ensures.ordered;
}

pub returns : goal.returns
returns c = record {
  stored = made_all c.loop-partition.contents.entries c.loop-partition.partition-iterator c.args.loads.entries c.in-None.ensures.steps.0 c.loop-partition.invariant.made;
  ordered = c.loop-partition.invariant.ordered;
}
