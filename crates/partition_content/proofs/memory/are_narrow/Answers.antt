use Rattle.std.proofs.Common.{rules, tests}
use Rattle.std.proofs.lemmas.Iterator.Search.{all_from_yields_List}
use Rattle.std.proofs.lemmas.Iterator.{YieldsList-from_slice}
use Rattle.partition_content.specs.Partition.{is_narrow}
use Rattle.partition_content.proofs.memory.are_narrow.Goals as goal

pub returns : goal.returns
returns c =
    all_from_yields_List is_narrow _ _ c.all.result c.all.ensures.ran (YieldsList-from_slice c.args.changes.now cc) (λ x b q k. search (rules, tests))
