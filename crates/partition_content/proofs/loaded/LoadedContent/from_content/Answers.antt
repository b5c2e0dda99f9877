use Rattle.partition_content.proofs.RunLemmas.{loaded_none}
use Rattle.partition_content.proofs.loaded.LoadedContent.from_content.Goals as goal

pub invariant_of-result : goal.invariant_of-result
invariant_of-result c = loaded_none c.new.result.items c.args.content c.new.ensures.items
