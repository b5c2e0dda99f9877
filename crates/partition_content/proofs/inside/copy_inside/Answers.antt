use Rattle.partition_content.specs.Partition.{place_of_keys}
use Rattle.partition_content.specs.Slots.{helds_of, spots_in}
use Rattle.partition_content.proofs.SweepLemmas.{inside_none}
use Rattle.partition_content.proofs.inside.copy_inside.Goals as goal

pub returns-in-Alone : goal.returns-in-Alone
returns-in-Alone c = inside_none (spots_in (helds_of c.args.slots.now)) c.args.onto.now.items c.args.own.now (place_of_keys c.args.own.now) c.requires c.in-Alone.is
