use Rattle.partition_content.proofs.RowLemmas.{key_at}
use Rattle.partition_content.proofs.LossLemmas.{narrow_keys}
use Rattle.partition_content.proofs.losing.lost_by.Goals as goal

pub lost_at-requires-clause-at : goal.lost_at-requires-clause-at
lost_at-requires-clause-at c = key_at c.args.own.now c.args.x.now.place c.requires.keys

pub lost_at-requires-clause-narrow : goal.lost_at-requires-clause-narrow
lost_at-requires-clause-narrow c = narrow_keys c.args.own.now c.args.x.now.place c.requires.keys c.in-Alone.is
