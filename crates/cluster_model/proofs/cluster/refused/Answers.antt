use Rattle.std.proofs.Common.{rules}
use Rattle.cluster_model.proofs.Stores.{damaged_as}
use Rattle.cluster_model.proofs.cluster.refused.Goals as goal

pub returns-in-Damaged : goal.returns-in-Damaged
returns-in-Damaged c k f p h = damaged_as c.args.me c.number.result c.in-Damaged.at k f p c.in-Damaged.field-0 c.args.error.now h (search rules)
