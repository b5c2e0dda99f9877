use Rattle.std.proofs.Common.{refl, ◌∙◌}
use Rattle.node_core.specs.contracts.due.DueKeyOrd.TheImpl.{cmp-value}
use Rattle.node_core.proofs.DueKeys.{put_as, same_orders}
use Rattle.node_core.proofs.due.put.Goals as goal

pub returns : goal.returns
returns c = c.in_ok-insert.ensures.keys ∙ put_as cmp-value.it c.args.due.now.keys c.args.key (same_orders cmp-value.it (λ a b. refl) (λ a b. refl) (λ a b. refl) (λ a b. refl) c.args.key)
