use Rattle.std.proofs.Common.{◌∙◌, refl}
use Rattle.list_replica.proofs.Replaying.{kept_of, in_order}
use Rattle.list_replica.proofs.replay.Replay.finish.Goals as goal

pub returns-clause-kept : goal.returns-clause-kept
returns-clause-kept c =
    kept_of c.args.self _ refl (c.from_vec.ensures ∙ c.in_ok-rows.ensures.items) c.from_vec-2.ensures (c.from_vec-3.ensures ∙ c.in_ok-numbers.ensures.items) c.from_vec-4.ensures

pub returns-clause-in_order : goal.returns-clause-in_order
returns-clause-in_order c =
    in_order c.args.self _ (c.from_vec.ensures ∙ c.in_ok-rows.ensures.items) (c.from_vec-3.ensures ∙ c.in_ok-numbers.ensures.items) c.list_rows.ensures.ordered c.list_numbers.ensures.ordered
