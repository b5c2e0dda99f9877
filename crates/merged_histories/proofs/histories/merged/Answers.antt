use Rattle.merged_histories.proofs.Whole.{result_merged}
use Rattle.merged_histories.proofs.histories.merged.Goals as goal

pub returns : goal.returns
returns c = result_merged (λ v. v.items) c.without_times.result c.args.histories.now c.in_ok-all_timed.field-0.items c.ahead_is_a_tick.ensures.known c.ahead_is_a_tick.ensures.steps c.in_ok-all_timed.ensures c.without_times.ensures
