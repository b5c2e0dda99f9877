use Rattle.served_theorem.proofs.Going.{is_served_run}
use Rattle.served_theorem.proofs.served_runs_are_runs.Goals as goal

pub returns : goal.returns
returns g c = λ host desk before now c' old new result full earlier served honest run held.
    is_served_run _ _ _ _ _ _ _ host desk _ c' old new result full c.histories_are_steps.ensures.gone g.met.R.Replica.stand_for_one served honest
    (record { reads = c.reads_are_right.ensures; forward = c.reads_go_forward.ensures; causes = c.answers_are_right.ensures })
    c.restarts_are_runs.ensures c.lawful_orders_are_runs.ensures c.merged_is_a_run.ensures.there c.merged_is_a_run.ensures.lawful c.merged_is_a_run.ensures.run
    (c.served_messages_were_sent.ensures host desk before now c' old new result full served) earlier run held
