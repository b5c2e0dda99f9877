use Rattle.served_run.proofs.assigning.assign_next.Goals as goal

pub returns : goal.returns
returns g c = record {
  jobs = record { group = c.in_ok-group.group; all = c.in_ok-append.ensures.items; is_next = c.in_ok-group.ensures };
  operated = record { item = c.operated_at.result; all = c.in_ok-push.ensures.items; is_next = c.operated_at.ensures };
}
