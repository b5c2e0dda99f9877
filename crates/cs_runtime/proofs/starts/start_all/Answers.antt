use Rattle.std.proofs.Common.{sym, ◌∙◌, ap, rules}
use Rattle.cs_runtime.specs.Begun.{begun_of}
use Rattle.cs_runtime.specs.Jobs.{marked, next_start}
use Rattle.cs_runtime.proofs.Places.{starts_after-snoc, begins-one, goes-on, comes-to-end}
use Rattle.cs_runtime.proofs.starts.start_all.Goals as goal

pub loop-job-preserved : goal.loop-job-preserved
loop-job-preserved g c =
    let was = c.loop-job.invariant in
    let step = c.in-Some.ensures.steps in (
      begins-one begun_of c.args.failing.now c.args.starts c.loop-job.number c.saturating_add-number.result _ _ c.start.result c.loop-job.yielded c.in-Some.job c.contains-listed.result
          was.0 was.1 c.saturating_add-number.ensures c.contains-listed.ensures.value c.start.ensures c.push_reserved.ensures.items,
      c.saturating_add-number.ensures ∙ ap next_start was.1 ∙ sym (starts_after-snoc c.args.starts c.loop-job.yielded c.in-Some.job),
      goes-on c.loop-job.yielded _ _ _ c.in-Some.job was.2 step.0,
      search rules,
      search rules,
    )

pub returns-clause-jobs : goal.returns-clause-jobs
returns-clause-jobs g c =
    let was = c.loop-job.invariant in
    was.0 ∙ ap (marked c.args.failing.now c.args.starts) (comes-to-end c.loop-job.yielded _ _ was.2 (search rules))
