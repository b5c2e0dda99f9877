use Rattle.std.proofs.Common.{◌∙◌, ap, drop, min, List}
use Rattle.changes.specs.declared.Held.{Held}
use Rattle.cell_merge.specs.Tests.{is_behind_bound, is_before_bound}
use Rattle.cell_merge.proofs.InOrder.{passes_between}
use Rattle.cell_merge.proofs.lists.rows_between.Goals as goal

pub returns : goal.returns
returns c =
    c.split_at-2.ensures.back ∙ ap (λ (l : List Held). drop c.min-start.result l) c.split_at.ensures.front
    ∙ passes_between (λ (x : Held). is_behind_bound c.args.from.now x.place) (λ (x : Held). is_before_bound c.args.upto.now x.place) c.args.changes.now c.rows_start.result c.rows_end.result c.min-start.result c.rows_start.ensures.point
    c.rows_end.ensures.point c.rows_end.ensures.bound (c.min-start.ensures ∙ ap (min c.rows_start.result) c.split_at.ensures.front_len)
