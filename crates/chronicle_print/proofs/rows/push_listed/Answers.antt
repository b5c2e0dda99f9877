use Rattle.std.proofs.Common.{◌++◌, List, ℕ, ap, ◌∙◌, append_assoc}
use Rattle.chronicle_print.proofs.RowLines.{are_row_lines}
use Rattle.chronicle_print.proofs.rows.push_listed.Goals as goal

pub returns : goal.returns
returns c =
    let pushed = c.in_ok-push_lines.ensures in (
      pushed.0,
      are_row_lines c.args.columns.now c.args.key.now c.args.listed.now c.args.rows.now pushed.0 pushed.1,
      pushed.2 ∙ ap (λ (out : List ℕ). out ++ pushed.0) c.in_ok-push_rows_line.ensures ∙ append_assoc c.args.out.now.items _ pushed.0,
    )
