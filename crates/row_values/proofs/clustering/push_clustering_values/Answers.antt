use Rattle.std.proofs.Common.{◌∙◌, ap, sym}
use Rattle.row_values.proofs.Reading.{behind, skipped, taken, finished}
use Rattle.row_values.proofs.clustering.push_clustering_values.Goals.{then-is_clustering+in_ok-front+in_ok-push, else-is_clustering}
use Rattle.row_values.proofs.clustering.push_clustering_values.Goals as goal

pub loop-column-preserved : goal.loop-column-preserved
loop-column-preserved c =
    let old = c.args.values.now.items in
    let l = c.loop-column in
    let columns = c.args.columns.now in
    elim c.if-is_clustering.branch [
      | then-is_clustering+in_ok-front+in_ok-push w ↦
          taken old l.values.items c.if-is_clustering.values.items columns l.column-index c.column-item.result l.rest.now c.if-is_clustering.rest.now
          w.in_ok-front.front.value w.in_ok-front.front.len c.loop-column-test.true c.column-item.is (sym c.is_clustering.ensures ∙ w.if-is_clustering.true)
          w.in_ok-front.ensures (ap (λ v. v.items) w.values-is ∙ w.in_ok-push.ensures.items) (ap (λ r. r.now) w.rest-is ∙ behind w.in_ok-front.front.len l.rest.now) l.invariant
      | else-is_clustering w ↦
          skipped old l.values.items c.if-is_clustering.values.items columns l.column-index c.column-item.result l.rest.now c.if-is_clustering.rest.now
          c.loop-column-test.true c.column-item.is (sym c.is_clustering.ensures ∙ w.if-is_clustering.false)
          (ap (λ v. v.items) w.values-is) (ap (λ r. r.now) w.rest-is) l.invariant
    ]

pub returns : goal.returns
returns c =
    finished c.args.values.now.items c.loop-column.values.items c.args.columns.now c.loop-column.column-index c.loop-column.rest.now c.loop-column-test.false c.loop-column.invariant
