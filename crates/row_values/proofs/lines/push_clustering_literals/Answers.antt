use Rattle.std.proofs.Common.{◌∙◌, ◌∷◌, [], ap, sym, subst}
use Rattle.row_values.specs.Texts.{Extends}
use Rattle.row_values.specs.declared.literals.Literals.{Literals}
use Rattle.row_values.proofs.Reading.{behind}
use Rattle.row_values.proofs.TextLaws.{read_starts, read_skipped, read_taken, read_ends}
use Rattle.row_values.proofs.lines.push_clustering_literals.Goals.{then-is_clustering+in_ok-len, else-is_clustering}
use Rattle.row_values.proofs.lines.push_clustering_literals.Goals as goal

pub loop-column-init : goal.loop-column-init
loop-column-init c = read_starts c.args.columns.now c.args.row.now c.args.literals.now

pub loop-column-preserved : goal.loop-column-preserved
loop-column-preserved c =
    let old = c.args.literals.now in
    let l = c.loop-column in
    let columns = c.args.columns.now in
    let row = c.args.row.now in
    elim c.if-is_clustering.branch [
      | then-is_clustering+in_ok-len w ↦
          let read = w.in_ok-len.ensures in
          read_taken columns row old l.literals c.if-is_clustering.literals l.column-index c.column-item.result l.rest.now c.if-is_clustering.rest.now read.0 w.in_ok-len.len
          c.loop-column-test.true c.column-item.is (sym c.is_clustering.ensures ∙ w.if-is_clustering.true) read.1
          (subst (λ (next : Literals). Extends (read.0 ∷ []) l.literals next) (sym w.literals-is) read.2)
          (ap (λ r. r.now) w.rest-is ∙ behind w.in_ok-len.len l.rest.now) l.invariant
      | else-is_clustering w ↦
          read_skipped columns row old l.literals c.if-is_clustering.literals l.column-index c.column-item.result l.rest.now c.if-is_clustering.rest.now
          c.loop-column-test.true c.column-item.is (sym c.is_clustering.ensures ∙ w.if-is_clustering.false) w.literals-is (ap (λ r. r.now) w.rest-is) l.invariant
    ]

pub returns : goal.returns
returns c =
    read_ends c.args.columns.now c.args.row.now c.args.literals.now c.loop-column.literals c.loop-column.column-index c.loop-column.rest.now c.loop-column-test.false c.loop-column.invariant
