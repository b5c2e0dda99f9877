use Rattle.std.proofs.Common.{◌∙◌, ◌∷◌, [], sym, subst}
use Rattle.row_values.specs.Texts.{Extends}
use Rattle.row_values.specs.Values.{cell_value}
use Rattle.row_values.specs.declared.literals.Literals.{Literals}
use Rattle.row_values.proofs.TextLaws.{other_skipped, other_taken, others_end}
use Rattle.row_values.proofs.lines.push_other_literals.Goals.{then-not-is_key+in_ok-push_cell_literal, else-not-is_key}
use Rattle.row_values.proofs.lines.push_other_literals.Goals as goal

pub loop-number-preserved : goal.loop-number-preserved
loop-number-preserved c =
    let old = c.args.literals.now in
    let l = c.loop-number in
    let column = c.index-columns-number.result in
    let columns = c.args.columns.now in
    let cells = c.args.cells.now in
    elim c.if-not-is_key.branch [
      | then-not-is_key+in_ok-push_cell_literal w ↦
          other_taken columns cells old l.literals c.if-not-is_key.literals l.number column c.loop-number-test.true c.index-columns-number.is
          (sym c.is_key.ensures ∙ w.if-not-is_key.true)
          (subst (λ (next : Literals). Extends (cell_value cells l.number column.ty ∷ []) l.literals next) (sym w.literals-is) w.in_ok-push_cell_literal.ensures) l.invariant
      | else-not-is_key w ↦
          other_skipped columns cells old l.literals c.if-not-is_key.literals l.number column c.loop-number-test.true c.index-columns-number.is
          (sym c.is_key.ensures ∙ w.if-not-is_key.false) w.literals-is l.invariant
    ]

pub returns : goal.returns
returns c =
    others_end c.args.columns.now c.args.cells.now c.args.literals.now c.loop-number.literals c.loop-number.number c.loop-number-test.false c.loop-number.invariant
