use Rattle.std.proofs.Common.{List, subst}
use Rattle.peer_messages.specs.declared.chronicle.Entry.{Entry}
use Rattle.chronicle_print.specs.Printed.{IsInPrint}
use Rattle.script_program.proofs.RunLaws.{in_print}
use Rattle.script_program.proofs.run.run.Goals as goal

pub returns : goal.returns
returns g c =
    let text = c.in_ok-text.text in
    in_print c.args.script.now text.items c.tables.result.now c.in_ok-setting_of.field-0 c.in_ok-cluster.cluster c.play.new.cluster c.as_slice.result.now c.in_ok-play.ensures.keeps c.in_ok-setting_of.ensures c.in_ok-cluster.ensures c.as_slice.ensures c.tables.ensures
    c.in_ok-play.ensures.plays c.chronicle.ensures.reached c.chronicle.ensures.right c.chronicle.ensures.forward c.chronicle.ensures.causes
    (subst (λ (es : List Entry). IsInPrint c.tables.result.now es text.items) c.chronicle.ensures.entries c.in_ok-text.ensures)
