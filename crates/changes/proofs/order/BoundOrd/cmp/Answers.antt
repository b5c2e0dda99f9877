use Rattle.std.proofs.Common.{sym, ap, ◌∙◌}
use Rattle.changes.specs.Tests.{is_past}
use Rattle.changes.proofs.Signs.{past_above, past_below, bytes_above, bytes_below, sides_tell}
use Rattle.changes.proofs.order.BoundOrd.cmp.Goals as goal

pub returns-then-is_past : goal.returns-then-is_past
returns-then-is_past c = sym (past_above c.args.self.now c.args.other.now (sym c.in-Less.ensures) (ap (is_past c.args.self.now) (sym c.as_slice.ensures) ∙ sym c.if-is_past.ensures))

pub returns-else-is_past : goal.returns-else-is_past
returns-else-is_past c = sym (bytes_below c.args.self.now c.args.other.now (sym c.in-Less.ensures) (ap (is_past c.args.self.now) (sym c.as_slice.ensures) ∙ sym c.if-is_past.ensures))

pub returns-in-Equal : goal.returns-in-Equal
returns-in-Equal c = c.cmp-in-Equal.ensures ∙ sym (sides_tell c.args.self.now c.args.other.now (sym c.in-Equal.ensures))

pub returns-then-is_past-2 : goal.returns-then-is_past-2
returns-then-is_past-2 c = sym (past_below c.args.self.now c.args.other.now (sym c.in-Greater.ensures) (ap (is_past c.args.other.now) (sym c.as_slice-in-Greater.ensures) ∙ sym c.if-is_past-2.ensures))

pub returns-else-is_past-2 : goal.returns-else-is_past-2
returns-else-is_past-2 c = sym (bytes_above c.args.self.now c.args.other.now (sym c.in-Greater.ensures) (ap (is_past c.args.other.now) (sym c.as_slice-in-Greater.ensures) ∙ sym c.if-is_past-2.ensures))
