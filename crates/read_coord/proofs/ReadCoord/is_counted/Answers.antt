use Rattle.std.proofs.Common.{sym, ◌∙◌}
use Rattle.node_steps.specs.Reads.{heard_by}
use Rattle.read_coord.proofs.Hearing.{counted_then, counted_else}
use Rattle.read_coord.proofs.ReadCoord.is_counted.Goals as goal

pub returns-then-has_replied : goal.returns-then-has_replied
returns-then-has_replied c =
    counted_then c.args.self.now.mending (heard_by c.args.self.now) c.args.node c.is_awaited.result (sym c.has_replied.ensures ∙ c.if-has_replied.true) c.is_awaited.ensures

pub returns-else-has_replied : goal.returns-else-has_replied
returns-else-has_replied c = c.if-has_replied.false ∙ counted_else c.args.self.now.mending (heard_by c.args.self.now) c.args.node (sym c.has_replied.ensures ∙ c.if-has_replied.false)
