use Rattle.std.proofs.Common.{sym, subst}
use Rattle.cluster_model.specs.Annals.{Enters}
use Rattle.cluster_model.specs.declared.turn.Turn.{Turn}
use Rattle.cluster_model.proofs.annals.Annals.enter.Goals as goal

pub returns-in-Stepped : goal.returns-in-Stepped
returns-in-Stepped c = subst (λ (t : Turn). Enters c.args.node c.args.is_ask t c.args.self.now c.enter_step.new.self) (sym c.in-Stepped.is) (c.enter_step.ensures c.args.is_ask)

pub returns-in-Stopped : goal.returns-in-Stopped
returns-in-Stopped c = subst (λ (t : Turn). Enters c.args.node c.args.is_ask t c.args.self.now c.enter_stop.new.self) (sym c.in-Stopped.is) (c.enter_stop.ensures c.args.is_ask)
