use Rattle.std.proofs.Common.{List, ◌++◌, ap, ◌∙◌}
use Rattle.peer_messages.specs.declared.chronicle.Entry.{Entry}
use Rattle.cluster_model.specs.Annals.{entries_of}
use Rattle.cluster_model.proofs.Pieced.{step_entries}
use Rattle.cluster_model.proofs.annals.Annals.enter_step.Goals as goal

pub returns : goal.returns
returns c asks = record {
  post = c.send.ensures.post;
  mail = c.send.ensures.holds;
  entries = c.enter_piece.ensures ∙ ap (λ (es : List Entry). entries_of c.args.self.now ++ es) (step_entries c.args.node asks c.args.outputs c.args.alive);
  passed = c.send.ensures.passed;
}
