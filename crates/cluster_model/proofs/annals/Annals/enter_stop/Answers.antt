use Rattle.std.proofs.Common.{List, ◌++◌, refl, ap, ◌∙◌}
use Rattle.peer_messages.specs.declared.chronicle.Entry.{Entry}
use Rattle.cluster_model.specs.Annals.{entries_of}
use Rattle.cluster_model.proofs.Pieced.{stop_entries}
use Rattle.cluster_model.proofs.annals.Annals.enter_stop.Goals as goal

pub returns : goal.returns
returns c asks = record {
  post = refl;
  mail = c.requires.mail;
  entries = c.enter_piece.ensures ∙ ap (λ (es : List Entry). entries_of c.args.self.now ++ es) (stop_entries c.args.node asks c.args.lost c.args.has_failed c.remaining.result c.remaining.ensures);
  passed = refl;
}
