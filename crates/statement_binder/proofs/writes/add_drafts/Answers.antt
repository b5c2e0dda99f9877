use Rattle.std.proofs.Common.{◌++◌, ◌∙◌, List, ap, map-id, sym}
use Rattle.std.specs.Vec.Iter.{into_iter_items, into_iter_len}
use Rattle.std.proofs.lemmas.Iterator.Adapters.{YieldsList-from_vec}
use Rattle.std.proofs.lemmas.Iterator.Consumers.{YieldsList-end}
use Rattle.statement_binder.specs.declared.piece.Piece.{Piece}
use Rattle.statement_binder.specs.Plans.{drafts_of}
use Rattle.statement_binder.proofs.writes.add_drafts.Goals as goal

pub returns : goal.returns
returns c =
    let same = c.into_iter-piece-iterator.ensures.into_iter_gives in
    let gives = YieldsList-from_vec {s = c.into_iter-piece-iterator.result} (into_iter_items c.args.pieces) (ap into_iter_items same) (ap into_iter_len same ∙ c.args.pieces.rest.ok.0) in
    let all = YieldsList-end gives c.loop-piece.yielded c.loop-piece.piece-iterator c.loop-piece.yielded_by c.next.result c.next.new.self c.in-None.is c.next.ensures.steps in
    c.loop-piece.invariant ∙ ap (λ (ps : List Piece). c.args.drafts.now.items ++ drafts_of ps) (sym (map-id _) ∙ all.0)
