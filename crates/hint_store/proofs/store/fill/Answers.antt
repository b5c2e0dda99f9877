use Rattle.std.proofs.Common.{◌++◌, ◌∷◌, [], ◌∙◌}
use Rattle.std.specs.Prelude.{◌==◌}
use Rattle.std.specs.Map.{values_of}
use Rattle.std.specs.Vec.Iter.{into_iter_items}
use Rattle.std.proofs.lemmas.List.Elements.{filter-append}
use Rattle.hint_store.proofs.Staging.{split_more, own_more, count_on}
use Rattle.hint_store.proofs.store.fill.Goals as goal

pub loop-hint-preserved : goal.loop-hint-preserved
loop-hint-preserved c = record {
  split = split_more c.args.hints.items c.loop-hint.yielded (into_iter_items c.loop-hint.hint-iterator) (into_iter_items c.next.new.self) c.in-Some.hint c.loop-hint.invariant.split c.in-Some.ensures.steps.0;
  own = λ peer. own_more c.loop-hint.yielded c.in-Some.hint (values_of c.loop-hint.table.entries) (values_of c.take_in.new.table.entries) peer (c.in_ok-take_in.ensures.hints peer) (c.loop-hint.invariant.own peer);
  count = λ peer.
      count_on c.in-Some.hint c.loop-hint.tally.count c.take_in.new.tally.count c.loop-hint.yielded (c.loop-hint.yielded ++ c.in-Some.hint ∷ []) peer c.in_ok-take_in.ensures.count
      (filter-append (λ h. h.peer == peer) c.loop-hint.yielded (c.in-Some.hint ∷ [])) (c.loop-hint.invariant.count peer);
  last = c.take_in.ensures.last ∙ c.loop-hint.invariant.last;
}
