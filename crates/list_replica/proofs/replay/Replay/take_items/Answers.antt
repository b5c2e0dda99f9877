use Rattle.std.proofs.Common.{◌≡◌, ◌∙◌, List, [], refl, subst}
use Rattle.std.specs.Vec.Iter.{into_iter_items, into_iter_len}
use Rattle.row_change.specs.declared.entry.LogItem.{LogItem}
use Rattle.list_replica.specs.Replays.{ShowsItems}
use Rattle.list_replica.proofs.Gathering.{split_more, nothing_left, all_taken}
use Rattle.list_replica.proofs.Replaying.{shows_none, shows_more}
use Rattle.list_replica.proofs.replay.Replay.take_items.Goals as goal

pub loop-item-init : goal.loop-item-init
loop-item-init c = record { split = c.into_iter-item-iterator.ensures.into_iter_gives.0; shows = shows_none c.args.self.now; ordered = c.requires; replayed = refl }

pub loop-item-preserved : goal.loop-item-preserved
loop-item-preserved c = record {
  split = split_more c.args.items.items c.loop-item.yielded (into_iter_items c.loop-item.item-iterator) (into_iter_items c.next.new.self) c.in-Some.item c.loop-item.invariant.split c.in-Some.ensures.steps.0;
  shows = shows_more c.loop-item.yielded c.in-Some.item c.args.self.now c.loop-item.self c.take_item.new.self c.loop-item.invariant.shows c.in_ok-take_item.ensures.shows;
  ordered = c.take_item.ensures.ordered;
  replayed = c.take_item.ensures.replayed ∙ c.loop-item.invariant.replayed;
}

pub returns-in_err-take_item-clause-replayed : goal.returns-in_err-take_item-clause-replayed
returns-in_err-take_item-clause-replayed c = c.take_item.ensures.replayed ∙ c.loop-item.invariant.replayed

pub returns-clause-shows : goal.returns-clause-shows
returns-clause-shows c =
    let none : into_iter_items c.loop-item.item-iterator ≡ [] = nothing_left (into_iter_items c.loop-item.item-iterator) (into_iter_len c.loop-item.item-iterator) c.loop-item.item-iterator.rest.ok.0 c.in-None.ensures.steps.0 in
    subst (λ (l : List LogItem). ShowsItems l c.args.self.now c.loop-item.self) (all_taken c.args.items.items c.loop-item.yielded (into_iter_items c.loop-item.item-iterator) c.loop-item.invariant.split none) c.loop-item.invariant.shows
