use Rattle.std.proofs.Common.{List, refl, subst}
use Rattle.row_change.specs.declared.entry.LogItem.{LogItem}
use Rattle.std.proofs.lemmas.Result.{on_ok_weaker}
use Rattle.list_replica.specs.Replays.{ShowsItems}
use Rattle.list_replica.proofs.Replaying.{items_from}
use Rattle.list_replica.proofs.replay.Replay.take_entry.Goals as goal

pub returns-clause-shows : goal.returns-clause-shows
returns-clause-shows c =
    on_ok_weaker c.take_items.result
    (λ more. items_from c.args.self.now (record c.args.self.now { committed = c.and-self.result }) c.take_items.new.self c.args.entry.items refl refl refl refl refl refl
    (subst (λ (l : List LogItem). ShowsItems l (record c.args.self.now { committed = c.and-self.result }) c.take_items.new.self) c.into_vec.ensures more))
    c.take_items.ensures.shows
