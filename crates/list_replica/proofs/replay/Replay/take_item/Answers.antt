use Rattle.std.proofs.Common.{sym, subst}
use Rattle.std.proofs.lemmas.Result.{on_ok_weaker}
use Rattle.std.specs.BTreeMap.{IsOrdered}
use Rattle.changes.specs.Order.{partition_cmp}
use Rattle.row_change.specs.declared.entry.LogItem.{LogItem}
use Rattle.list_replica.specs.Replays.{ShowsItem}
use Rattle.list_replica.specs.Staging.{Map}
use Rattle.list_replica.proofs.Replaying.{data_shows, purge_shows, ceiling_shows}
use Rattle.list_replica.proofs.replay.Replay.take_item.Goals as goal

pub returns-in-Data-clause-shows : goal.returns-in-Data-clause-shows
returns-in-Data-clause-shows c =
    on_ok_weaker c.take_data.result (λ takes. subst (λ (i : LogItem). ShowsItem i c.args.self.now (record c.args.self.now { contents = c.take_data.new.loads })) (sym c.in-Data.is) (data_shows c.args.self.now c.take_data.new.loads c.in-Data.at c.in-Data.mutation takes c.take_data.ensures.ordered)) c.take_data.ensures.takes

pub returns-in-Paxos-clause-ordered : goal.returns-in-Paxos-clause-ordered
returns-in-Paxos-clause-ordered c = subst (λ (m : Map). IsOrdered partition_cmp m) (sym c.set_row.ensures.contents) c.requires

pub returns-in-HintAdd-clause-ordered : goal.returns-in-HintAdd-clause-ordered
returns-in-HintAdd-clause-ordered c = subst (λ (m : Map). IsOrdered partition_cmp m) (sym c.add_hint.ensures.contents) c.requires

pub returns-in-HintGone-clause-ordered : goal.returns-in-HintGone-clause-ordered
returns-in-HintGone-clause-ordered c = subst (λ (m : Map). IsOrdered partition_cmp m) (sym c.remove_hint.ensures.contents) c.requires

pub returns-in-Mark-clause-ordered : goal.returns-in-Mark-clause-ordered
returns-in-Mark-clause-ordered c = subst (λ (m : Map). IsOrdered partition_cmp m) (sym c.add_mark.ensures.contents) c.requires

pub returns-in-Ceiling-clause-shows : goal.returns-in-Ceiling-clause-shows
returns-in-Ceiling-clause-shows c =
    subst (λ (i : LogItem). ShowsItem i c.args.self.now (record c.args.self.now { ceiling = c.in-Ceiling.time })) (sym c.in-Ceiling.is) (ceiling_shows c.args.self.now c.in-Ceiling.time)

pub returns-in-Purge-clause-shows : goal.returns-in-Purge-clause-shows
returns-in-Purge-clause-shows c =
    on_ok_weaker c.let_go-gone.result (λ gone. subst (λ (i : LogItem). ShowsItem i c.args.self.now (record c.args.self.now { contents = c.let_go-gone.new.loads })) (sym c.in-Purge.is) (purge_shows c.args.self.now c.let_go-gone.new.loads c.in-Purge.change gone c.let_go-gone.ensures.ordered)) c.let_go-gone.ensures.gone

pub returns-in-Paxos-clause-shows : goal.returns-in-Paxos-clause-shows
returns-in-Paxos-clause-shows c = on_ok_weaker c.set_row.result (λ shows. subst (λ (i : LogItem). ShowsItem i c.args.self.now c.set_row.new.self) (sym c.in-Paxos.is) shows) c.set_row.ensures.shows

pub returns-in-HintAdd-clause-shows : goal.returns-in-HintAdd-clause-shows
returns-in-HintAdd-clause-shows c = on_ok_weaker c.add_hint.result (λ shows. subst (λ (i : LogItem). ShowsItem i c.args.self.now c.add_hint.new.self) (sym c.in-HintAdd.is) shows) c.add_hint.ensures.shows

pub returns-in-HintGone-clause-shows : goal.returns-in-HintGone-clause-shows
returns-in-HintGone-clause-shows c = on_ok_weaker c.remove_hint.result (λ shows. subst (λ (i : LogItem). ShowsItem i c.args.self.now c.remove_hint.new.self) (sym c.in-HintGone.is) shows) c.remove_hint.ensures.shows

pub returns-in-Mark-clause-shows : goal.returns-in-Mark-clause-shows
returns-in-Mark-clause-shows c = on_ok_weaker c.add_mark.result (λ shows. subst (λ (i : LogItem). ShowsItem i c.args.self.now c.add_mark.new.self) (sym c.in-Mark.is) shows) c.add_mark.ensures.shows
