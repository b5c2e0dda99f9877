use Rattle.std.proofs.Common.{Err, sym, ap, subst}
use Rattle.cs_store.specs.Disk.{Disk}
use Rattle.cs_store.specs.Mem.{disk_of}
use Rattle.cluster_model.specs.Sites.{keeper}
use Rattle.cluster_model.proofs.Stores.{same_disk, still_settled, still_left, told_nothing}
use Rattle.cluster_model.proofs.seat.load.Goals as goal

pub load-requires : goal.load-requires
load-requires g c = record { settled = λ honest. still_settled c.args.store c.tell_all.new.store c.tell_all.ensures.disk c.requires.1.settled }

pub unreachable-requires : goal.unreachable-requires
unreachable-requires g c =
    let m = keeper g.R.Replica.stands_for g.R.Replica.durable g.R.Replica.disk g.R.Replica.is_whole in
    let left = c.requires.1.stands in
    let stands = subst (λ (d : Disk). m.stands_for d.seen left.kept) (sym (same_disk c.args.store c.tell_all.new.store c.tell_all.ensures.disk)) left.stands in
    g.met.R.Replica.stand_undamaged (disk_of c.tell_all.new.store).seen left.kept c.in-Err-Damaged.field-0-1 c.in-Err-Damaged.field-0-2 stands
    (c.in-Err-Damaged.ensures.damaged c.in-Err-Damaged.field-0-0 c.in-Err-Damaged.field-0-1 c.in-Err-Damaged.field-0-2 (ap Err c.in-Err-Damaged.field-0-is) tt)

pub returns-in-Ok : goal.returns-in-Ok
returns-in-Ok g c =
    let m = keeper g.R.Replica.stands_for g.R.Replica.durable g.R.Replica.disk g.R.Replica.is_whole in (
      record {
        found = subst (λ (d : Disk). m.stands_for d.seen (m.durable c.in-Ok.node.replica)) (same_disk c.args.store c.tell_all.new.store c.tell_all.ensures.disk) (c.in-Ok.ensures.found tt);
        state = c.in-Ok.ensures.state tt;
        setting = c.in-Ok.ensures.core.1;
        me = c.in-Ok.ensures.core.0;
        ready = record { runs = c.in-Ok.ensures.core.2; whole = c.in-Ok.ensures.whole; tied = c.in-Ok.ensures.tied tt };
      },
      λ none. (c.in-Ok.ensures.surely (told_nothing c.args.store c.tell_all.new.store c.args.told.now c.tell_all.ensures.plan c.tell_all.ensures.stopped none c.requires.1.sure)).1,
    )

pub returns-in-Err-Failed : goal.returns-in-Err-Failed
returns-in-Err-Failed g c =
    let m = keeper g.R.Replica.stands_for g.R.Replica.durable g.R.Replica.disk g.R.Replica.is_whole in
    let is = ap Err c.in-Err-Failed.field-0-is in (
      still_left m c.args.store c.tell_all.new.store c.in-Err-Failed.store c.reopened.result c.tell_all.ensures.disk (λ d stands. c.in-Err-Failed.ensures.any_moment_failed c.in-Err-Failed.store is tt d stands) c.reopened.ensures,
      λ none. (c.in-Err-Failed.ensures.surely (told_nothing c.args.store c.tell_all.new.store c.args.told.now c.tell_all.ensures.plan c.tell_all.ensures.stopped none c.requires.1.sure)).0 c.in-Err-Failed.store is,
    )

pub returns-in-Err-NoMemory : goal.returns-in-Err-NoMemory
returns-in-Err-NoMemory g c =
    let m = keeper g.R.Replica.stands_for g.R.Replica.durable g.R.Replica.disk g.R.Replica.is_whole in
    let is = ap Err c.in-Err-NoMemory.field-0-is in
    still_left m c.args.store c.tell_all.new.store c.in-Err-NoMemory.store c.reopened-in-Err-NoMemory.result c.tell_all.ensures.disk (λ d stands. c.in-Err-NoMemory.ensures.any_moment_no_memory c.in-Err-NoMemory.store is tt d stands) c.reopened-in-Err-NoMemory.ensures
