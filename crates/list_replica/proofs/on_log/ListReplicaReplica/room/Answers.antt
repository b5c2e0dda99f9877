use Rattle.std.proofs.Common.{ap}
use Rattle.list_replica.specs.Keeping.{kept_by}
use Rattle.list_replica.proofs.Wholeness.{leaves_same, leaves_reserved}
use Rattle.list_replica.proofs.on_log.ListReplicaReplica.room.Goals as goal

pub returns-in_err-partition-clause-looked : goal.returns-in_err-partition-clause-looked
returns-in_err-partition-clause-looked g c =
    λ honest. record { same = ap kept_by c.stage.ensures.committed; leaves = leaves_same g.S.Store.is_honest (g.S.Store.disk c.args.self.now.store) c.args.self.now.log c.args.self.now.memtable c.args.self.now.since_flush honest c.requires.whole }

pub returns-in-Some-clause-looked : goal.returns-in-Some-clause-looked
returns-in-Some-clause-looked g c =
    λ honest. record { same = ap kept_by c.stage.ensures.committed; leaves = leaves_same g.S.Store.is_honest (g.S.Store.disk c.args.self.now.store) c.args.self.now.log c.args.self.now.memtable c.args.self.now.since_flush honest c.requires.whole }

pub returns-in-Ok-clause-looked : goal.returns-in-Ok-clause-looked
returns-in-Ok-clause-looked g c =
    λ honest. record {
      same = ap kept_by c.stage.ensures.committed;
      leaves = leaves_reserved g.S.Store.is_honest (g.S.Store.disk c.args.self.now.store) (g.S.Store.disk c.reserve.new.store) c.args.self.now.log c.args.self.now.memtable c.args.self.now.since_flush honest c.requires.whole c.reserve.ensures.any_moment;
    }

pub returns-in-Err-Full-clause-looked : goal.returns-in-Err-Full-clause-looked
returns-in-Err-Full-clause-looked g c =
    λ honest. record {
      same = ap kept_by c.stage.ensures.committed;
      leaves = leaves_reserved g.S.Store.is_honest (g.S.Store.disk c.args.self.now.store) (g.S.Store.disk c.reserve.new.store) c.args.self.now.log c.args.self.now.memtable c.args.self.now.since_flush honest c.requires.whole c.reserve.ensures.any_moment;
    }

pub returns-in-Err-NoMemory-clause-looked : goal.returns-in-Err-NoMemory-clause-looked
returns-in-Err-NoMemory-clause-looked g c =
    λ honest. record {
      same = ap kept_by c.stage.ensures.committed;
      leaves = leaves_reserved g.S.Store.is_honest (g.S.Store.disk c.args.self.now.store) (g.S.Store.disk c.reserve.new.store) c.args.self.now.log c.args.self.now.memtable c.args.self.now.since_flush honest c.requires.whole c.reserve.ensures.any_moment;
    }
