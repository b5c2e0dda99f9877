use Rattle.std.proofs.Common.{refl}
use Rattle.list_replica.specs.Memtables.{kept_in}
use Rattle.list_replica.proofs.Wholeness.{leaves_same, listed_as}
use Rattle.list_replica.proofs.on_log.ListReplicaReplica.partitions.Goals as goal

pub returns-in_err-partitions-clause-looked : goal.returns-in_err-partitions-clause-looked
returns-in_err-partitions-clause-looked g c = λ honest. record { same = refl; leaves = leaves_same g.S.Store.is_honest (g.S.Store.disk c.args.self.now.store) c.args.self.now.log c.args.self.now.memtable c.args.self.now.since_flush honest c.requires.whole }

pub returns-clause-held : goal.returns-clause-held
returns-clause-held g c =
    λ honest. listed_as c.args.self.now.memtable.contents c.contents.result.now (kept_in c.args.self.now.memtable) c.args.range.now c.in_ok-partitions.field-0 c.contents.ensures c.requires.whole.sound.content c.in_ok-partitions.ensures.held

pub returns-clause-looked : goal.returns-clause-looked
returns-clause-looked g c = λ honest. record { same = refl; leaves = leaves_same g.S.Store.is_honest (g.S.Store.disk c.args.self.now.store) c.args.self.now.log c.args.self.now.memtable c.args.self.now.since_flush honest c.requires.whole }
