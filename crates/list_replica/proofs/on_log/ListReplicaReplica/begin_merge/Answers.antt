use Rattle.std.proofs.Common.{refl}
use Rattle.list_replica.proofs.Wholeness.{leaves_same}
use Rattle.list_replica.proofs.on_log.ListReplicaReplica.begin_merge.Goals as goal

pub returns-clause-looked : goal.returns-clause-looked
returns-clause-looked g c = λ honest. record { same = refl; leaves = leaves_same g.S.Store.is_honest (g.S.Store.disk c.args.self.now.store) c.args.self.now.log c.args.self.now.memtable c.args.self.now.since_flush honest c.requires.whole }
