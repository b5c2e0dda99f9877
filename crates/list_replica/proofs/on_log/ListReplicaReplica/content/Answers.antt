use Rattle.std.proofs.Common.{refl}
use Rattle.list_replica.specs.Memtables.{kept_in}
use Rattle.list_replica.proofs.Wholeness.{leaves_same, between_as}
use Rattle.list_replica.proofs.on_log.ListReplicaReplica.content.Goals as goal

pub returns-in_err-between-clause-looked : goal.returns-in_err-between-clause-looked
returns-in_err-between-clause-looked g c = λ honest. record { same = refl; leaves = leaves_same g.S.Store.is_honest (g.S.Store.disk c.args.self.now.store) c.args.self.now.log c.args.self.now.memtable c.args.self.now.since_flush honest c.requires.whole }

pub returns-clause-content : goal.returns-clause-content
returns-clause-content g c =
    λ honest. between_as c.args.self.now.memtable.contents c.contents.result.now (kept_in c.args.self.now.memtable) c.args.partition.now c.args.from.now c.args.upto.now c.in_ok-between.field-0 c.contents.ensures c.requires.whole.sound.content c.in_ok-between.ensures

pub returns-clause-looked : goal.returns-clause-looked
returns-clause-looked g c = λ honest. record { same = refl; leaves = leaves_same g.S.Store.is_honest (g.S.Store.disk c.args.self.now.store) c.args.self.now.log c.args.self.now.memtable c.args.self.now.since_flush honest c.requires.whole }
