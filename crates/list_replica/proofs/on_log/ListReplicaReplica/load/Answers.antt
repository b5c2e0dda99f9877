use Rattle.std.proofs.Common.{◌∙◌, Err, arith, ap, refl, subst}
use Rattle.commit_log.specs.declared.error.LogError.{LogError}
use Rattle.durable_state.specs.State.{IsSameKept}
use Rattle.replica.specs.Finding.{AlwaysLeaves}
use Rattle.list_replica.specs.Keeping.{entries_of}
use Rattle.list_replica.specs.Memtables.{committed}
use Rattle.list_replica.specs.Standing.{StandsFor}
use Rattle.list_replica.proofs.HintFits.{loaded_fit}
use Rattle.list_replica.proofs.Wholeness.{stands_loaded, leaves_loaded}
use Rattle.list_replica.proofs.Refusing.{same_no_memory, same_failed}
use Rattle.list_replica.proofs.on_log.ListReplicaReplica.load.Goals as goal

pub returns-in-Ok-clause-durable : goal.returns-in-Ok-clause-durable
returns-in-Ok-clause-durable g c honest = stands_loaded (committed c.in-Ok.memtable) (entries_of (committed c.in-Ok.memtable)) (g.S.Store.disk c.args.store).seen c.log_file.result c.log_file.ensures refl (c.in-Ok.ensures.entries honest)

pub returns-in-Ok-clause-any_moment : goal.returns-in-Ok-clause-any_moment
returns-in-Ok-clause-any_moment g c honest d stands =
    leaves_loaded (g.S.Store.disk c.args.store) (g.S.Store.disk c.load_log.new.store) c.log_file.result c.log_file.ensures (c.load_log.ensures.any_moment honest) d stands

pub returns-in-Err-Failed-clause-any_moment_failed : goal.returns-in-Err-Failed-clause-any_moment_failed
returns-in-Err-Failed-clause-any_moment_failed g c s is honest d stands =
    subst (λ (t : g.row.S.Denot). AlwaysLeaves StandsFor (IsSameKept d) (g.S.Store.disk c.args.store) (g.S.Store.disk t)) (same_failed c.load_log.new.store s is)
    (leaves_loaded (g.S.Store.disk c.args.store) (g.S.Store.disk c.load_log.new.store) c.log_file.result c.log_file.ensures (c.load_log.ensures.any_moment honest) d stands)

pub returns-in-Err-NoMemory-clause-any_moment_no_memory : goal.returns-in-Err-NoMemory-clause-any_moment_no_memory
returns-in-Err-NoMemory-clause-any_moment_no_memory g c s is honest d stands =
    subst (λ (t : g.row.S.Denot). AlwaysLeaves StandsFor (IsSameKept d) (g.S.Store.disk c.args.store) (g.S.Store.disk t)) (same_no_memory c.load_log.new.store s is)
    (leaves_loaded (g.S.Store.disk c.args.store) (g.S.Store.disk c.load_log.new.store) c.log_file.result c.log_file.ensures (c.load_log.ensures.any_moment honest) d stands)

pub returns-in-Err-Failed-clause-surely : goal.returns-in-Err-Failed-clause-surely
returns-in-Err-Failed-clause-surely g c =
    λ all. absurd ((c.load_log.ensures.surely 4 0 (omega arith) (all 4)).0 (c.in-Err-Failed.is ∙ ap (λ (e : LogError). Err e) c.in-Err-Failed.field-0-is))

pub returns-in-Ok-clause-hints_fit : goal.returns-in-Ok-clause-hints_fit
returns-in-Ok-clause-hints_fit g c = loaded_fit (committed c.in-Ok.memtable) (entries_of (committed c.in-Ok.memtable)) c.in-Ok.kept c.in-Ok.ensures.fit refl c.in-Ok.ensures.kept
