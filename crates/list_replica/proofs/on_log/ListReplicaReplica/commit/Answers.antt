use Rattle.std.proofs.Common.{ℕ, ◌≤◌, Option, arith, sym, subst}
use Rattle.std.specs.Prelude.{IfSome}
use Rattle.list_replica.proofs.Wholeness.{leaves_appended, whole_appended, safe_appended, keeps_appended}
use Rattle.list_replica.proofs.on_log.ListReplicaReplica.commit.Goals as goal

pub returns-in_err-append-clause-any_moment : goal.returns-in_err-append-clause-any_moment
returns-in_err-append-clause-any_moment g c =
    λ honest. leaves_appended g.S.Store.is_honest (g.S.Store.disk c.args.self.now.store) (g.S.Store.disk c.append.new.store) c.args.self.now.log c.args.self.now.memtable c.args.self.now.since_flush c.args.entry.now honest c.requires.whole c.append.ensures.any_moment

pub returns-in_err-append-clause-surely : goal.returns-in_err-append-clause-surely
returns-in_err-append-clause-surely g c m n more spares = cc ((c.in_err-append.ensures.surely m n more spares).0)

pub returns-in-Some-clause-ok : goal.returns-in-Some-clause-ok
returns-in-Some-clause-ok g c =
    λ honest. record {
      keeps = keeps_appended c.args.self.now.memtable c.take_in.new.self c.args.entry.now c.take_in.ensures.committed;
      safe = safe_appended g.S.Store.is_honest (g.S.Store.disk c.args.self.now.store) (g.S.Store.disk c.append.new.store) c.args.self.now.log c.append.new.self c.args.self.now.memtable c.take_in.new.self c.args.self.now.since_flush c.args.entry.now honest c.requires.whole c.append.ensures.file
          c.in_ok-append.ensures.acknowledged c.in_ok-append.ensures.at_rest c.in_ok-append.ensures.settled c.take_in.ensures.sound c.take_in.ensures.committed;
      leaves = leaves_appended g.S.Store.is_honest (g.S.Store.disk c.args.self.now.store) (g.S.Store.disk c.append.new.store) c.args.self.now.log c.args.self.now.memtable c.args.self.now.since_flush c.args.entry.now honest c.requires.whole c.append.ensures.any_moment;
    }

pub returns-in-Some-clause-whole : goal.returns-in-Some-clause-whole
returns-in-Some-clause-whole g c =
    whole_appended g.S.Store.is_honest (g.S.Store.disk c.args.self.now.store) (g.S.Store.disk c.append.new.store) c.args.self.now.log c.append.new.self c.args.self.now.memtable c.take_in.new.self c.args.self.now.since_flush _ c.args.entry.now c.requires.whole c.append.ensures.file
    c.in_ok-append.ensures.acknowledged c.in_ok-append.ensures.at_rest c.in_ok-append.ensures.settled c.take_in.ensures.sound c.take_in.ensures.committed (let le : c.in-Some.added ≤ c.args.self.now.log.place.gate = subst (λ (o : Option ℕ). IfSome o (λ n. n ≤ c.args.self.now.log.place.gate)) c.in-Some.is c.requires.whole.added in omega (arith, le, c.in_ok-append.ensures.gate, c.len-before.ensures, c.len.ensures))

pub returns-in-Some-clause-any_moment : goal.returns-in-Some-clause-any_moment
returns-in-Some-clause-any_moment g c =
    λ honest. leaves_appended g.S.Store.is_honest (g.S.Store.disk c.args.self.now.store) (g.S.Store.disk c.append.new.store) c.args.self.now.log c.args.self.now.memtable c.args.self.now.since_flush c.args.entry.now honest c.requires.whole c.append.ensures.any_moment

pub returns-in_default-clause-ok : goal.returns-in_default-clause-ok
returns-in_default-clause-ok g c =
    λ honest. record {
      keeps = keeps_appended c.args.self.now.memtable c.take_in.new.self c.args.entry.now c.take_in.ensures.committed;
      safe = safe_appended g.S.Store.is_honest (g.S.Store.disk c.args.self.now.store) (g.S.Store.disk c.append.new.store) c.args.self.now.log c.append.new.self c.args.self.now.memtable c.take_in.new.self c.args.self.now.since_flush c.args.entry.now honest c.requires.whole c.append.ensures.file
          c.in_ok-append.ensures.acknowledged c.in_ok-append.ensures.at_rest c.in_ok-append.ensures.settled c.take_in.ensures.sound c.take_in.ensures.committed;
      leaves = leaves_appended g.S.Store.is_honest (g.S.Store.disk c.args.self.now.store) (g.S.Store.disk c.append.new.store) c.args.self.now.log c.args.self.now.memtable c.args.self.now.since_flush c.args.entry.now honest c.requires.whole c.append.ensures.any_moment;
    }

pub returns-in_default-clause-whole : goal.returns-in_default-clause-whole
returns-in_default-clause-whole g c =
    whole_appended g.S.Store.is_honest (g.S.Store.disk c.args.self.now.store) (g.S.Store.disk c.append.new.store) c.args.self.now.log c.append.new.self c.args.self.now.memtable c.take_in.new.self c.args.self.now.since_flush _ c.args.entry.now c.requires.whole c.append.ensures.file
    c.in_ok-append.ensures.acknowledged c.in_ok-append.ensures.at_rest c.in_ok-append.ensures.settled c.take_in.ensures.sound c.take_in.ensures.committed (subst (λ (o : Option ℕ). IfSome o (λ n. n ≤ c.append.new.self.place.gate)) (sym c.in_default.is) tt)

pub returns-in_default-clause-any_moment : goal.returns-in_default-clause-any_moment
returns-in_default-clause-any_moment g c =
    λ honest. leaves_appended g.S.Store.is_honest (g.S.Store.disk c.args.self.now.store) (g.S.Store.disk c.append.new.store) c.args.self.now.log c.args.self.now.memtable c.args.self.now.since_flush c.args.entry.now honest c.requires.whole c.append.ensures.any_moment
