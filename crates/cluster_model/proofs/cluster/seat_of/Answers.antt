use Rattle.std.proofs.Common.{rules, ◌≡◌, Err, refl, ap}
use Rattle.cs_store.specs.Mem.{disk_of}
use Rattle.cluster_model.specs.Sites.{keeper}
use Rattle.cluster_model.specs.declared.error.ClusterError.TheVariants as cluster_error
use Rattle.cluster_model.proofs.Stores.{kept_read, never_fails}
use Rattle.cluster_model.proofs.cluster.seat_of.Goals as goal

pub returns-in-Ok-clause-seat : goal.returns-in-Ok-clause-seat
returns-in-Ok-clause-seat g c =
    let m = keeper g.R.Replica.stands_for g.R.Replica.durable g.R.Replica.disk g.R.Replica.is_whole in
    let sure = never_fails c.crash.new.self c.crash.ensures.sure in
    record {
      node = c.in-Ok.node;
      is = (refl, search rules, c.new-in-Ok.ensures.items);
      stands = record {
        kept = m.durable c.in-Ok.node.replica;
        files = (disk_of c.crash.new.self).seen;
        read = kept_read c.args.store c.crash.new.self c.crash.ensures.files;
        stands = c.in-Ok.ensures.found tt;
        is = c.in-Ok.ensures.state tt;
      };
      setting = c.in-Ok.ensures.core.1;
      me = c.in-Ok.ensures.core.0;
      ready = record { runs = c.in-Ok.ensures.core.2; whole = c.in-Ok.ensures.whole; tied = c.in-Ok.ensures.tied tt };
      sure = (c.in-Ok.ensures.surely sure).1;
    }

pub returns-in-Err-clause-damaged : goal.returns-in-Err-clause-damaged
returns-in-Err-clause-damaged g c = λ k f p is.
    let same : c.refused.result ≡ cluster_error.Damaged k f p = cc in
    let from = c.refused.ensures k f p same in
    (from.0, ((disk_of c.crash.new.self).seen, kept_read c.args.store c.crash.new.self c.crash.ensures.files, c.in-Err.ensures.damaged from.1.0 f p (ap Err from.1.1) tt))
