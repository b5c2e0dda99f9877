use Rattle.std.proofs.Common.{refl}
use Rattle.wired_node.proofs.Puts.{distinct_put}
use Rattle.wired_node.proofs.Taking.{refused, stop_made}
use Rattle.wired_node.proofs.linked.LinkedNode.take.Goals as goal

pub returns-in-Ok-clause-distinct : goal.returns-in-Ok-clause-distinct
returns-in-Ok-clause-distinct g c = distinct_put c.enter.result.0.sent.items c.args.self.now.senders.items c.enter.new.self.senders.items c.enter.ensures.put c.requires.distinct

pub returns-in-Err-clause-ok : goal.returns-in-Err-clause-ok
returns-in-Err-clause-ok g c =
    stop_made g.R.Disk.Store.is_honest g.R.Replica.stands_for _ _ c.args.call c.args.copy c.step-told.result c.of-seen.result.value c.in-Err.error c.after_error.result c.requires.copy c.of-seen.ensures c.in-Err.is c.requires.taken
    (λ l told. record { core = c.step-told.ensures.failed l told; counted = c.step-told.ensures.faults; cause = c.step-told.ensures.cause l told c.requires.taken.runs; halts = c.step-told.ensures.halts l told c.requires.taken.runs })
    refl refl c.after_error.ensures

pub returns-in-Err-clause-err : goal.returns-in-Err-clause-err
returns-in-Err-clause-err g c =
    refused g.R.Disk.Store.is_honest _ c.args.call c.args.copy c.step-told.result c.of-seen.result.value c.in-Err.error c.after_error.result c.requires.copy c.in-Err.is c.requires.taken c.step-told.ensures.no_room c.step-told.ensures.too_large c.after_error.ensures
