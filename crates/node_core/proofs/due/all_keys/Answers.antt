use Rattle.node_core.specs.Due.{IsDeadlineKey, IsExpiryKey}
use Rattle.node_core.proofs.DueKeys.{keys_found}
use Rattle.node_core.proofs.due.all_keys.Goals as goal

pub add_deadlines-requires : goal.add_deadlines-requires
add_deadlines-requires c = c.requires.writes

pub add_deadlines-requires-2 : goal.add_deadlines-requires-2
add_deadlines-requires-2 c = c.requires.reads

pub add_expired-requires : goal.add_expired-requires
add_expired-requires c = c.requires.expired

pub returns : goal.returns
returns c = λ d.
    keys_found c.new-due.result.keys c.add_deadlines.new.due.keys c.add_deadlines-2.new.due.keys c.add_expired.new.due.keys (IsDeadlineKey c.args.writes.now) (IsDeadlineKey c.args.reads.now) (IsExpiryKey c.args.me c.args.expiry c.args.expired.now) d
    c.new-due.ensures.empty (c.in_ok-add_deadlines.ensures d) (c.in_ok-add_deadlines-2.ensures d) (c.in_ok-add_expired.ensures d)
