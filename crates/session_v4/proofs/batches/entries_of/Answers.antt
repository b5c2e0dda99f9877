use Rattle.std.proofs.Common.{◌<◌, arith, length}
use Rattle.session_v4.proofs.EntryLaws.{entries_grow, entries_stop}
use Rattle.session_v4.specs.Sessions.{state_in}
use Rattle.session_v4.proofs.batches.entries_of.Goals as goal

pub loop-entry-preserved : goal.loop-entry-preserved
loop-entry-preserved c =
    let below : c.loop-entry.entry-index < length c.args.entries.now = omega arith in
    entries_grow (state_in c.args.session.now) c.args.entries.now c.loop-entry.entry-index c.entry-item.result c.loop-entry.changes c.in_ok-changes-in-Found.changes
    c.in-Found.change c.in_ok-response.field-0 below c.entry-item.is c.in-Found.is c.in_ok-response.ensures c.in_ok-changes-in-Found.ensures c.loop-entry.invariant

pub returns-in-Refused : goal.returns-in-Refused
returns-in-Refused c =
    let below : c.loop-entry.entry-index < length c.args.entries.now = omega arith in
    entries_stop (state_in c.args.session.now) c.args.entries.now c.loop-entry.entry-index c.entry-item.result c.loop-entry.changes c.in-Refused.response
    c.in_ok-response.field-0 below c.entry-item.is c.in-Refused.is c.in_ok-response.ensures c.loop-entry.invariant
