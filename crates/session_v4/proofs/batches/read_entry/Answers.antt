use Rattle.session_v4.proofs.EntryLaws.{entry_read_as, entry_misread_as, reading_of, refusal_of}
use Rattle.session_v4.specs.Sessions.{state_in}
use Rattle.session_v4.proofs.batches.read_entry.Goals as goal

pub returns-in-Ok : goal.returns-in-Ok
returns-in-Ok c =
    entry_read_as c.stated-entry.result (state_in c.args.session.now) c.args.text.now c.in-Ok.statement
    (reading_of c.parse-read.result c.args.text.now c.as_str.result.now c.in-Ok.statement c.as_str.ensures c.in-Ok.is c.parse-read.ensures.found) c.stated-entry.ensures

pub returns-in-Err : goal.returns-in-Err
returns-in-Err c =
    entry_misread_as c.misread.result (state_in c.args.session.now) c.args.text.now c.as_str-in-Err.result.now c.in-Err.error
    (refusal_of c.parse-read.result c.args.text.now c.as_str.result.now c.in-Err.error c.as_str.ensures c.in-Err.is c.parse-read.ensures.refused)
    c.as_str-in-Err.ensures c.misread.ensures.response c.misread.ensures.cause
