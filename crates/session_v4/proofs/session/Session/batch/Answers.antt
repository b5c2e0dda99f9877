use Rattle.std.proofs.Common.{Some, None, refl, ◌∙◌, ap}
use Rattle.session_v4.proofs.Comings.{due_changes, due_entry, due_no_changes, on_stream}
use Rattle.session_v4.proofs.EntryLaws.{all_found, all_refused}
use Rattle.session_v4.specs.Sessions.{IsChangesDue, state_in}
use Rattle.session_v4.specs.declared.batches.Entries.TheVariants as all
use Rattle.session_v4.proofs.session.Session.batch.Goals as goal

pub returns-in-Refused-clause-due : goal.returns-in-Refused-clause-due
returns-in-Refused-clause-due c =
    let s = state_in c.args.self.now in
    due_entry s s c.args.stream c.args.batch c.in-Refused.response
    (all_refused s c.args.batch.entries c.as_slice.result.now c.in_ok-response.field-0 c.in-Refused.response c.as_slice.ensures c.in-Refused.is c.in_ok-response.ensures) refl

pub returns-in-Found-Some-clause-due : goal.returns-in-Found-Some-clause-due
returns-in-Found-Some-clause-due c =
    let s = state_in c.args.self.now in
    let s' = state_in c.run_batch.new.self in
    let cs = Some c.in-Found-Some.changes in
    let found = all_found s c.args.batch.entries c.as_slice.result.now c.in_ok-response.field-0 cs c.as_slice.ensures (c.in-Found-Some.is ∙ ap all.Found c.in-Found-Some.field-0-is) c.in_ok-response.ensures in
    due_changes c.run_batch.result s s' c.args.stream c.args.batch found.0 cs found.1 found.2
    (on_stream c.run_batch.result (λ z a. IsChangesDue s z c.args.batch cs a s') c.args.stream c.ranges.stream c.run_batch.ensures.due)

pub returns-in-Found-None-clause-due : goal.returns-in-Found-None-clause-due
returns-in-Found-None-clause-due c =
    let s = state_in c.args.self.now in
    let found = all_found s c.args.batch.entries c.as_slice.result.now c.in_ok-response.field-0 None c.as_slice.ensures (c.in-Found-None.is ∙ ap all.Found c.in-Found-None.field-0-is) c.in_ok-response.ensures in
    due_no_changes c.unfit.result s c.args.stream c.args.batch found.0 found.1 found.2 c.unfit.ensures
