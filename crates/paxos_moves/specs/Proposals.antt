-- What is proposed: an older update once more, or the operation's own. The condition of an operation is tested on the merge of
-- what a quorum holds, and never on what one replica holds.
use Rattle.std.specs.Prelude.{◌≡◌, ℕ, pos, Bool, true, false, Option, Some, None, List, [], map}
use Rattle.cs_base.specs.declared.ids.ReqId.{ReqId}
use Rattle.changes.specs.declared.Draft.{Draft}
use Rattle.changes.specs.declared.Held.{Held}
use Rattle.changes.specs.declared.ShownRow.{ShownRow}
use Rattle.changes.specs.Shown.{ShowsRow, AreShownCells, IsShown}
use Rattle.statement_plan.specs.declared.operation.ConditionalOperation.{ConditionalOperation}
use Rattle.statement_plan.specs.declared.operation.Test.{Test}
use Rattle.statement_plan.specs.declared.operation.Test.TheVariants as test
use Rattle.condition_test.specs.Conditions.{condition_holds}
use Rattle.row_change.specs.declared.entry.Update.{Update}
use Rattle.paxos_messages.specs.declared.entry.Reply.{Reply}
use Rattle.paxos_messages.specs.declared.entry.Reply.TheVariants as reply

-- ---- what an operation answers

-- the row as the set of changes shows it, if it does
abbrev pub IsRowAt : (Held → Type 0) → List ℕ → Option ShownRow → Type 0
IsRowAt S row None = ShowsRow S row → ⊥
IsRowAt S row (Some r) = ShowsRow S row × (r.row ≡ row) × AreShownCells S row r.cells

abbrev pub reply_by : Bool → Option ShownRow → Reply
reply_by true row = reply.Applied
reply_by false row = reply.NotApplied row

-- by whether its condition holds of the row
abbrev pub TestsRow : (Held → Type 0) → ConditionalOperation → Reply → Type 0
TestsRow S o r = (row : Option ShownRow) × IsRowAt S o.row row × (r ≡ reply_by (condition_holds row o.test) row)

abbrev pub AnswersBy : Test → (Held → Type 0) → ConditionalOperation → Reply → Type 0
AnswersBy (test.Read q) S o r = (rows : List ShownRow) × (more : Bool) × IsShown S q rows more × (r ≡ reply.Rows rows more)
AnswersBy test.Absent S o r = TestsRow S o r
AnswersBy test.Present S o r = TestsRow S o r
AnswersBy (test.Cells tests) S o r = TestsRow S o r

-- what the operation answers on these changes
abbrev pub Answers : (Held → Type 0) → ConditionalOperation → Reply → Type 0
Answers S o r = AnswersBy o.test S o r

abbrev pub is_applied : Reply → Bool
is_applied reply.Applied = true
is_applied (reply.NotApplied row) = false
is_applied (reply.Rows rows more) = false

-- ---- updates

-- a change of an update has its ballot as timestamp and as time of submission
abbrev pub stamped_at : ℕ → ReqId → Draft → Held
stamped_at b id d = record { place = d.place; value = d.value; timestamp = pos b; submitted = b; request = id }

-- what an operation with this reply writes
abbrev pub drafts_by : Bool → List Draft → List Draft
drafts_by true drafts = drafts
drafts_by false drafts = []

-- the operation's own, on the most recent commit of the promises
abbrev pub own_update : ReqId → ConditionalOperation → ℕ → ℕ → Reply → Update
own_update id o b base r = record { request = id; base = base; changes = map (stamped_at b id) (drafts_by (is_applied r) o.changes) }

-- a change of an older update under a new ballot
abbrev pub restamped : ℕ → Held → Held
restamped b x = record { place = x.place; value = x.value; timestamp = pos b; submitted = b; request = x.request }

-- an older update under a new ballot: it stays its request's, on the commit on which it was made
abbrev pub update_again : ℕ → Update → Update
update_again b u = record { request = u.request; base = u.base; changes = map (restamped b) u.changes }
