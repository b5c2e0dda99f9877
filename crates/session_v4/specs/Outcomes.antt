-- What a request with a statement comes to: it is refused, it names a keyspace, or a node is asked.
use Rattle.std.specs.Prelude.{◌≡◌, ℕ, List, Bool, true, false, Option, Some, None, is_some, Result, Ok, Err, if◌then◌else◌}
use Rattle.body_notations.specs.declared.consistency.Consistency.{Consistency}
use Rattle.body_notations.specs.declared.consistency.Consistency.TheVariants as consistencies
use Rattle.cs_base.specs.declared.level.Level.{Level as level}
use Rattle.cs_base.specs.declared.level.Level.TheVariants as levels
use Rattle.page_state.specs.declared.state.PagingError.{PagingError}
use Rattle.peer_messages.specs.declared.chronicle.Invalid.TheVariants as invalid
use Rattle.peer_messages.specs.declared.event.Plan.TheVariants as asked
use Rattle.request_bodies.specs.declared.batch.Batch.{Batch}
use Rattle.request_bodies.specs.declared.parameters.QueryParameters.{QueryParameters}
use Rattle.statement_binder.specs.Meanings.{IsPlan, IsRefusal}
use Rattle.statement_plan.specs.declared.fault.Fault.{Fault}
use Rattle.statement_plan.specs.declared.fault.Fault.TheVariants as fault
use Rattle.statement_plan.specs.declared.fault.Feature.TheVariants as feature
use Rattle.statement_plan.specs.declared.plan.Columns.{Columns}
use Rattle.statement_plan.specs.declared.plan.Plan.{Plan}
use Rattle.statement_plan.specs.declared.plan.Plan.TheVariants as plan
use Rattle.changes.specs.declared.DraftMutation.{DraftMutation}
use Rattle.changes.specs.declared.Query.{Query}
use Rattle.session_v4.specs.Paging.{row_before, page_size, page_begin, page_query}
use Rattle.session_v4.specs.declared.outcome.Admitted.{Admitted}
use Rattle.session_v4.specs.declared.outcome.Outcome.{Outcome}
use Rattle.session_v4.specs.declared.outcome.Outcome.TheVariants as outcome
use Rattle.session_v4.specs.declared.outcome.Shown.{Shown}
use Rattle.session_v4.specs.declared.outcome.Terms.{Terms}
use Rattle.session_v4.specs.declared.reason.Reason.{Reason}
use Rattle.session_v4.specs.declared.reason.Reason.TheVariants as reasons

-- ---- the terms of a request

abbrev pub named_state : Option (Option (List ℕ)) → Option (List ℕ)
named_state None = None
named_state (Some state) = state

abbrev pub terms_of : QueryParameters → Terms
terms_of p = record {
  consistency = p.consistency;
  serial_consistency = p.serial_consistency;
  skip_metadata = p.skip_metadata;
  page_size = p.page_size;
  paging_state = named_state p.paging_state;
}

-- a batch has no pages
abbrev pub batch_terms : Batch → Terms
batch_terms b = record {
  consistency = b.consistency;
  serial_consistency = b.serial_consistency;
  skip_metadata = false;
  page_size = None;
  paging_state = None;
}

-- ---- which terms are taken: the paging state is looked at first, and then the consistencies

abbrev pub is_serial : level → Bool
is_serial levels.Serial = true
is_serial levels.LocalSerial = true
is_serial l = false

abbrev pub is_serial_consistency : Option Consistency → Bool
is_serial_consistency None = true
is_serial_consistency (Some (consistencies.Level l)) = is_serial l
is_serial_consistency (Some c) = false

abbrev pub level_in : Consistency → Option level
level_in consistencies.Any = None
level_in consistencies.EachQuorum = None
level_in (consistencies.Level l) = Some l

abbrev pub level_of : Terms → Option level
level_of t = if is_serial_consistency t.serial_consistency then level_in t.consistency else None

abbrev pub admission_at : Result (Option (List ℕ)) PagingError → Option level → Result Admitted Reason
admission_at (Err e) l = Err reasons.BadPaging
admission_at (Ok row) None = Err (reasons.Invalid invalid.Level)
admission_at (Ok row) (Some l) = Ok (record { row = row; level = l })

abbrev pub admission : Terms → Result Admitted Reason
admission t = admission_at (row_before t.paging_state) (level_of t)

-- ---- plans

-- what the rows of a read are to show
abbrev pub shown_of : Terms → Query → Columns → Shown
shown_of t q columns = record {
  table = q.partition.table;
  key = q.partition.key;
  columns = columns;
  skip_metadata = t.skip_metadata;
  is_paged = is_some (page_size columns t.page_size q.limit);
}

abbrev pub write_outcome : Terms → level → DraftMutation → Outcome
write_outcome t l m =
    if is_serial l then outcome.Refused (reasons.Invalid invalid.SerialWrite)
    else outcome.Submit (record { plan = asked.Write m; level = l }) (record { consistency = t.consistency; shown = None })

abbrev pub read_outcome : Terms → Admitted → Query → Columns → Outcome
read_outcome t a q columns =
    if is_serial a.level then outcome.Refused (reasons.Invalid invalid.Level)
    else outcome.Submit
    (record { plan = asked.Read (page_query (page_begin columns a.row) (page_size columns t.page_size q.limit) q) columns; level = a.level })
    (record { consistency = t.consistency; shown = Some (shown_of t q columns) })

-- the plan on these terms, if they were taken
abbrev pub planned : Terms → Result Admitted Reason → Plan → Outcome
planned t (Err reason) p = outcome.Refused reason
planned t (Ok a) (plan.Write m) = write_outcome t a.level m
planned t (Ok a) (plan.Read q columns) = read_outcome t a q columns
planned t (Ok a) (plan.Conditional o) = outcome.Refused (reasons.Invalid (invalid.Statement (fault.NotSupported feature.Condition)))
planned t (Ok a) (plan.Use name) = outcome.Use name

-- there are no conditional operations yet
abbrev pub plan_fault : Plan → Option Fault
plan_fault (plan.Conditional o) = Some (fault.NotSupported feature.Condition)
plan_fault p = None

abbrev pub plan_outcome : Terms → Option Fault → Plan → Outcome
plan_outcome t (Some f) p = outcome.Refused (reasons.Invalid (invalid.Statement f))
plan_outcome t None p = planned t (admission t) p

abbrev pub outcome_of : Terms → Result Plan Fault → Outcome
outcome_of t (Err f) = outcome.Refused (reasons.Invalid (invalid.Statement f))
outcome_of t (Ok p) = plan_outcome t (plan_fault p) p

-- ---- a statement that was bound

-- the plan or the refusal that the statement means, with one change of each place
abbrev pub IsSettled : Result Plan Fault → Result Plan Fault → Type 0
IsSettled (Ok p) meaning = IsPlan p meaning
IsSettled (Err f) meaning = IsRefusal f meaning

abbrev pub ComesTo : Terms → Result Plan Fault → Outcome → Type 0
ComesTo t meaning o = (settled : Result Plan Fault) × IsSettled settled meaning × (o ≡ outcome_of t settled)
