-- What a desk gives of what is told.
use Rattle.std.proofs.Common.{◌≡◌, inl, inr, Bool, true, false, Option, Some, None, Result, Ok, Err, refl, sym}
use Rattle.std.specs.Prelude.{find, option_and_then}
use Rattle.std.specs.declared.alloc.AllocError.{AllocError}
use Rattle.cs_base.specs.declared.ids.ReqId.{ReqId}
use Rattle.peer_messages.specs.declared.chronicle.Entry.{Entry}
use Rattle.peer_messages.specs.declared.chronicle.Entry.TheVariants.{Asked, Submitted, Acked, Refused, Used, Began, Rows, Marks, Time, Turned, Tables, Stopped}
use Rattle.client_desk.specs.declared.answer.Answer.{Answer}
use Rattle.client_desk.specs.declared.answer.Answer.TheVariants as answer
use Rattle.cluster_model.specs.State.{ClusterState, runs_at}
use Rattle.cluster_model.specs.Takes.{Takes}
use Rattle.cluster_model.specs.declared.event.ClusterEvent.TheVariants as event
use Rattle.step_desk.specs.Tellings.{is_about, answer_by, told, Tells, given_by}
use Rattle.step_desk.specs.Calls.{AnswersFor}

-- no chronicle tells that memory ran out
never_told : (o : Option Entry) → option_and_then answer_by o ≡ Some answer.NoMemory → ⊥
never_told None h = cc
never_told (Some (Acked r l heard)) h = cc
never_told (Some (Used r keyspace)) h = cc
never_told (Some (Rows r rows more grounds)) h = cc
never_told (Some (Refused r refusal)) h = cc
never_told (Some (Asked r)) h = cc
never_told (Some (Submitted r m)) h = cc
never_told (Some (Began r q l columns)) h = cc
never_told (Some (Marks k alive)) h = cc
never_told (Some (Time k t)) h = cc
never_told (Some (Turned k refusal)) h = cc
never_told (Some (Tables k n)) h = cc
never_told (Some (Stopped k)) h = cc

pub answers_for : (v v' : ClusterState) (id : ReqId) (t : Result (Option Answer) AllocError) (runs : Bool) → Takes v (event.Collect 0 id) v' → runs ≡ runs_at v' 0 → Tells t (told v'.chronicle id) → AnswersFor v id (given_by t runs) v'
answers_for v v' id t false takes up tells = (takes, inr (refl, sym up))
answers_for v v' id (Err e) true takes up tells = inr (takes, tells, sym up)
answers_for v v' id (Ok None) true takes up tells = (takes, (sym tells, sym up))
answers_for v v' id (Ok (Some answer.Acknowledged)) true takes up tells = (takes, (sym tells, sym up))
answers_for v v' id (Ok (Some (answer.Rows rows more))) true takes up tells = (takes, (sym tells, sym up))
answers_for v v' id (Ok (Some (answer.Refused refusal))) true takes up tells = (takes, inl (sym tells, sym up))
answers_for v v' id (Ok (Some answer.NoMemory)) true takes up tells = absurd (never_told (find (is_about id) v'.chronicle) (sym tells))
