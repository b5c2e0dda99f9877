-- All that clients are told has its cause.
use Rattle.std.proofs.Common.{refl}
use Rattle.peer_messages.specs.declared.setting.Setting.{Setting}
use Rattle.cluster_runs.specs.World.{World}
use Rattle.cluster_runs.specs.Run.{Run}
use Rattle.answer_causes.specs.Story.{story}
use Rattle.answer_causes.specs.AnswersRight.{HasCauses, AnswersRight}
use Rattle.answer_causes.proofs.Batching.{next_sent}
use Rattle.answer_causes.proofs.Leaving.{hints_leave}
use Rattle.answer_causes.proofs.Marking.{marks_seen}
use Rattle.answer_causes.proofs.Numbering.{numbers_told}
use Rattle.answer_causes.proofs.Refusing.{refusals_told}
use Rattle.answer_causes.proofs.Replies.{answered_at_once, marks_send}
use Rattle.answer_causes.proofs.Sending.{hints_sent}
use Rattle.answer_causes.proofs.Timeouts.{times_out}
use Rattle.answer_causes.proofs.Waiting.{answered_once}

pub each_cause : (c : Setting) (w : World) (run : Run c w) → HasCauses c (story c w run)
each_cause c w run = record {
  once = answered_once c w run;
  deadlines = times_out c w run;
  replicas = answered_at_once c w run;
  hints = hints_leave c w run;
  marks = marks_send c w run;
  seen = marks_seen c w run;
  numbers = numbers_told c w run;
  refusals = refusals_told c w run;
  next = next_sent c w run;
  only = hints_sent c w run;
}

pub all_right : (c : Setting) (w : World) → Run c w → AnswersRight c w.chronicle
all_right c w run = record { world = w; run = run; told = refl; causes = each_cause c w run }
