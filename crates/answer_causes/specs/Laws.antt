-- Laws of answers to clients, over every run.
use Rattle.peer_messages.specs.declared.setting.Setting.{Setting}
use Rattle.cluster_runs.specs.World.{World}
use Rattle.cluster_runs.specs.Run.{Run}
use Rattle.answer_causes.specs.Story.{story}
use Rattle.answer_causes.specs.Causes.{EachStep, AnswersOnce, TimesOut, AnswersAtOnce}
use Rattle.answer_causes.specs.Hints.{HintsLeave, SendsHints}
use Rattle.answer_causes.specs.Marks.{SeesMarks}
use Rattle.answer_causes.specs.Numbers.{TellsNumbers}
use Rattle.answer_causes.specs.Refusals.{RefusesWhere}
use Rattle.answer_causes.specs.Batches.{SendsNext, SendsThen}
use Rattle.answer_causes.specs.AnswersRight.{AnswersRight}

abbrev pub EachRequestIsAnsweredOnce : Type 0
EachRequestIsAnsweredOnce = (c : Setting) (w : World) (run : Run c w) → EachStep AnswersOnce (story c w run)

abbrev pub TimeoutsComeAtDeadlines : Type 0
TimeoutsComeAtDeadlines = (c : Setting) (w : World) (run : Run c w) → EachStep TimesOut (story c w run)

abbrev pub ReplicasAnswerAtOnce : Type 0
ReplicasAnswerAtOnce = (c : Setting) (w : World) (run : Run c w) → EachStep (AnswersAtOnce c) (story c w run)

abbrev pub HintsLeaveByAcknowledgementOrAge : Type 0
HintsLeaveByAcknowledgementOrAge = (c : Setting) (w : World) (run : Run c w) → EachStep (HintsLeave c) (story c w run)

abbrev pub MarksSendHints : Type 0
MarksSendHints = (c : Setting) (w : World) (run : Run c w) → EachStep (SendsHints c) (story c w run)

abbrev pub RequestsSeeMarks : Type 0
RequestsSeeMarks = (c : Setting) (w : World) (run : Run c w) → EachStep (SeesMarks c) (story c w run)

abbrev pub TimeoutsTellNumbers : Type 0
TimeoutsTellNumbers = (c : Setting) (w : World) (run : Run c w) → EachStep (TellsNumbers c) (story c w run)

abbrev pub RefusalsHaveCauses : Type 0
RefusalsHaveCauses = (c : Setting) (w : World) (run : Run c w) → EachStep (RefusesWhere c) (story c w run)

abbrev pub AcknowledgementsSendHints : Type 0
AcknowledgementsSendHints = (c : Setting) (w : World) (run : Run c w) → EachStep (SendsNext c) (story c w run)

abbrev pub HintsGoOutByThese : Type 0
HintsGoOutByThese = (c : Setting) (w : World) (run : Run c w) → EachStep (SendsThen c) (story c w run)

abbrev pub AnswersAreRight : Type 0
AnswersAreRight = (c : Setting) (w : World) → Run c w → AnswersRight c w.chronicle
