-- What is right of all that clients are told, as a chronicle shows it.
use Rattle.std.specs.Prelude.{◌≡◌, List}
use Rattle.peer_messages.specs.declared.chronicle.Entry.{Entry}
use Rattle.peer_messages.specs.declared.setting.Setting.{Setting}
use Rattle.cluster_runs.specs.World.{World}
use Rattle.cluster_runs.specs.Run.{Run}
use Rattle.answer_causes.specs.Story.{Happening, story}
use Rattle.answer_causes.specs.Causes.{EachStep, AnswersOnce, TimesOut, AnswersAtOnce}
use Rattle.answer_causes.specs.Hints.{HintsLeave, SendsHints}
use Rattle.answer_causes.specs.Marks.{SeesMarks}
use Rattle.answer_causes.specs.Numbers.{TellsNumbers}
use Rattle.answer_causes.specs.Refusals.{RefusesWhere}
use Rattle.answer_causes.specs.Batches.{SendsNext, SendsThen}

-- of what happened, the newest first
pub record HasCauses (c : Setting) (happened : List Happening) : Type 0 where
  pub once : EachStep AnswersOnce happened
  pub deadlines : EachStep TimesOut happened
  pub replicas : EachStep (AnswersAtOnce c) happened
  pub hints : EachStep (HintsLeave c) happened
  pub marks : EachStep (SendsHints c) happened
  pub seen : EachStep (SeesMarks c) happened
  pub numbers : EachStep (TellsNumbers c) happened
  pub refusals : EachStep (RefusesWhere c) happened
  pub next : EachStep (SendsNext c) happened
  pub only : EachStep (SendsThen c) happened

-- a chronicle, newest first, tells of a run in which all is told for its cause
pub record AnswersRight (c : Setting) (chronicle : List Entry) : Type 0 where
  pub world : World
  pub run : Run c world
  pub told : chronicle ≡ world.chronicle
  pub causes : HasCauses c (story c world run)
