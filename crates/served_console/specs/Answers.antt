-- What an operator is told of the calls of a line.
use Rattle.std.specs.Prelude.{ℕ, Bool, true, false, not, ◌||◌, if◌then◌else◌, Option, Some, None, Result, Ok, Err, List, [], ◌∷◌, ◌++◌, codes, decimal}
use Rattle.node_calls.specs.declared.call.Cause.{Cause}
use Rattle.node_calls.specs.declared.call.Cause.TheVariants as cause
use Rattle.node_console.specs.declared.command.Command.{Command}
use Rattle.node_console.specs.declared.command.Command.TheVariants as command
use Rattle.node_console.specs.declared.command.ConsoleError.{ConsoleError}
use Rattle.node_lock.specs.declared.answers.LockRefused.TheVariants as lock
use Rattle.node_workers.specs.Calls.{Outcome, has_failed}
use Rattle.served_console.specs.declared.answer.Answer.{Answer}
use Rattle.served_console.specs.declared.answer.Answer.TheVariants as answer
use Rattle.served_console.specs.declared.answer.Refusal.{Refusal}
use Rattle.served_console.specs.declared.answer.Refusal.TheVariants as refusal
use Rattle.served_console.specs.declared.told.Told.{Told}
use Rattle.served_console.specs.declared.obeying.Turned.{Turned}

-- ---- what comes of calls

-- a call that was refused for no cause that a console's call has is told as want of memory
abbrev pub refusal_because : Option Cause → Refusal
refusal_because None = refusal.NoMemory
refusal_because (Some cause.Nothing) = refusal.NoMemory
refusal_because (Some cause.NoRoom) = refusal.NoRoom
refusal_because (Some cause.TooLarge) = refusal.TooLarge
refusal_because (Some cause.NoMemory) = refusal.NoMemory
refusal_because (Some cause.Stopped) = refusal.NoMemory

abbrev pub refusal_in : Outcome → Option Refusal
refusal_in (Ok receipt) = None
refusal_in (Err (lock.Full call)) = Some refusal.Full
refusal_in (Err (lock.Refused call)) = Some (refusal_because call.cause)

abbrev pub count_or : ℕ → Option ℕ → ℕ
count_or n None = n
count_or n (Some m) = m

-- so many tables are told, and none where the reply tells no number
abbrev pub tables_in : Outcome → ℕ
tables_in (Ok receipt) = count_or 0 receipt.reply.tables
tables_in (Err refused) = 0

abbrev pub refusal_or : Option Refusal → Option Refusal → Option Refusal
refusal_or None other = other
refusal_or (Some r) other = Some r

abbrev pub any_failed : List Outcome → Bool
any_failed [] = false
any_failed (o ∷ os) = has_failed o || any_failed os

abbrev pub first_refusal : List Outcome → Option Refusal
first_refusal [] = None
first_refusal (o ∷ os) = refusal_or (refusal_in o) (first_refusal os)

abbrev pub last_tables : ℕ → List Outcome → ℕ
last_tables n [] = n
last_tables n (o ∷ os) = last_tables (tables_in o) os

-- what the calls of a line tell, in their order
abbrev pub told_of : List Outcome → Told
told_of os = record { failed = any_failed os; refused = first_refusal os; tables = last_tables 0 os }

abbrev pub nothing_told : Told
nothing_told = record { failed = false; refused = None; tables = 0 }

-- a call more
abbrev pub and_told : Told → Outcome → Told
and_told t o = record { failed = t.failed || has_failed o; refused = refusal_or t.refused (refusal_in o); tables = tables_in o }

-- ---- answers

-- the first refusal is told in place of the answer
abbrev pub answer_unless : Option Refusal → Answer → Answer
answer_unless None a = a
answer_unless (Some r) a = answer.Refused r

-- the answer to a line that says this, where no node failed
abbrev pub answer_by : Result Command ConsoleError → Told → Answer
answer_by (Err e) t = answer.Unknown
answer_by (Ok (command.Mark node peer up)) t = answer_unless t.refused answer.Done
answer_by (Ok (command.Flush node)) t = answer_unless t.refused (answer.Tables t.tables)
answer_by (Ok (command.Merge node)) t = answer_unless t.refused (answer.Tables t.tables)
answer_by (Ok command.Status) t = answer_unless t.refused answer.Done
answer_by (Ok command.Stop) t = answer.Nothing

abbrev pub is_stop : Result Command ConsoleError → Bool
is_stop (Err e) = false
is_stop (Ok (command.Mark node peer up)) = false
is_stop (Ok (command.Flush node)) = false
is_stop (Ok (command.Merge node)) = false
is_stop (Ok command.Status) = false
is_stop (Ok command.Stop) = true

-- The answer, and whether the console goes on. Where a node failed nothing is told, and it goes on no more
abbrev pub turned_by : Result Command ConsoleError → Told → Turned
turned_by said t = if t.failed then record { answer = answer.Nothing; goes_on = false } else record { answer = answer_by said t; goes_on = not (is_stop said) }

-- ---- texts

abbrev pub refusal_text : Refusal → List ℕ
refusal_text refusal.Full = codes "full\n"
refusal_text refusal.NoRoom = codes "no room\n"
refusal_text refusal.TooLarge = codes "too large\n"
refusal_text refusal.NoMemory = codes "no memory\n"

abbrev pub tables_text : ℕ → List ℕ
tables_text n = codes "tables " ++ decimal n ++ codes "\n"

-- an answer is one line
abbrev pub text_of : Answer → List ℕ
text_of answer.Nothing = []
text_of answer.Done = codes "ok\n"
text_of (answer.Tables n) = tables_text n
text_of answer.Unknown = codes "?\n"
text_of (answer.Refused r) = refusal_text r
