-- What is known of a job that was begun.
use Rattle.std.specs.Prelude.{Bool, false}
use Rattle.cs_runtime.specs.declared.begun.Begun.{Begun}
use Rattle.cs_runtime.specs.declared.begun.Begun.TheVariants.{Apart, Here}

-- the job, and whether its start was to fail
abbrev pub begun_of : {J D : Type 0} → Begun J D → J × Bool
begun_of (Apart thread) = (thread.promise.0.value, false)
begun_of (Here ended) = ended
