-- What a framer is between two pieces.
use Rattle.std.specs.Prelude.{◌≡◌, ◌≢◌, ℕ, List, [], Option, Some, None}
use Rattle.frame_v4.specs.declared.error.FrameError.{FrameError}
use Rattle.frame_v4.specs.declared.error.FrameError.TheVariants.{NoMemory}
use Rattle.frame_v4.specs.declared.frame.Frame.{Frame}
use Rattle.frame_v4.specs.declared.held.Held.{Held}
use Rattle.frame_v4.specs.Reading.{IsHeld}

-- the bytes of the next frame, the refusal if there was one, and the frames before it that were not taken yet
pub record State : Type 0 where
  pub held : List ℕ
  pub refusal : Option FrameError
  pub kept : List Frame

abbrev pub fresh : State
fresh = record { held = []; refusal = None; kept = [] }

-- what holds of the fields of a framer
pub record IsFramer (held : Held) (refusal : Option FrameError) (kept : List Frame) : Type 0 where
  pub in_place : IsHeld held
  pub none_kept : refusal ≡ None → kept ≡ []
  pub a_fault : refusal ≢ Some NoMemory
