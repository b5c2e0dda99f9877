-- The parts of a file in memory.
use Rattle.std.specs.Prelude.{◌≡◌, ℕ, ◌≤◌, min, List, length, take}

abbrev pub room_of : ℕ → ℕ → ℕ → ℕ
room_of a b c = min a (min b c)

-- the three are alike below `settled`, and each has room for the others
pub record IsSound (kept lost torn : List ℕ) (settled room : ℕ) : Type 0 where
  pub within_kept : settled ≤ length kept
  pub within_lost : settled ≤ length lost
  pub lost_alike : take settled lost ≡ take settled kept
  pub torn_alike : take settled torn ≡ take settled kept
  pub size : length torn ≡ length kept
  pub kept_fits : length kept ≤ room
  pub lost_fits : length lost ≤ room
