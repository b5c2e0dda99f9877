-- Entries in one buffer, by their ends.
use Rattle.std.specs.Prelude.{ℕ, ◌+◌, ◌-◌, ◌≤◌, List, [], ◌∷◌, length, take, drop}

-- the entries whose gates and lengths stand before them from `start` on, each up to its end
abbrev pub pieces : ℕ → List ℕ → List ℕ → List (List ℕ)
pieces start bytes [] = []
pieces start bytes (end ∷ ends) = take (end - (start + 5)) (drop (start + 5) bytes) ∷ pieces end bytes ends

-- from `start` on, each end is in the buffer, with room for a gate and a length behind the end before it
abbrev pub IsSplit : ℕ → List ℕ → List ℕ → Type 0
IsSplit start bytes [] = start ≤ length bytes
IsSplit start bytes (end ∷ ends) = (start + 5 ≤ end) × IsSplit end bytes ends

-- the last of the ends, or the start
abbrev pub last_end : ℕ → List ℕ → ℕ
last_end start [] = start
last_end start (end ∷ ends) = last_end end ends
