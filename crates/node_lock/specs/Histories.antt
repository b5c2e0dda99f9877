-- Histories: lists of entries, each with the number of the pass that made it.
use Rattle.std.specs.Prelude.{◌≡◌, ℕ, List, [], ◌∷◌, ◌++◌, ◌==◌, if◌then◌else◌, length, nat_le}

-- how many entries a history has at most
abbrev pub most_entries : ℕ
most_entries = 400000

-- the history begins with what was seen
abbrev pub StartsWith : {A : Type 0} → List A → List A → Type 0
StartsWith {A} history seen = (more : List A) × (history ≡ seen ++ more)

-- the longer of two lists
abbrev pub longer : {A : Type 0} → List A → List A → List A
longer xs ys = if nat_le (length xs) (length ys) then ys else xs

-- the entries that the pass with this number made, in order
abbrev pub entries_by : {A : Type 0} → ℕ → List (ℕ × A) → List A
entries_by number [] = []
entries_by number (x ∷ xs) = if x.0 == number then x.1 ∷ entries_by number xs else entries_by number xs

module _ {S E : Type 0} (steps : S → E → S → Type 0) where
  -- a chain of steps with these entries leads from one state to the other
  abbrev pub Replays : S → List (ℕ × E) → S → Type 0
  Replays start [] now = start ≡ now
  Replays start (x ∷ xs) now = (next : S) × steps start x.1 next × Replays next xs now
