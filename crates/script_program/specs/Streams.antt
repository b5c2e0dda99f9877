-- What was read of a source and written to a sink that tell of their bytes.
use Rattle.std.specs.Prelude.{◌≡◌, ◌⊎◌, ℕ, ◌<◌, ◌≤◌, List, [], ◌++◌, length, take, Option, Some}
use Rattle.std.specs.Option.{option_map}
use Rattle.fault_script.specs.Script.{longest_script}

-- the text is all that was left, and the source is at its end; or it is a front of it that is too long for a script
abbrev pub IsAllOf : List ℕ → List ℕ → Option (List ℕ) → Type 0
IsAllOf left text left' = ((text ≡ left) × (left' ≡ Some [])) ⊎ ((text ≡ take (length text) left) × (longest_script < length text))

abbrev pub WritesAll : Option (List ℕ) → Option (List ℕ) → List ℕ → Type 0
WritesAll old new text = new ≡ option_map (λ held. held ++ text) old

abbrev pub WritesFront : Option (List ℕ) → Option (List ℕ) → List ℕ → Type 0
WritesFront old new text = (n : ℕ) × (n ≤ length text) × WritesAll old new (take n text)
