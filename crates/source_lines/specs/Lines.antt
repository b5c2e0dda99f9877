-- The lines of bytes that are left to be read.
use Rattle.std.specs.Prelude.{◌≡◌, ℕ, Bool, true, false, ◌==◌, if◌then◌else◌, List, [], ◌∷◌, ◌++◌, take, Option, Some, None}
use Rattle.std.specs.Option.{option_map}

-- what a reader of lines has read of its source and not given yet, and the last line that it found
pub record Reading : Type 0 where
  pub ahead : List ℕ
  pub line : List ℕ

-- all that is left, where the source tells what it has left
abbrev pub left_of : List ℕ → Option (List ℕ) → Option (List ℕ)
left_of ahead remaining = option_map (λ left. ahead ++ left) remaining

-- ---- bytes

-- a piece of what the source has left. It is empty only where nothing is
pub record Fills (left piece : List ℕ) (left' : Option (List ℕ)) : Type 0 where
  pub rest : List ℕ
  pub remaining : left' ≡ Some rest
  pub whole : left ≡ piece ++ rest
  pub end : piece ≡ [] → left ≡ []

-- the first byte of what is left, and none where nothing is
abbrev pub GivesByte : Option ℕ → List ℕ → Option (List ℕ) → Type 0
GivesByte None left left' = (left ≡ []) × (left' ≡ Some [])
GivesByte (Some b) left left' = (rest : List ℕ) × (left ≡ b ∷ rest) × (left' ≡ Some rest)

-- ---- lines

-- the first line, without its line feed
abbrev pub first_line : List ℕ → List ℕ
first_line [] = []
first_line (b ∷ bs) = if b == 10 then [] else b ∷ first_line bs

-- what follows the first line and its line feed
abbrev pub behind_line : List ℕ → List ℕ
behind_line [] = []
behind_line (b ∷ bs) = if b == 10 then bs else behind_line bs

-- what is told of a line
abbrev pub told : List ℕ → List ℕ
told line = take 4097 line

abbrev pub is_some_left : List ℕ → Bool
is_some_left [] = false
is_some_left (b ∷ bs) = true

-- The first line is found, exactly where something is left, and what follows it is left then.
pub record GivesLine (found : Bool) (left line : List ℕ) (left' : Option (List ℕ)) : Type 0 where
  pub found_is : found ≡ is_some_left left
  pub line_is : line ≡ told (first_line left)
  pub rest_is : left' ≡ Some (behind_line left)

-- a beginning of the first line was read, and what follows it is left
pub record LosesPart (left line : List ℕ) (left' : Option (List ℕ)) : Type 0 where
  pub part : List ℕ
  pub rest : List ℕ
  pub remaining : left' ≡ Some rest
  pub whole : left ≡ part ++ rest
  pub inside : first_line left ≡ part ++ first_line rest
  pub line_is : line ≡ told part
