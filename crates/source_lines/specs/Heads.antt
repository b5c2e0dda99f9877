-- Heads: lines up to the line `run`.
use Rattle.std.specs.Prelude.{◌≡◌, ℕ, ◌+◌, ◌≤◌, Bool, true, ◌&&◌, ◌==◌, if◌then◌else◌, List, [], ◌∷◌, ◌++◌, length, take, drop, codes, Option, Some, None, IfSome, ◌⊎◌}
use Rattle.std.specs.Str.{bytes_eq}
use Rattle.source_lines.specs.Lines.{GivesByte}

-- what belongs to a head of these bytes, behind the beginning of a line
abbrev pub head_from : List ℕ → List ℕ → List ℕ
head_from line [] = []
head_from line (b ∷ bs) =
    b ∷ (if b == 10 then (if bytes_eq line (codes "run") then [] else head_from [] bs) else head_from (line ++ b ∷ []) bs)

-- the lines up to and with the first one that is just `run`, or all lines where there is none
abbrev pub head_of : List ℕ → List ℕ
head_of bytes = head_from [] bytes

-- The head is read, or of a longer one a byte more than the longest has. What follows it is left then.
pub record GivesHead (longest : ℕ) (left head : List ℕ) (left' : Option (List ℕ)) : Type 0 where
  pub head_is : head ≡ take (longest + 1) (head_of left)
  pub rest_is : left' ≡ Some (drop (length head) left)

-- a beginning of the head was read, and what follows it is left
pub record LosesFront (longest : ℕ) (left : List ℕ) (left' : Option (List ℕ)) : Type 0 where
  pub count : ℕ
  pub within : count ≤ length (take (longest + 1) (head_of left))
  pub rest_is : left' ≡ Some (drop count left)

-- ---- a head that is read byte by byte

-- what was read, its last line, and whether it has no more bytes
pub record HeadSoFar : Type 0 where
  pub bytes : List ℕ
  pub line : List ℕ
  pub ended : Bool

-- a byte more
abbrev pub with_byte : HeadSoFar → ℕ → HeadSoFar
with_byte h b = record {
  bytes = h.bytes ++ b ∷ [];
  line = if b == 10 then [] else h.line ++ b ∷ [];
  ended = b == 10 && bytes_eq h.line (codes "run");
}

abbrev pub ended_here : HeadSoFar → HeadSoFar
ended_here h = record h { ended = true }

abbrev pub with_next : HeadSoFar → Option ℕ → HeadSoFar
with_next h None = ended_here h
with_next h (Some b) = with_byte h b

-- the head takes the next byte that is left, or ends where none is
pub record TakesNext (left : Option (List ℕ)) (h h' : HeadSoFar) (left' : Option (List ℕ)) : Type 0 where
  pub byte : Option ℕ
  pub gives : IfSome left (λ bytes. GivesByte byte bytes left')
  pub head_is : h' ≡ with_next h byte

-- all is still left, or all but one byte
abbrev pub LosesOne : List ℕ → Option (List ℕ) → Type 0
LosesOne left left' = (left' ≡ Some left) ⊎ ((b : ℕ) × GivesByte (Some b) left left')
