-- Pieces of bytes that come one after another, and a place in the first of them.
use Rattle.std.specs.Prelude.{ℕ, ◌≤◌, nat_le, if◌then◌else◌, List, [], ◌∷◌, length, drop, ⊤}

-- the pieces behind the first n bytes of the first one. A piece that has no more bytes is gone
abbrev pub past : ℕ → List (List ℕ) → List (List ℕ)
past n [] = []
past n (piece ∷ pieces) = if nat_le (length piece) n then pieces else drop n piece ∷ pieces

-- the same, but a piece that has no more bytes is still there
abbrev pub behind : ℕ → List (List ℕ) → List (List ℕ)
behind n [] = []
behind n (piece ∷ pieces) = drop n piece ∷ pieces

-- the first piece has so many bytes
abbrev pub IsInFirst : ℕ → List (List ℕ) → Type 0
IsInFirst n [] = ⊤
IsInFirst n (piece ∷ pieces) = n ≤ length piece
