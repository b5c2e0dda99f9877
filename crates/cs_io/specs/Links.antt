-- What a link that tells what is still to come gives, and what a link in memory keeps.
use Rattle.std.specs.Prelude.{◌≡◌, ℕ, ◌+◌, ◌-◌, ◌^◌, ◌≤◌, ◌<◌, min, Bool, ◌==◌, List, [], ◌∷◌, length, Option, Some, ⊤}
use Rattle.std.specs.List.{list_any}
use Rattle.cs_io.specs.Streams.{Takes}
use Rattle.cs_io.specs.declared.link.Heard.{Heard}
use Rattle.cs_io.specs.declared.link.Heard.TheVariants.{Bytes, Idle, End}

-- as many bytes as a buffer of this length has room for, and none only where it has no room
abbrev pub FitsIn : ℕ → Heard → Type 0
FitsIn room (Bytes n) = (n ≤ room) × (0 < room → 0 < n)
FitsIn room Idle = ⊤
FitsIn room End = ⊤

-- Bytes are a beginning of what is left. An idle leaves all as it was. The end comes where nothing is left
abbrev pub Hears : Heard → (left buffer buffer' : List ℕ) → Option (List ℕ) → Type 0
Hears (Bytes n) left buffer buffer' left' = Takes n left buffer buffer' left'
Hears Idle left buffer buffer' left' = (buffer' ≡ buffer) × (left' ≡ Some left)
Hears End left buffer buffer' left' = (left ≡ []) × (buffer' ≡ buffer) × (left' ≡ Some [])

-- An idle comes exactly where some are still to come before the next bytes, and is then one of them. None follows the end
abbrev pub Idles : Heard → ℕ → Option ℕ → Type 0
Idles (Bytes n) idles idles' = idles ≡ 0
Idles Idle idles idles' = (0 < idles) × (idles' ≡ Some (idles - 1))
Idles End idles idles' = (idles ≡ 0) × (idles' ≡ Some 0)

-- what a read into a buffer of n bytes hears of these pieces, of which an empty one is an idle
abbrev pub heard_of : List (List ℕ) → ℕ → Heard
heard_of [] n = End
heard_of ([] ∷ pieces) n = Idle
heard_of ((b ∷ piece) ∷ pieces) n = Bytes (min (length (b ∷ piece)) n)

-- how many pieces are empty before the first that is not
abbrev pub idles_of : List (List ℕ) → ℕ
idles_of [] = 0
idles_of ([] ∷ pieces) = idles_of pieces + 1
idles_of ((b ∷ piece) ∷ pieces) = 0

-- a link in memory: the pieces that are still to come, what was written, how many bytes a write takes at most, the calls
-- that are to fail, by their number from 1 on, how many calls there were, and how many faults
pub record MemLinkState : Type 0 where
  pub pieces : List (List ℕ)
  pub written : List ℕ
  pub most : ℕ
  pub failing : List ℕ
  pub calls : ℕ
  pub faults : ℕ

-- the number of the next call, be it a read or a write
abbrev pub next_call : MemLinkState → ℕ
next_call s = min (s.calls + 1) (2 ^ 64 - 1)

-- the next call is listed
abbrev pub fails : MemLinkState → Bool
fails s = list_any (λ call. call == next_call s) s.failing
