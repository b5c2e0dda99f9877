-- Where a log goes on.
use Rattle.std.specs.Prelude.{◌≡◌, ◌≢◌, ℕ, ◌+◌, ◌^◌, ◌≤◌, List, [], ◌∷◌, ◌++◌, length}
use Rattle.gate_log.specs.Format.{spellings, AreShort}

-- the file's number, the place of its closed gate, and how many bytes the log has memory for
pub record Place : Type 0 where
  pub file : ℕ
  pub gate : ℕ
  pub room : ℕ

-- The file is entries and then one closed gate byte, at this place, and nothing else.
pub record IsAtRest (gate : ℕ) (file : List ℕ) : Type 0 where
  pub entries : List (List ℕ)
  pub byte : ℕ
  pub split : file ≡ spellings entries ++ byte ∷ []
  pub closed : byte ≢ 197
  pub short : AreShort entries
  pub place : gate ≡ length (spellings entries)

-- An entry of n bytes can be appended with no memory, and the file stays within 64 MiB.
pub record CanAppend (n : ℕ) (log : Place) (reserved : ℕ → ℕ) : Type 0 where
  pub buffer : n + 5 ≤ log.room
  pub store : log.gate + n + 6 ≤ reserved log.file
  pub limit : log.gate + n + 6 ≤ 2 ^ 26

-- the file begins with an open gate
pub record IsOpen (file : List ℕ) : Type 0 where
  pub rest : List ℕ
  pub split : file ≡ 197 ∷ rest
