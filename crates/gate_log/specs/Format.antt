-- The format of a log: entries, each behind an open gate byte, and then one closed gate byte.
use Rattle.std.specs.Prelude.{◌≡◌, ◌≢◌, ◌⊎◌, ℕ, ◌+◌, ◌^◌, ◌<◌, Option, MatchOption, List, [], ◌∷◌, ◌++◌, length, take}
use Rattle.std.specs.Int.{w32, to_be_bytes, from_be_bytes}
use Rattle.std.specs.List.{AllByRecursion}

-- the gate byte C5, four bytes of length, and that many bytes
abbrev pub spelling : List ℕ → List ℕ
spelling bytes = 197 ∷ to_be_bytes w32 (length bytes) ++ bytes

abbrev pub spellings : List (List ℕ) → List ℕ
spellings [] = []
spellings (bytes ∷ entries) = spelling bytes ++ spellings entries

-- each has a length of four bytes
abbrev pub AreShort : List (List ℕ) → Type 0
AreShort = AllByRecursion (λ bytes. length bytes < 2 ^ 32)

-- The file reads as these entries: they stand at its beginning, up to the first closed gate. What is behind that
-- counts for nothing.
pub record Reads (entries : List (List ℕ)) (file : List ℕ) : Type 0 where
  pub gate : ℕ
  pub rest : List ℕ
  pub split : file ≡ spellings entries ++ gate ∷ rest
  pub closed : gate ≢ 197
  pub short : AreShort entries

-- no length stands at the beginning, or one that passes the end
abbrev pub HasNoEntry : List ℕ → Type 0
HasNoEntry bytes = (length bytes < 4) ⊎ (length bytes < 4 + from_be_bytes w32 (take 4 bytes))

-- an entry, and what is behind it
pub record IsNext (entry rest bytes : List ℕ) : Type 0 where
  pub split : bytes ≡ spelling entry ++ rest
  pub short : length entry < 2 ^ 32

-- a closed gate, and what is behind it
pub record IsClosed (bytes : List ℕ) : Type 0 where
  pub gate : ℕ
  pub rest : List ℕ
  pub split : bytes ≡ gate ∷ rest
  pub closed : gate ≢ 197

-- what stands in the place of the next gate: nothing, which breaks the format at place 0, or an open one before a
-- length, at place 1, that passes the end
abbrev pub Breaks : List ℕ → ℕ → Type 0
Breaks bytes field = ((bytes ≡ []) × (field ≡ 0)) ⊎ ((behind : List ℕ) × (bytes ≡ 197 ∷ behind) × HasNoEntry behind × (field ≡ 1))

-- Behind these entries the file breaks the format, first at this place.
pub record BreaksBehind (entries : List (List ℕ)) (place : ℕ) (file : List ℕ) : Type 0 where
  pub rest : List ℕ
  pub field : ℕ
  pub split : file ≡ spellings entries ++ rest
  pub short : AreShort entries
  pub breaks : Breaks rest field
  pub there : place ≡ length (spellings entries) + field

-- Behind some entries the file breaks the format, first at this place.
abbrev pub IsDamaged : ℕ → List ℕ → Type 0
IsDamaged place file = (entries : List (List ℕ)) × BreaksBehind entries place file

-- What a read finds: entries up to a closed gate, or those before the field that breaks the format at this place.
abbrev pub IsFound : List (List ℕ) → Option ℕ → List ℕ → Type 0
IsFound entries damage file = MatchOption damage (Reads entries file) (λ place. BreaksBehind entries place file)

-- A file reads as one list of entries at most, and then it isn't damaged; and it is damaged at one place at most.
abbrev pub IsOneReading : List ℕ → Type 0
IsOneReading file =
    ((es fs : List (List ℕ)) → Reads es file → Reads fs file → es ≡ fs)
    × ((es : List (List ℕ)) (p : ℕ) → Reads es file → IsDamaged p file → ⊥)
    × ((p q : ℕ) → IsDamaged p file → IsDamaged q file → p ≡ q)

-- the file reads as what it read as before, with one entry more at the end
abbrev pub Adds : List ℕ → List ℕ → List ℕ → Type 0
Adds bytes old new = (entries : List (List ℕ)) → Reads entries old → Reads (entries ++ bytes ∷ []) new

-- the file reads as what it read as before, with this entry at the end or without it
abbrev pub IsBeforeOrAfter : List ℕ → List ℕ → List ℕ → Type 0
IsBeforeOrAfter bytes old new = (entries : List (List ℕ)) → Reads entries old → Reads entries new ⊎ Reads (entries ++ bytes ∷ []) new

-- the file reads as what it read as before, or as no entry
abbrev pub IsBeforeOrEmpty : List ℕ → List ℕ → Type 0
IsBeforeOrEmpty old new = (entries : List (List ℕ)) → Reads entries old → Reads entries new ⊎ Reads [] new

-- The file is as it was, or reads as the same entries.
abbrev pub ReadsAlike : List ℕ → List ℕ → Type 0
ReadsAlike old new = (new ≡ old) ⊎ ((entries : List (List ℕ)) × Reads entries old × Reads entries new)
