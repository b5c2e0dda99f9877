-- The format of a commit log: a gate log in which each word is that of an entry.
use Rattle.std.specs.Prelude.{◌≡◌, ◌⊎◌, ℕ, ◌+◌, ◌^◌, ◌<◌, List, [], ◌∷◌, ◌++◌, length, Err}
use Rattle.gate_log.specs.Format.{spelling, spellings, AreShort, Reads, BreaksBehind}
use Rattle.row_change.specs.declared.entry.LogEntry.{LogEntry}
use Rattle.row_change.specs.Grammar.{IsEntry}
use Rattle.row_change.specs.Reading.{entry_in}
use Rattle.stored_fields.specs.declared.fault.CodecError.{CodecError}
use Rattle.stored_fields.specs.declared.fault.CodecError.TheVariants as errors

-- each is the word of the entry at its place
abbrev pub AreEntries : List (List ℕ) → List LogEntry → Type 0
AreEntries [] [] = Unit {0}
AreEntries [] (entry ∷ entries) = ⊥
AreEntries (word ∷ words) [] = ⊥
AreEntries (word ∷ words) (entry ∷ entries) = IsEntry word entry [] × AreEntries words entries

-- The file reads as these entries: it is a gate log, and its words are theirs.
pub record ReadsEntries (entries : List LogEntry) (file : List ℕ) : Type 0 where
  pub words : List (List ℕ)
  pub reads : Reads words file
  pub each : AreEntries words entries

-- the field that a refusal names begins at this offset
abbrev pub IsAt : CodecError → ℕ → Type 0
IsAt (errors.Short at) offset = at ≡ offset
IsAt (errors.Tag at) offset = at ≡ offset
IsAt (errors.Order at) offset = at ≡ offset
IsAt (errors.Trailing at) offset = at ≡ offset
IsAt errors.NoMemory offset = ⊥

-- The word is no entry's: the first field that breaks the grammar begins at this offset.
pub record BreaksEntry (word : List ℕ) (offset : ℕ) : Type 0 where
  pub error : CodecError
  pub refused : entry_in word ≡ Err error
  pub there : IsAt error offset

-- Behind entries stands a word that is none: it breaks at this place. What is behind the word counts for nothing.
pub record BreaksInEntry (place : ℕ) (file : List ℕ) : Type 0 where
  pub words : List (List ℕ)
  pub entries : List LogEntry
  pub word : List ℕ
  pub rest : List ℕ
  pub offset : ℕ
  pub split : file ≡ spellings words ++ (spelling word ++ rest)
  pub short : AreShort words
  pub fits : length word < 2 ^ 32
  pub each : AreEntries words entries
  pub breaks : BreaksEntry word offset
  pub there : place ≡ length (spellings words) + 5 + offset

-- Behind entries the log breaks its own format at this place.
pub record BreaksAtGate (place : ℕ) (file : List ℕ) : Type 0 where
  pub words : List (List ℕ)
  pub entries : List LogEntry
  pub each : AreEntries words entries
  pub breaks : BreaksBehind words place file

-- The first field of the file that breaks the format, of the log or of an entry, is at this place.
abbrev pub IsDamaged : ℕ → List ℕ → Type 0
IsDamaged place file = BreaksInEntry place file ⊎ BreaksAtGate place file

-- A file reads as one list of entries at most, and then it isn't damaged; and it is damaged at one place at most.
abbrev pub IsOneReading : List ℕ → Type 0
IsOneReading file =
    ((es fs : List LogEntry) → ReadsEntries es file → ReadsEntries fs file → es ≡ fs)
    × ((es : List LogEntry) (p : ℕ) → ReadsEntries es file → IsDamaged p file → ⊥)
    × ((p q : ℕ) → IsDamaged p file → IsDamaged q file → p ≡ q)

-- the file reads as what it read as before, with one entry more at the end
abbrev pub Adds : LogEntry → List ℕ → List ℕ → Type 0
Adds entry old new = (entries : List LogEntry) → ReadsEntries entries old → ReadsEntries (entries ++ entry ∷ []) new

-- the file reads as what it read as before, with this entry at the end or without it
abbrev pub IsBeforeOrAfter : LogEntry → List ℕ → List ℕ → Type 0
IsBeforeOrAfter entry old new = (entries : List LogEntry) → ReadsEntries entries old → ReadsEntries entries new ⊎ ReadsEntries (entries ++ entry ∷ []) new

-- The file is as it was, or reads as the same entries.
abbrev pub ReadsAlike : List ℕ → List ℕ → Type 0
ReadsAlike old new = (new ≡ old) ⊎ ((entries : List LogEntry) × ReadsEntries entries old × ReadsEntries entries new)

-- With the word behind an open gate where a file of entries has its closed one, and a closed gate behind the word, the file
-- reads as the entries and this one, and as nothing else.
abbrev pub IsAppended : LogEntry → List ℕ → Type 0
IsAppended entry word =
    (entries : List LogEntry) (old : List ℕ) (reads : ReadsEntries entries old)
    → let new = spellings reads.words ++ (spelling word ++ 0 ∷ []) in ReadsEntries (entries ++ entry ∷ []) new × ((es : List LogEntry) → ReadsEntries es new → es ≡ entries ++ entry ∷ [])
