-- What is to hold of a stored value's grammar, of its reading and of its spelling.
use Rattle.std.specs.Prelude.{◌≡◌, ℕ, ◌↔◌, List, [], ◌∷◌, ◌++◌, length, Result, Ok, Err}
use Rattle.stored_fields.specs.Fields.{AreBytes}
use Rattle.stored_fields.specs.declared.fault.CodecError.{CodecError}
use Rattle.stored_fields.specs.declared.fault.CodecError.TheVariants.{Trailing}

-- bytes are the word of one value at most
abbrev pub HasOneReading : {A : Type 0} → (List ℕ → A → List ℕ → Type 0) → Type 0
HasOneReading {A} N = (bytes : List ℕ) (x y : A) → N bytes x [] → N bytes y [] → x ≡ y

-- the words are what is read to the end, each as its value
abbrev pub ReadsItsWords : {A : Type 0} → (List ℕ → Result A CodecError) → (List ℕ → A → List ℕ → Type 0) → Type 0
ReadsItsWords {A} read N = (bytes : List ℕ) (x : A) → (read bytes ≡ Ok x) ↔ N bytes x []

-- What is spelled is read again, and refused where its word ends if more follows.
abbrev pub DecodingUndoesEncoding : {A : Type 0} → (List ℕ → Result A CodecError) → (A → List ℕ) → (A → Type 0) → Type 0
DecodingUndoesEncoding {A} read spelling Fits =
    (x : A) → Fits x → (read (spelling x) ≡ Ok x) × ((b : ℕ) (more : List ℕ) → read (spelling x ++ b ∷ more) ≡ Err (Trailing (length (spelling x))))

-- what is read has a word, and that is the bytes
abbrev pub EncodingUndoesDecoding : {A : Type 0} → (List ℕ → Result A CodecError) → (A → List ℕ) → (A → Type 0) → Type 0
EncodingUndoesDecoding {A} read spelling Fits =
    (bytes : List ℕ) (x : A) → AreBytes bytes → read bytes ≡ Ok x → Fits x × (spelling x ≡ bytes)
