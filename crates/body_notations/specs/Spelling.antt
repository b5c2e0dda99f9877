-- How values are written in the notations.
use Rattle.std.specs.Prelude.{ℕ, ℤ, ◌-◌, ◌<◌, ◌^◌, List, [], ◌++◌, length, Option, Some, None, FitsSigned}
use Rattle.std.specs.Int.{w16, w32, w64, cast_unsigned, to_be_bytes}
use Rattle.std.specs.List.{flat_map, AllByRecursion}
use Rattle.std.specs.Str.{IsUtf8}
use Rattle.body_notations.specs.Notations.{consistency_code}
use Rattle.body_notations.specs.declared.value.Value.{Value}
use Rattle.body_notations.specs.declared.value.Value.TheVariants as values
use Rattle.body_notations.specs.declared.consistency.Consistency.{Consistency}

-- ---- numbers

abbrev pub short : ℕ → List ℕ
short = to_be_bytes w16

abbrev pub int : ℤ → List ℕ
int n = to_be_bytes w32 (cast_unsigned w32 n)

abbrev pub long : ℤ → List ℕ
long n = to_be_bytes w64 (cast_unsigned w64 n)

-- an [int] that is not below 0
abbrev pub count : ℕ → List ℕ
count = to_be_bytes w32

abbrev pub consistency : Consistency → List ℕ
consistency c = short (consistency_code c)

-- ---- texts and bytes

abbrev pub string : List ℕ → List ℕ
string text = short (length text) ++ text

abbrev pub long_string : List ℕ → List ℕ
long_string text = count (length text) ++ text

abbrev pub short_bytes : List ℕ → List ℕ
short_bytes = string

-- null is written as -1
abbrev pub bytes : Option (List ℕ) → List ℕ
bytes None = count (2 ^ 32 - 1)
bytes (Some content) = count (length content) ++ content

abbrev pub value : Value → List ℕ
value values.Null = count (2 ^ 32 - 1)
value values.NotSet = count (2 ^ 32 - 2)
value (values.Given content) = count (length content) ++ content

-- ---- lists

abbrev pub list : {A : Type 0} → (A → List ℕ) → List A → List ℕ
list spelling xs = short (length xs) ++ flat_map spelling xs

-- nothing, where a part is left out
abbrev pub part : {A : Type 0} → (A → List ℕ) → Option A → List ℕ
part spelling None = []
part spelling (Some x) = spelling x

-- ---- what is not too long for its length

abbrev pub Always : {A : Type 0} → A → Type 0
Always x = Unit {0}

abbrev pub FitsShort : {A : Type 0} → List A → Type 0
FitsShort xs = length xs < 2 ^ 16

abbrev pub FitsInt : {A : Type 0} → List A → Type 0
FitsInt xs = length xs < 2 ^ 31

abbrev pub BytesFit : Option (List ℕ) → Type 0
BytesFit None = Unit {0}
BytesFit (Some content) = FitsInt content

abbrev pub ValueFits : Value → Type 0
ValueFits values.Null = Unit {0}
ValueFits values.NotSet = Unit {0}
ValueFits (values.Given content) = FitsInt content

abbrev pub ListFits : {A : Type 0} → (A → Type 0) → List A → Type 0
ListFits fits xs = FitsShort xs × AllByRecursion fits xs

abbrev pub PartFits : {A : Type 0} → (A → Type 0) → Option A → Type 0
PartFits fits None = Unit {0}
PartFits fits (Some x) = fits x

-- ---- what has a word: the numbers of a width, and texts that are UTF-8 and not too long

abbrev pub IsShortNumber : ℕ → Type 0
IsShortNumber n = n < 2 ^ 16

abbrev pub IsIntNumber : ℤ → Type 0
IsIntNumber n = FitsSigned w32 n

abbrev pub IsLongNumber : ℤ → Type 0
IsLongNumber n = FitsSigned w64 n

abbrev pub IsStringText : List ℕ → Type 0
IsStringText text = FitsShort text × IsUtf8 text

abbrev pub IsLongStringText : List ℕ → Type 0
IsLongStringText text = FitsInt text × IsUtf8 text

-- [bytes] that are null have other spellings beside the one that is written
abbrev pub IsNotNull : Option (List ℕ) → Type 0
IsNotNull None = ⊥
IsNotNull (Some content) = Unit {0}
