-- What stands at the front of bytes, from left to right: a value and the bytes behind it, or the first fault.
use Rattle.std.specs.Prelude.{◌≡◌, ℕ, zero, suc, ◌-◌, ◌==◌, Bool, true, false, not, bit_and, ℤ, pos, negsuc, int_lt, unsigned_abs, List, [], ◌∷◌, length, take, drop, Option, Some, None, Result, Ok, Err, nat_lt, if◌then◌else◌}
use Rattle.std.specs.Int.{Width, w16, w32, w64, byte_len, cast_signed, from_be_bytes}
use Rattle.std.specs.Str.{is_utf8}
use Rattle.std.specs.Str.Lossy.{utf8_valid_len}
use Rattle.cs_base.specs.declared.level.Level.TheVariants as levels
use Rattle.body_notations.specs.declared.fault.Fault.{Fault}
use Rattle.body_notations.specs.declared.fault.Fault.TheVariants as faults
use Rattle.body_notations.specs.declared.fault.BodyError.{BodyError}
use Rattle.body_notations.specs.declared.fault.BodyError.TheVariants as errors
use Rattle.body_notations.specs.declared.value.Value.{Value}
use Rattle.body_notations.specs.declared.value.Value.TheVariants as values
use Rattle.body_notations.specs.declared.consistency.Consistency.{Consistency}
use Rattle.body_notations.specs.declared.consistency.Consistency.TheVariants as consistencies

infixl 10 ◌>>=◌
abbrev pub ◌>>=◌ : {A B : Type 0} → Result A Fault → (A → Result B Fault) → Result B Fault
(Ok x) >>= f = f x
(Err e) >>= f = Err e

-- a value and the bytes behind it, or a fault
abbrev pub Read : Type 0 → Type 0
Read A = Result (A × List ℕ) Fault

-- What a function returned, seen by view, is what reading gives, unless memory ran out.
abbrev pub Fails : {Y : Type 0} → Fault → Result Y Fault → Type 0
Fails faults.NoMemory read = Unit {0}
Fails e read = read ≡ Err e

abbrev pub Gives : {X Y : Type 0} → (X → Y) → Result X Fault → Result Y Fault → Type 0
Gives view (Ok x) read = read ≡ Ok (view x)
Gives view (Err e) read = Fails e read

-- ---- numbers

abbrev pub byte_at : List ℕ → Read ℕ
byte_at [] = Err (faults.Short 0)
byte_at (b ∷ rest) = Ok (b, rest)

abbrev pub number_at : Width → List ℕ → Read ℕ
number_at w bytes =
    if nat_lt (length bytes) (byte_len w) then Err (faults.Short (length bytes))
    else Ok (from_be_bytes w (take (byte_len w) bytes), drop (byte_len w) bytes)

abbrev pub short_at : List ℕ → Read ℕ
short_at = number_at w16

abbrev pub signed_at : Width → List ℕ → Read ℤ
signed_at w bytes = do
  n ← number_at w bytes
  Ok (cast_signed w n.0, n.1)

abbrev pub int_at : List ℕ → Read ℤ
int_at = signed_at w32

abbrev pub long_at : List ℕ → Read ℤ
long_at = signed_at w64

-- an [int] that says how many of something there are
abbrev pub count_of : ℤ × List ℕ → Read ℕ
count_of n = if int_lt n.0 (pos 0) then Err (faults.BadValue n.0) else Ok (unsigned_abs n.0, n.1)

unfoldable pub count_at : List ℕ → Read ℕ
count_at bytes = do
  n ← int_at bytes
  count_of n

abbrev pub consistency_of : ℕ → Result Consistency Fault
consistency_of code =
    if code == 0 then Ok consistencies.Any
    else (if code == 1 then Ok (consistencies.Level levels.One)
    else (if code == 2 then Ok (consistencies.Level levels.Two)
    else (if code == 3 then Ok (consistencies.Level levels.Three)
    else (if code == 4 then Ok (consistencies.Level levels.Quorum)
    else (if code == 5 then Ok (consistencies.Level levels.All)
    else (if code == 6 then Ok (consistencies.Level levels.LocalQuorum)
    else (if code == 7 then Ok consistencies.EachQuorum
    else (if code == 8 then Ok (consistencies.Level levels.Serial)
    else (if code == 9 then Ok (consistencies.Level levels.LocalSerial)
    else (if code == 10 then Ok (consistencies.Level levels.LocalOne)
    else Err (faults.BadConsistency code)))))))))))

unfoldable pub consistency_at : List ℕ → Read Consistency
consistency_at bytes = do
  code ← short_at bytes
  c ← consistency_of code.0
  Ok (c, code.1)

-- ---- texts and bytes

-- that many bytes
abbrev pub counted_at : ℕ → List ℕ → Read (List ℕ)
counted_at n bytes =
    if nat_lt (length bytes) n then Err (faults.Short (length bytes)) else Ok (take n bytes, drop n bytes)

-- that many bytes of UTF-8
abbrev pub text_at : ℕ → List ℕ → Read (List ℕ)
text_at n bytes = do
  text ← counted_at n bytes
  if is_utf8 text.0 then Ok text else Err (faults.NotUtf8 (length bytes - utf8_valid_len text.0))

unfoldable pub string_at : List ℕ → Read (List ℕ)
string_at bytes = do
  n ← short_at bytes
  text_at n.0 n.1

unfoldable pub long_string_at : List ℕ → Read (List ℕ)
long_string_at bytes = do
  n ← count_at bytes
  text_at n.0 n.1

unfoldable pub short_bytes_at : List ℕ → Read (List ℕ)
short_bytes_at bytes = do
  n ← short_at bytes
  counted_at n.0 n.1

abbrev pub nullable_at : ℤ → List ℕ → Read (Option (List ℕ))
nullable_at n bytes =
    if int_lt n (pos 0) then Ok (None, bytes)
    else (counted_at (unsigned_abs n) bytes >>= λ x. Ok (Some x.0, x.1))

unfoldable pub bytes_at : List ℕ → Read (Option (List ℕ))
bytes_at bytes = do
  n ← int_at bytes
  nullable_at n.0 n.1

abbrev pub value_of_length : ℤ → List ℕ → Read Value
value_of_length n bytes =
    if int_lt n (negsuc 1) then Err (faults.BadValue n)
    else (if int_lt n (negsuc 0) then Ok (values.NotSet, bytes)
    else (if int_lt n (pos 0) then Ok (values.Null, bytes)
    else (counted_at (unsigned_abs n) bytes >>= λ x. Ok (values.Given x.0, x.1))))

unfoldable pub value_at : List ℕ → Read Value
value_at bytes = do
  n ← int_at bytes
  value_of_length n.0 n.1

-- ---- lists

-- so many, one after another
unfoldable pub items_at : {A : Type 0} → (List ℕ → Read A) → ℕ → List ℕ → Read (List A)
items_at read zero bytes = Ok ([], bytes)
items_at read (suc n) bytes = do
  first ← read bytes
  others ← items_at read n first.1
  Ok (first.0 ∷ others.0, others.1)

unfoldable pub list_at : {A : Type 0} → (List ℕ → Read A) → List ℕ → Read (List A)
list_at read bytes = do
  n ← short_at bytes
  items_at read n.0 n.1

-- ---- parts

-- a part stands there if its flag is set
abbrev pub part_at : {A : Type 0} → Bool → (List ℕ → Read A) → List ℕ → Read (Option A)
part_at false read bytes = Ok (None, bytes)
part_at true read bytes = read bytes >>= λ x. Ok (Some x.0, x.1)

-- a flag is a number with one bit
abbrev pub is_set : ℕ → ℕ → Bool
is_set flags flag = not (bit_and flags flag == 0)

-- ---- what is passed over

-- the bytes behind a word
abbrev pub behind : {A : Type 0} → Read A → Result (List ℕ) Fault
behind read = read >>= λ x. Ok x.1

-- ---- bodies

abbrev pub place : ℕ → Fault → BodyError
place total (faults.Short left) = errors.Short (total - left)
place total (faults.NotUtf8 left) = errors.NotUtf8 (total - left)
place total (faults.BadValue n) = errors.BadValue n
place total faults.BadFlag = errors.BadFlag
place total (faults.BadConsistency code) = errors.BadConsistency code
place total faults.NoMemory = errors.NoMemory

-- nothing stands behind a body
abbrev pub ended : {A : Type 0} → A → List ℕ → Result A BodyError
ended x rest = if length rest == 0 then Ok x else Err (errors.Trailing (length rest))

-- what is read of a body of so many bytes
abbrev pub whole : {A : Type 0} → ℕ → Read A → Result A BodyError
whole total (Ok x) = ended x.0 x.1
whole total (Err e) = Err (place total e)

-- What was answered is this, unless memory ran out.
abbrev pub Refuses : {A : Type 0} → BodyError → Result A BodyError → Type 0
Refuses errors.NoMemory meaning = Unit {0}
Refuses e meaning = meaning ≡ Err e

abbrev pub Answers : {A : Type 0} → Result A BodyError → Result A BodyError → Type 0
Answers (Ok x) meaning = meaning ≡ Ok x
Answers (Err e) meaning = Refuses e meaning
