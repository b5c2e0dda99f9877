-- What stands at the front of bytes, from left to right: a value and the bytes behind it, or the first fault.
use Rattle.std.specs.Prelude.{◌≡◌, ℕ, zero, suc, ◌-◌, ◌==◌, Bool, true, false, ℤ, Option, Some, None, List, [], ◌∷◌, length, take, drop, Result, Ok, Err, nat_lt, nat_le, if◌then◌else◌}
use Rattle.std.specs.Int.{Width, w16, w32, w64, byte_len, cast_signed, from_be_bytes}
use Rattle.cs_base.specs.declared.ids.ReqId.{ReqId}
use Rattle.stored_fields.specs.declared.fault.Fault.{Fault}
use Rattle.stored_fields.specs.declared.fault.Fault.TheVariants as faults
use Rattle.stored_fields.specs.declared.fault.CodecError.{CodecError}
use Rattle.stored_fields.specs.declared.fault.CodecError.TheVariants as errors

infixl 10 ◌>>=◌
abbrev pub ◌>>=◌ : {A B : Type 0} → Result A Fault → (A → Result B Fault) → Result B Fault
(Ok x) >>= f = f x
(Err e) >>= f = Err e

-- a value and the bytes behind it, or a fault
abbrev pub Read : Type 0 → Type 0
Read A = Result (A × List ℕ) Fault

-- What a function returned, seen by view, is what reading gives, unless memory ran out.
abbrev pub Fails : {Y : Type 0} → Fault → Result Y Fault → Type 0
Fails faults.NoMemory read = Unit {0}
Fails e read = read ≡ Err e

abbrev pub Gives : {X Y : Type 0} → (X → Y) → Result X Fault → Result Y Fault → Type 0
Gives view (Ok x) read = read ≡ Ok (view x)
Gives view (Err e) read = Fails e read

-- ---- numbers

abbrev pub u8_at : List ℕ → Read ℕ
u8_at [] = Err (faults.Short 0)
u8_at (n ∷ rest) = Ok (n, rest)

abbrev pub number_at : Width → List ℕ → Read ℕ
number_at w bytes =
    if nat_lt (length bytes) (byte_len w) then Err (faults.Short (length bytes))
    else Ok (from_be_bytes w (take (byte_len w) bytes), drop (byte_len w) bytes)

abbrev pub u16_at : List ℕ → Read ℕ
u16_at = number_at w16

abbrev pub u32_at : List ℕ → Read ℕ
u32_at = number_at w32

abbrev pub u64_at : List ℕ → Read ℕ
u64_at = number_at w64

abbrev pub i64_at : List ℕ → Read ℤ
i64_at bytes = do
  n ← u64_at bytes
  Ok (cast_signed w64 n.0, n.1)

-- ---- bytes that tell of something

-- a byte that tells nothing is a fault where it stands
abbrev pub flag_of : ℕ → ℕ × List ℕ → Read Bool
flag_of left n =
    if n.0 == 0 then Ok (false, n.1)
    else (if n.0 == 1 then Ok (true, n.1)
    else Err (faults.Tag left))

unfoldable pub flag_at : List ℕ → Read Bool
flag_at bytes = do
  n ← u8_at bytes
  flag_of (length bytes) n

abbrev pub node_of : ℕ → ℕ × List ℕ → Read ℕ
node_of left n = if nat_le n.0 6 then Ok n else Err (faults.Tag left)

unfoldable pub node_at : List ℕ → Read ℕ
node_at bytes = do
  n ← u8_at bytes
  node_of (length bytes) n

unfoldable pub request_at : List ℕ → Read ReqId
request_at bytes = do
  node ← node_at bytes
  time ← u64_at node.1
  Ok (record { node = node.0; time = time.0 }, time.1)

-- ---- byte fields

-- that many bytes, of a field that began where so many were left
abbrev pub content_at : ℕ → ℕ → List ℕ → Read (List ℕ)
content_at left n bytes =
    if nat_lt (length bytes) n then Err (faults.Short left) else Ok (take n bytes, drop n bytes)

unfoldable pub field_at : List ℕ → Read (List ℕ)
field_at bytes = do
  n ← u32_at bytes
  content_at (length bytes) n.0 n.1

-- ---- several words

abbrev pub part_of : {A : Type 0} → (List ℕ → Read A) → Bool → List ℕ → Read (Option A)
part_of read false bytes = Ok (None, bytes)
part_of read true bytes = read bytes >>= λ x. Ok (Some x.0, x.1)

unfoldable pub optional_at : {A : Type 0} → (List ℕ → Read A) → List ℕ → Read (Option A)
optional_at read bytes = do
  there ← flag_at bytes
  part_of read there.0 there.1

-- so many, one after another, each read by what next keeps of the one before it
unfoldable pub items_at : {S A : Type 0} → (S → List ℕ → Read A) → (A → S) → S → ℕ → List ℕ → Read (List A)
items_at read next before zero bytes = Ok ([], bytes)
items_at read next before (suc n) bytes = do
  first ← read before bytes
  others ← items_at read next (next first.0) n first.1
  Ok (first.0 ∷ others.0, others.1)

-- ---- the whole

abbrev pub place : ℕ → Fault → CodecError
place total (faults.Short left) = errors.Short (total - left)
place total (faults.Tag left) = errors.Tag (total - left)
place total (faults.Order left) = errors.Order (total - left)
place total faults.NoMemory = errors.NoMemory

-- nothing stands behind a value
abbrev pub ended : {A : Type 0} → ℕ → A → List ℕ → Result A CodecError
ended total x rest = if length rest == 0 then Ok x else Err (errors.Trailing (total - length rest))

-- what is read of so many bytes
abbrev pub whole : {A : Type 0} → ℕ → Read A → Result A CodecError
whole total (Ok x) = ended total x.0 x.1
whole total (Err e) = Err (place total e)

-- What was answered is this, unless memory ran out.
abbrev pub Refuses : {A : Type 0} → CodecError → Result A CodecError → Type 0
Refuses errors.NoMemory meaning = Unit {0}
Refuses e meaning = meaning ≡ Err e

abbrev pub Answers : {A : Type 0} → Result A CodecError → Result A CodecError → Type 0
Answers (Ok x) meaning = meaning ≡ Ok x
Answers (Err e) meaning = Refuses e meaning
