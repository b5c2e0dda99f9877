-- Bytes are read as a text exactly where they are UTF-8.
use Rattle.std.proofs.Common.{◌≡◌, ℕ, ◌-◌, Bool, true, false, List, Ok, Err, refl, ap}
use Rattle.std.proofs.lemmas.Str.{is_utf8-from_IsUtf8, IsUtf8-from_is_utf8}
use Rattle.std.specs.Prelude.{length}
use Rattle.std.specs.Str.{IsUtf8, is_utf8}
use Rattle.std.specs.Str.Lossy.{utf8_valid_len}
use Rattle.body_notations.specs.Reading.{Read, behind, counted_at, text_at}
use Rattle.body_notations.specs.declared.fault.Fault.TheVariants.{NotUtf8}

no_utf8 : (bytes : List ℕ) → (IsUtf8 bytes → ⊥) → is_utf8 bytes ≡ false
no_utf8 bytes none = go (is_utf8 bytes) refl
  where
    go : (b : Bool) → is_utf8 bytes ≡ b → b ≡ false
    go true e = absurd (none (IsUtf8-from_is_utf8 bytes e))
    go false e = refl

pub text_is : (n : ℕ) (bytes text rest copy : List ℕ) → counted_at n bytes ≡ Ok (text, rest) → IsUtf8 text → copy ≡ text → text_at n bytes ≡ Ok (copy, rest)
text_is n bytes text rest copy h utf8 same =
    let read : Read (List ℕ) = Ok (text, rest) in
    rw (h, is_utf8-from_IsUtf8 text utf8, same) refl

pub none_is : (n : ℕ) (bytes text rest : List ℕ) (left : ℕ) → counted_at n bytes ≡ Ok (text, rest) → (IsUtf8 text → ⊥) → left ≡ length bytes - utf8_valid_len text → text_at n bytes ≡ Err (NotUtf8 left)
none_is n bytes text rest left h none is = rw (h, no_utf8 text none, is) refl

-- ---- a text that is passed over

pub behind_text : (n : ℕ) (bytes text rest : List ℕ) → counted_at n bytes ≡ Ok (text, rest) → IsUtf8 text → behind (text_at n bytes) ≡ Ok rest
behind_text n bytes text rest h utf8 = ap behind (text_is n bytes text rest text h utf8 refl)

pub behind_none : (n : ℕ) (bytes text rest : List ℕ) (left : ℕ) → counted_at n bytes ≡ Ok (text, rest) → (IsUtf8 text → ⊥) → left ≡ length bytes - utf8_valid_len text → behind (text_at n bytes) ≡ Err (NotUtf8 left)
behind_none n bytes text rest left h none is = ap behind (none_is n bytes text rest left h none is)
