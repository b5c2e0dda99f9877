-- The header that nine bytes spell, and the bytes that a header spells.
use Rattle.std.proofs.Common.{◌≡◌, ℕ, zero, suc, ◌+◌, ◌<◌, ◌≤◌, ◌^◌, List, [], ◌∷◌, ◌++◌, length, get_or, drop, to_z, of_z, ℤ, Bool, false, eqb, Some, None, refl, sym, ap, subst, ◌∙◌, arith}
use Rattle.std.specs.Int.{w16, w32, from_be_bytes, to_be_bytes}
use Rattle.std.proofs.Math.Facts.{sfits_to_z}
use Rattle.std.proofs.lemmas.Int.{of_z-to_z}
use Rattle.std.proofs.lemmas.Nat.{be_bytes_2, be_bytes_4}
use Rattle.frame_v4.specs.Spelling.{Header, header_bytes}
use Rattle.frame_v4.specs.Stream.{IsHeader, header_fault, IsPartial, in_header, IsFault, at_version, at_header}
use Rattle.frame_v4.specs.Reading.{header_fields, Passes}
use Rattle.frame_v4.specs.declared.error.FrameError.{FrameError}
use Rattle.frame_v4.specs.declared.error.FrameError.TheVariants.{Version}
use Rattle.frame_v4.specs.declared.header.RequestHeader.{RequestHeader}

abbrev pub IsBytes : List ℕ → Type 0
IsBytes bytes = (i : ℕ) → get_or bytes i 0 < 256

abbrev pub short_at : List ℕ → ℕ → ℕ
short_at bytes i = from_be_bytes w16 (get_or bytes i 0 ∷ get_or bytes (i + 1) 0 ∷ [])

abbrev pub int_at : List ℕ → ℕ → ℕ
int_at bytes i = from_be_bytes w32 (get_or bytes i 0 ∷ get_or bytes (i + 1) 0 ∷ get_or bytes (i + 2) 0 ∷ get_or bytes (i + 3) 0 ∷ [])

abbrev pub header_at : ℕ → ℤ → ℕ → ℤ → Header
header_at flags stream opcode size = record { flags = flags; stream = stream; opcode = opcode; body_length = size }

-- the header that the first nine bytes spell
abbrev pub spelled : List ℕ → Header
spelled bytes = record { flags = get_or bytes 1 0; stream = to_z w16 (short_at bytes 2); opcode = get_or bytes 4 0; body_length = to_z w32 (int_at bytes 5) }

short_fits : (bytes : List ℕ) (i : ℕ) → IsBytes bytes → short_at bytes i < 2 ^ 16
short_fits bytes i fits = omega (arith, fits i, fits (i + 1))

int_fits : (bytes : List ℕ) (i : ℕ) → IsBytes bytes → int_at bytes i < 2 ^ 32
int_fits bytes i fits = omega (arith, fits i, fits (i + 1), fits (i + 2), fits (i + 3))

pub spelled_fits : (bytes : List ℕ) → IsBytes bytes → IsHeader (spelled bytes)
spelled_fits bytes fits = record {
  stream = sfits_to_z (record { fits = short_fits bytes 2 fits });
  body_length = sfits_to_z (record { fits = int_fits bytes 5 fits });
}

pair_fits : (a b : ℕ) → a < 256 → b < 256 → IsBytes (a ∷ b ∷ [])
pair_fits a b x y zero = x
pair_fits a b x y (suc zero) = y
pair_fits a b x y (suc (suc i)) = omega arith

quad_fits : (a b c d : ℕ) → a < 256 → b < 256 → c < 256 → d < 256 → IsBytes (a ∷ b ∷ c ∷ d ∷ [])
quad_fits a b c d x y z w zero = x
quad_fits a b c d x y z w (suc zero) = y
quad_fits a b c d x y z w (suc (suc zero)) = z
quad_fits a b c d x y z w (suc (suc (suc zero))) = w
quad_fits a b c d x y z w (suc (suc (suc (suc i)))) = omega arith

pub spelled_bytes : (bytes : List ℕ) → IsBytes bytes → get_or bytes 0 0 ≡ 4 → 9 ≤ length bytes → bytes ≡ header_bytes 4 (spelled bytes) ++ drop 9 bytes
spelled_bytes (v ∷ flags ∷ s0 ∷ s1 ∷ opcode ∷ n0 ∷ n1 ∷ n2 ∷ n3 ∷ rest) fits version long =
    let bytes : List ℕ = v ∷ flags ∷ s0 ∷ s1 ∷ opcode ∷ n0 ∷ n1 ∷ n2 ∷ n3 ∷ rest in
    let stream : to_be_bytes w16 (of_z w16 (to_z w16 (short_at bytes 2))) ≡ s0 ∷ s1 ∷ [] =
    ap (to_be_bytes w16) (of_z-to_z w16 (short_at bytes 2) (short_fits bytes 2 fits)) ∙ be_bytes_2 (s0 ∷ s1 ∷ []) _ refl (pair_fits s0 s1 (fits 2) (fits 3)) refl in
    let size : to_be_bytes w32 (of_z w32 (to_z w32 (int_at bytes 5))) ≡ n0 ∷ n1 ∷ n2 ∷ n3 ∷ [] =
    ap (to_be_bytes w32) (of_z-to_z w32 (int_at bytes 5) (int_fits bytes 5 fits)) ∙ be_bytes_4 (n0 ∷ n1 ∷ n2 ∷ n3 ∷ []) _ refl (quad_fits n0 n1 n2 n3 (fits 5) (fits 6) (fits 7) (fits 8)) refl in
    cc
spelled_bytes bytes fits version long = absurd (omega arith)

-- what the code makes of the same bytes, whose signed numbers pass through their bits once more
pub read_is : (bytes : List ℕ) (stream size : ℤ) → IsBytes bytes → stream ≡ to_z w16 (short_at bytes 2) → size ≡ to_z w32 (int_at bytes 5)
    → header_at (get_or bytes 1 0) (to_z w16 (of_z w16 stream)) (get_or bytes 4 0) (to_z w32 (of_z w32 size)) ≡ spelled bytes
read_is bytes stream size fits s z =
    let again : to_z w16 (of_z w16 stream) ≡ to_z w16 (short_at bytes 2) = ap (λ x. to_z w16 (of_z w16 x)) s ∙ ap (to_z w16) (of_z-to_z w16 _ (short_fits bytes 2 fits)) in
    let twice : to_z w32 (of_z w32 size) ≡ to_z w32 (int_at bytes 5) = ap (λ x. to_z w32 (of_z w32 x)) z ∙ ap (to_z w32) (of_z-to_z w32 _ (int_fits bytes 5 fits)) in
    ap (λ x. header_at (get_or bytes 1 0) x (get_or bytes 4 0) (to_z w32 (of_z w32 size))) again ∙ ap (header_at (get_or bytes 1 0) (to_z w16 (short_at bytes 2)) (get_or bytes 4 0)) twice

pub passes : (bytes : List ℕ) (h : RequestHeader) (read : Header) → header_fields h ≡ read → header_fault read ≡ None → read ≡ spelled bytes → IsBytes bytes → get_or bytes 0 0 ≡ 4 → 9 ≤ length bytes
    → Passes h × (bytes ≡ header_bytes 4 (header_fields h) ++ drop 9 bytes)
passes bytes h read e none is fits version long =
    let same : spelled bytes ≡ header_fields h = sym (e ∙ is) in
    let P : Header → Type 0 = λ k. IsHeader k × (header_fault k ≡ None) × (bytes ≡ header_bytes 4 k ++ drop 9 bytes) in
    let at : P (header_fields h) = subst P same (spelled_fits bytes fits, ap header_fault (sym is) ∙ none, spelled_bytes bytes fits version long) in
    (record { fits = at.0; no_fault = at.1 }, at.2)

pub refused : (bytes : List ℕ) (error : FrameError) (read : Header) → header_fault read ≡ Some error → read ≡ spelled bytes → IsBytes bytes → get_or bytes 0 0 ≡ 4 → 9 ≤ length bytes → IsFault bytes error
refused bytes error read fault is fits version long = at_header (spelled bytes) (drop 9 bytes) (spelled_fits bytes fits) (ap header_fault (sym is) ∙ fault) (spelled_bytes bytes fits version long)

pub is_partial : (bytes : List ℕ) → 0 < length bytes → get_or bytes 0 0 ≡ 4 → length bytes < 9 → IsPartial bytes
is_partial [] some version short = absurd (omega arith)
is_partial (v ∷ rest) some version short = in_header rest (ap (λ x. x ∷ rest) version) short

pub other_version : (bytes : List ℕ) → 0 < length bytes → (get_or bytes 0 0 ≡ 4 → ⊥) → IsFault bytes (Version (get_or bytes 0 0))
other_version [] some other = absurd (omega arith)
other_version (v ∷ rest) some other = at_version v rest other refl refl

pub some_bytes : (bytes : List ℕ) (empty : Bool) → empty ≡ eqb (length bytes) 0 → empty ≡ false → 0 < length bytes
some_bytes [] empty is not = absurd cc
some_bytes (b ∷ bytes) empty is not = omega arith
