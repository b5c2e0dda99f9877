-- The bytes of a value in the protocol are read as that value, and nothing else is.
use Rattle.std.proofs.Common.{◌≡◌, ◌≢◌, ◌↔◌, ◌<◌, ◌≤◌, ◌==◌, ◌^◌, ℕ, ℤ, Bool, true, false, not, cond, eqb, IsTrue, List, [], ◌∷◌, length, get_or, Option, Some, None, Result, Ok, Err, position, nat_le, arith, refl, sym, ap, ◌∙◌, subst, eq-eqb, FitsSigned, Fits, ⊎_elim, nat_lt}
use Rattle.std.proofs.lemmas.Bool.{false≢true, cases_lt}
use Rattle.std.proofs.lemmas.Bool.Decides.{nat_tests}
use Rattle.std.proofs.lemmas.List.Quantifiers.{position-Some}
use Rattle.std.proofs.lemmas.List.{get_or_past}
use Rattle.std.proofs.lemmas.List.Sums.{fails_before_first}
use Rattle.std.specs.List.{position_or_len}
use Rattle.std.specs.Str.Lossy.{utf8_valid_len}
use Rattle.std.proofs.lemmas.Str.{IsUtf8-from_is_utf8, is_utf8-from_IsUtf8}
use Rattle.std.proofs.lemmas.Nat.{be_bytes_2, be_bytes_4, be_bytes_8, from_be_bytes-to_be_bytes_2, from_be_bytes-to_be_bytes_4, from_be_bytes-to_be_bytes_8}
use Rattle.std.proofs.Math.Facts.{Fits-of_z, sfits_to_z, to_z-of_z, of_z-to_z}
use Rattle.std.specs.Int.{w8, w16, w32, w64, w128, Width, cast_signed, cast_unsigned, to_be_bytes, from_be_bytes, bytes_high_first}
use Rattle.std.specs.Str.{IsAscii, is_utf8}
use Rattle.uuid.proofs.OrderLemmas.{from_be_bytes-to_be_bytes_16}
use Rattle.cql_values.proofs.Endian.{length-bytes_high_first, number, number-lt, bytes_high_first-number}
use Rattle.cql_values.specs.Value.{type_of, IsValue, IsBytes, uuid_version}
use Rattle.cql_values.specs.Protocol.{Spells, IsWord, decoded, of_width, ascii_unless, value_bytes}
use Rattle.cql_values.specs.declared.value.CqlType.{CqlType}
use Rattle.cql_values.specs.declared.value.CqlType.TheVariants as types
use Rattle.cql_values.specs.declared.value.CqlValue.{CqlValue}
use Rattle.cql_values.specs.declared.value.CqlValue.TheVariants as values
use Rattle.cql_values.specs.declared.error.ValueError.{ValueError}
use Rattle.cql_values.specs.declared.error.ValueError.TheVariants as errors

-- ---- tests

pub by_lt : {P : Type 0} (m n : ℕ) → (m < n → P) → (n ≤ m → P) → P
by_lt m n low high = ⊎_elim low high (cases_lt m n)

cond_ok : {A : Type 0} (b : Bool) (x : Result A ValueError) (e : ValueError) (y : A) → cond b x (Err e) ≡ Ok y → (b ≡ true) × (x ≡ Ok y)
cond_ok true x e y h = (refl, h)
cond_ok false x e y h = absurd (cc)

ok_same : {A : Type 0} {x y : A} → (let r : Result A ValueError = Ok x in r) ≡ Ok y → x ≡ y
ok_same h = cc

pub eqb_same : (m n : ℕ) → eqb m n ≡ true → m ≡ n
eqb_same m n h = grind (arith, nat_tests)

of_width_at : (n : ℕ) (bytes : List ℕ) (answer : Result CqlValue ValueError) → length bytes ≡ n → of_width n bytes answer ≡ answer
of_width_at n bytes answer e = ap (λ (b : Bool). cond b answer (Err (errors.BadLength (length bytes)))) (eq-eqb _ _ e)

of_width_ok : (n : ℕ) (bytes : List ℕ) (x v : CqlValue) → of_width n bytes (Ok x) ≡ Ok v → (length bytes ≡ n) × (x ≡ v)
of_width_ok n bytes x v h =
    let p = cond_ok (eqb (length bytes) n) (Ok x) (errors.BadLength (length bytes)) v h in
    (eqb_same _ _ p.0, ok_same p.1)

-- ---- ASCII

none_past : (m n : ℕ) → (let o : Option ℕ = cond (nat_lt m n) (Some m) None in o) ≡ None → n ≤ m
none_past m n h = by_lt m n (λ l. absurd (grind (arith, nat_tests))) (λ l. l)

pub ascii_from_none : (bytes : List ℕ) → position (nat_le 128) bytes ≡ None → IsAscii bytes
ascii_from_none bytes e i =
    by_lt i (length bytes)
    (λ l.
    let past : length bytes ≤ position_or_len (nat_le 128) bytes = none_past (position_or_len (nat_le 128) bytes) (length bytes) e in
    let fails : nat_le 128 (get_or bytes i 0) ≡ false = fails_before_first (nat_le 128) bytes i 0 (omega arith) in
    grind (arith, nat_tests))
    (λ l. let zero : get_or bytes i 0 ≡ 0 = get_or_past bytes i 0 l in omega arith)

pub none_from_ascii : (bytes : List ℕ) → IsAscii bytes → position (nat_le 128) bytes ≡ None
none_from_ascii bytes ascii = go (position (nat_le 128) bytes) refl
  where
    go : (o : Option ℕ) → position (nat_le 128) bytes ≡ o → o ≡ None
    go None e = refl
    go (Some at) e =
        let found = position-Some (nat_le 128) bytes at 0 e in
        let low : get_or bytes at 0 < 128 = ascii at in
        absurd (false≢true (sym (let f : nat_le 128 (get_or bytes at 0) ≡ false = grind (arith, nat_tests) in f) ∙ found.1))

-- ---- numbers

number_16 : (bytes : List ℕ) → length bytes ≡ 16 → from_be_bytes w128 bytes ≡ number bytes
number_16 (a ∷ b ∷ c ∷ d ∷ e ∷ f ∷ g ∷ h ∷ i ∷ j ∷ k ∷ l ∷ m ∷ n ∷ o ∷ p ∷ []) len = omega arith
number_16 bytes len = absurd (omega arith)

pub be_bytes_16 : (bytes : List ℕ) → length bytes ≡ 16 → IsBytes bytes → to_be_bytes w128 (from_be_bytes w128 bytes) ≡ bytes
be_bytes_16 bytes len small =
    let P : ℕ → Type 0 = λ k. bytes_high_first k (number bytes) ≡ bytes in
    ap (to_be_bytes w128) (number_16 bytes len) ∙ subst P len (bytes_high_first-number bytes small)

pub below_16 : (bytes : List ℕ) → length bytes ≡ 16 → IsBytes bytes → from_be_bytes w128 bytes < 2 ^ 128
below_16 bytes len small =
    let P : ℕ → Type 0 = λ k. number bytes < 256 ^ k in
    let low : number bytes < 256 ^ 16 = subst P len (number-lt bytes small) in
    let e = number_16 bytes len in
    omega arith

signed_again : (w : Width) (z : ℤ) (bytes : List ℕ) → FitsSigned w z → bytes ≡ to_be_bytes w (cast_unsigned w z)
    → from_be_bytes w (to_be_bytes w (cast_unsigned w z)) ≡ cast_unsigned w z → cast_signed w (from_be_bytes w bytes) ≡ z
signed_again w z bytes fits spelled back = ap (λ (l : List ℕ). cast_signed w (from_be_bytes w l)) spelled ∙ ap (cast_signed w) back ∙ to_z-of_z fits

long : (w : Width) (k n : ℕ) (bytes : List ℕ) → bytes ≡ bytes_high_first k n → length bytes ≡ k
long w k n bytes e = ap length e ∙ length-bytes_high_first k n

-- ---- what is spelled is read

byte_test : (byte : ℕ) (b : Bool) → IsTrue b ↔ (byte ≢ 0) → not (byte == 0) ≡ b
byte_test byte true h = let other : byte ≢ 0 = h.0 refl in grind (arith, nat_tests)
byte_test byte false h = go (eqb byte 0) refl
  where
    go : (t : Bool) → eqb byte 0 ≡ t → not t ≡ false
    go true e = refl
    go false e = absurd (false≢true (h.1 (λ is_zero. false≢true (sym e ∙ eq-eqb byte 0 is_zero))))

pub spelled_is_decoded : (bytes : List ℕ) (v : CqlValue) → IsValue v → Spells bytes v → decoded (type_of v) bytes ≡ Ok v
spelled_is_decoded bytes (values.Ascii text) ascii spelled =
    subst (λ (l : List ℕ). ascii_unless l (position (nat_le 128) l) ≡ Ok (values.Ascii text)) (sym spelled)
    (ap (ascii_unless text) (none_from_ascii text ascii))
spelled_is_decoded bytes (values.Bigint n) fits spelled =
    of_width_at 8 bytes _ (long w64 8 _ bytes spelled)
    ∙ ap (λ (z : ℤ). Ok (values.Bigint z)) (signed_again w64 n bytes fits spelled (from_be_bytes-to_be_bytes_8 _ (let f : Fits w64 (cast_unsigned w64 n) = Fits-of_z fits in omega arith)))
spelled_is_decoded bytes (values.Blob text) fits spelled = ap (λ (l : List ℕ). Ok (values.Blob l)) spelled
spelled_is_decoded bytes (values.Boolean b) fits spelled =
    of_width_at 1 bytes _ spelled.0 ∙ ap (λ (t : Bool). Ok (values.Boolean t)) (byte_test (get_or bytes 0 0) b spelled.1)
spelled_is_decoded bytes (values.Int n) fits spelled =
    of_width_at 4 bytes _ (long w32 4 _ bytes spelled)
    ∙ ap (λ (z : ℤ). Ok (values.Int z)) (signed_again w32 n bytes fits spelled (from_be_bytes-to_be_bytes_4 _ (let f : Fits w32 (cast_unsigned w32 n) = Fits-of_z fits in omega arith)))
spelled_is_decoded bytes (values.Timestamp n) fits spelled =
    of_width_at 8 bytes _ (long w64 8 _ bytes spelled)
    ∙ ap (λ (z : ℤ). Ok (values.Timestamp z)) (signed_again w64 n bytes fits spelled (from_be_bytes-to_be_bytes_8 _ (let f : Fits w64 (cast_unsigned w64 n) = Fits-of_z fits in omega arith)))
spelled_is_decoded bytes (values.Uuid uuid) fits spelled =
    of_width_at 16 bytes _ (long w128 16 uuid bytes spelled)
    ∙ ap (λ (m : ℕ). Ok (values.Uuid m)) (ap (from_be_bytes w128) spelled ∙ from_be_bytes-to_be_bytes_16 uuid fits)
spelled_is_decoded bytes (values.Text text) utf8 spelled =
    subst (λ (l : List ℕ). cond (is_utf8 l) (Ok (values.Text l)) (Err (errors.NotUtf8 (utf8_valid_len l))) ≡ Ok (values.Text text)) (sym spelled)
    (ap (λ (b : Bool). cond b (Ok (values.Text text)) (Err (errors.NotUtf8 (utf8_valid_len text)))) (is_utf8-from_IsUtf8 text utf8))
spelled_is_decoded bytes (values.Timeuuid uuid) fits spelled =
    of_width_at 16 bytes _ (long w128 16 uuid bytes spelled)
    ∙ ap (λ (m : ℕ). cond (eqb (uuid_version m) 1) (Ok (values.Timeuuid m)) (Err errors.NotTimeuuid)) (ap (from_be_bytes w128) spelled ∙ from_be_bytes-to_be_bytes_16 uuid fits.0)
    ∙ ap (λ (b : Bool). cond b (Ok (values.Timeuuid uuid)) (Err errors.NotTimeuuid)) (eq-eqb _ _ fits.1)
spelled_is_decoded bytes (values.Smallint n) fits spelled =
    of_width_at 2 bytes _ (long w16 2 _ bytes spelled)
    ∙ ap (λ (z : ℤ). Ok (values.Smallint z)) (signed_again w16 n bytes fits spelled (from_be_bytes-to_be_bytes_2 _ (let f : Fits w16 (cast_unsigned w16 n) = Fits-of_z fits in omega arith)))
spelled_is_decoded bytes (values.Tinyint n) fits spelled =
    of_width_at 1 bytes _ (ap length spelled)
    ∙ ap (λ (z : ℤ). Ok (values.Tinyint z)) (ap (λ (l : List ℕ). cast_signed w8 (get_or l 0 0)) spelled ∙ to_z-of_z fits)

pub word_is_decoded : (ty : CqlType) (bytes : List ℕ) (v : CqlValue) → IsWord ty bytes v → decoded ty bytes ≡ Ok v
word_is_decoded ty bytes v word =
    subst (λ (t : CqlType). decoded t bytes ≡ Ok v) word.of_type (spelled_is_decoded bytes v word.value word.spelling)

-- ---- what is read is spelled

signed_spelling : (w : Width) (bytes : List ℕ) → Fits w (from_be_bytes w bytes) → to_be_bytes w (from_be_bytes w bytes) ≡ bytes
    → bytes ≡ to_be_bytes w (cast_unsigned w (cast_signed w (from_be_bytes w bytes)))
signed_spelling w bytes fits back = sym (ap (to_be_bytes w) (of_z-to_z fits) ∙ back)

pub fits_8 : (bytes : List ℕ) → IsBytes bytes → Fits w64 (from_be_bytes w64 bytes)
fits_8 bytes small = record { fits = omega (arith, small 0, small 1, small 2, small 3, small 4, small 5, small 6, small 7) }

pub fits_4 : (bytes : List ℕ) → IsBytes bytes → Fits w32 (from_be_bytes w32 bytes)
fits_4 bytes small = record { fits = omega (arith, small 0, small 1, small 2, small 3) }

pub fits_2 : (bytes : List ℕ) → IsBytes bytes → Fits w16 (from_be_bytes w16 bytes)
fits_2 bytes small = record { fits = omega (arith, small 0, small 1) }

boolean_spelling : (byte : ℕ) → IsTrue (not (byte == 0)) ↔ (byte ≢ 0)
boolean_spelling byte = (λ t e. grind (arith, nat_tests), λ other. grind (arith, nat_tests))

pub one_byte : (bytes : List ℕ) → length bytes ≡ 1 → bytes ≡ get_or bytes 0 0 ∷ []
one_byte [] len = absurd (omega arith)
one_byte (b ∷ []) len = refl
one_byte (b ∷ c ∷ bs) len = absurd (omega arith)

pub decoded_is_word : (ty : CqlType) (bytes : List ℕ) (v : CqlValue) → IsBytes bytes → decoded ty bytes ≡ Ok v → IsWord ty bytes v
decoded_is_word types.Ascii bytes v small h = go (position (nat_le 128) bytes) refl h
  where
    go : (o : Option ℕ) → position (nat_le 128) bytes ≡ o → ascii_unless bytes o ≡ Ok v → IsWord types.Ascii bytes v
    go None e g = subst (IsWord types.Ascii bytes) (ok_same g) (record { of_type = refl; value = ascii_from_none bytes e; spelling = refl })
    go (Some at) e g = absurd (cc)
decoded_is_word types.Bigint bytes v small h =
    let p = of_width_ok 8 bytes _ v h in
    subst (IsWord types.Bigint bytes) p.1 (record { of_type = refl; value = sfits_to_z (fits_8 bytes small); spelling = signed_spelling w64 bytes (fits_8 bytes small) (be_bytes_8 bytes _ p.0 small refl) })
decoded_is_word types.Blob bytes v small h = subst (IsWord types.Blob bytes) (ok_same h) (record { of_type = refl; value = small; spelling = refl })
decoded_is_word types.Boolean bytes v small h =
    let p = of_width_ok 1 bytes _ v h in
    subst (IsWord types.Boolean bytes) p.1 (record { of_type = refl; value = tt; spelling = (p.0, boolean_spelling (get_or bytes 0 0)) })
decoded_is_word types.Int bytes v small h =
    let p = of_width_ok 4 bytes _ v h in
    subst (IsWord types.Int bytes) p.1 (record { of_type = refl; value = sfits_to_z (fits_4 bytes small); spelling = signed_spelling w32 bytes (fits_4 bytes small) (be_bytes_4 bytes _ p.0 small refl) })
decoded_is_word types.Timestamp bytes v small h =
    let p = of_width_ok 8 bytes _ v h in
    subst (IsWord types.Timestamp bytes) p.1 (record { of_type = refl; value = sfits_to_z (fits_8 bytes small); spelling = signed_spelling w64 bytes (fits_8 bytes small) (be_bytes_8 bytes _ p.0 small refl) })
decoded_is_word types.Uuid bytes v small h =
    let p = of_width_ok 16 bytes _ v h in
    subst (IsWord types.Uuid bytes) p.1 (record { of_type = refl; value = below_16 bytes p.0 small; spelling = sym (be_bytes_16 bytes p.0 small) })
decoded_is_word types.Text bytes v small h =
    let p = cond_ok (is_utf8 bytes) (Ok (values.Text bytes)) (errors.NotUtf8 (utf8_valid_len bytes)) v h in
    subst (IsWord types.Text bytes) (ok_same p.1) (record { of_type = refl; value = IsUtf8-from_is_utf8 bytes p.0; spelling = refl })
decoded_is_word types.Timeuuid bytes v small h =
    let uuid = from_be_bytes w128 bytes in
    let sized = cond_ok (eqb (length bytes) 16) (cond (eqb (uuid_version uuid) 1) (Ok (values.Timeuuid uuid)) (Err errors.NotTimeuuid)) (errors.BadLength (length bytes)) v h in
    let len : length bytes ≡ 16 = eqb_same _ _ sized.0 in
    let p = cond_ok (eqb (uuid_version uuid) 1) (Ok (values.Timeuuid uuid)) errors.NotTimeuuid v sized.1 in
    subst (IsWord types.Timeuuid bytes) (ok_same p.1) (record { of_type = refl; value = (below_16 bytes len small, eqb_same _ _ p.0); spelling = sym (be_bytes_16 bytes len small) })
decoded_is_word types.Smallint bytes v small h =
    let p = of_width_ok 2 bytes _ v h in
    subst (IsWord types.Smallint bytes) p.1 (record { of_type = refl; value = sfits_to_z (fits_2 bytes small); spelling = signed_spelling w16 bytes (fits_2 bytes small) (be_bytes_2 bytes _ p.0 small refl) })
decoded_is_word types.Tinyint bytes v small h =
    let p = of_width_ok 1 bytes _ v h in
    let byte : Fits w8 (get_or bytes 0 0) = record { fits = small 0 } in
    subst (IsWord types.Tinyint bytes) p.1 (record { of_type = refl; value = sfits_to_z byte; spelling = one_byte bytes p.0 ∙ ap (λ (m : ℕ). m ∷ []) (sym (of_z-to_z byte)) })

-- ---- written, and read again

pub written_spells : (v : CqlValue) → IsValue v → Spells (value_bytes v) v
written_spells (values.Ascii text) value = refl
written_spells (values.Bigint n) value = refl
written_spells (values.Blob bytes) value = refl
written_spells (values.Boolean true) value = (refl, (λ t e. absurd (omega arith), λ other. refl))
written_spells (values.Boolean false) value = (refl, (λ t. absurd (false≢true t), λ other. absurd (other refl)))
written_spells (values.Int n) value = refl
written_spells (values.Timestamp n) value = refl
written_spells (values.Uuid uuid) value = refl
written_spells (values.Text text) value = refl
written_spells (values.Timeuuid uuid) value = refl
written_spells (values.Smallint n) value = refl
written_spells (values.Tinyint n) value = refl

pub written_word : (v : CqlValue) → IsValue v → IsWord (type_of v) (value_bytes v) v
written_word v value = record { of_type = refl; value = value; spelling = written_spells v value }

spelled_bytes : (v : CqlValue) (bytes : List ℕ) → (type_of v ≡ types.Boolean → ⊥) → Spells bytes v → bytes ≡ value_bytes v
spelled_bytes (values.Boolean b) bytes other s = absurd (other refl)
spelled_bytes (values.Ascii text) bytes other s = s
spelled_bytes (values.Bigint n) bytes other s = s
spelled_bytes (values.Blob text) bytes other s = s
spelled_bytes (values.Int n) bytes other s = s
spelled_bytes (values.Timestamp n) bytes other s = s
spelled_bytes (values.Uuid uuid) bytes other s = s
spelled_bytes (values.Text text) bytes other s = s
spelled_bytes (values.Timeuuid uuid) bytes other s = s
spelled_bytes (values.Smallint n) bytes other s = s
spelled_bytes (values.Tinyint n) bytes other s = s

pub written_back : (ty : CqlType) (bytes : List ℕ) (v : CqlValue) → IsBytes bytes → (ty ≡ types.Boolean → ⊥) → decoded ty bytes ≡ Ok v → value_bytes v ≡ bytes
written_back ty bytes v small other h =
    let word = decoded_is_word ty bytes v small h in
    sym (spelled_bytes v bytes (λ e. other (sym word.of_type ∙ e)) word.spelling)
