-- Texts of which each byte stands for itself.
use Rattle.std.proofs.Common.{◌≡◌, ◌≢◌, ◌≤◌, ◌<◌, ℕ, suc, ◌+◌, ◌-◌, ◌∷◌, [], ◌++◌, Bool, true, false, cond, eqb, List, Option, Some, None, get_or, Result, Ok, Err, length, map, take, drop, refl, sym, ap, ◌∙◌, arith, subst, append_assoc}
use Rattle.std.specs.Result.{result_ok}
use Rattle.std.specs.Str.{IsAscii, is_utf8}
use Rattle.std.specs.Str.Lossy.{utf8_valid_len}
use Rattle.std.proofs.Math.Seq.{drop-cons, take-length}
use Rattle.std.proofs.lemmas.Bool.Decides.{nat_tests}
use Rattle.std.proofs.lemmas.List.{length-append, length-take-le, take-append-drop, take_at}
use Rattle.std.proofs.lemmas.Str.{IsUtf8-from_ascii, is_utf8-from_IsUtf8}
use Rattle.std.proofs.lemmas.Str.Ascii.{IsAscii-nil, IsAscii-cons}
use Rattle.cql_values.specs.Literals.{doubled}
use Rattle.cql_values.specs.Order.{escaped}
use Rattle.cql_values.specs.declared.error.ValueError.TheVariants as errors
use Rattle.cql_values.specs.declared.value.CqlType.{CqlType}
use Rattle.cql_values.specs.declared.value.CqlType.TheVariants as types
use Rattle.cql_values.specs.declared.value.CqlValue.TheVariants as values
use Rattle.schema_book.specs.declared.table.ColumnDef.{ColumnDef}
use Rattle.row_values.specs.Plain.{is_plain, is_text, plain_count, plain_text, IsPlainFront}
use Rattle.row_values.specs.Prints.{value_text}
use Rattle.row_values.specs.Values.{value_in}

-- what is so of a plain byte
record IsOne (b : ℕ) : Type 0 where
  zero : eqb b 0 ≡ false
  quote : eqb b 39 ≡ false
  ascii : b < 128

one : (b : ℕ) → is_plain b ≡ true → IsOne b
one b h = record { zero = grind (arith, nat_tests); quote = grind (arith, nat_tests); ascii = grind (arith, nat_tests) }

-- what is so of a text of plain bytes
pub record IsPlain (text : List ℕ) : Type 0 where
  pub doubled : doubled text ≡ text
  pub escaped : escaped text ≡ text ++ 0 ∷ 0 ∷ []
  pub ascii : IsAscii text

nothing : IsPlain []
nothing = record { doubled = refl; escaped = refl; ascii = IsAscii-nil }

more : (b : ℕ) (text : List ℕ) → IsOne b → IsPlain text → IsPlain (b ∷ text)
more b text o h = record {
  doubled = (λ i. cond (o.quote i) (39 ∷ 39 ∷ doubled text) (b ∷ doubled text)) ∙ ap (λ (bs : List ℕ). b ∷ bs) h.doubled;
  escaped = (λ i. cond (o.zero i) (0 ∷ 255 ∷ escaped text) (b ∷ escaped text)) ∙ ap (λ (bs : List ℕ). b ∷ bs) h.escaped;
  ascii = IsAscii-cons b text o.ascii h.ascii;
}

pub plain_front : (bytes : List ℕ) → IsPlain (take (plain_count bytes) bytes)
plain_front [] = nothing
plain_front (b ∷ bs) = go (is_plain b) refl (plain_front bs)
  where
    go : (p : Bool) → is_plain b ≡ p → IsPlain (take (plain_count bs) bs) → IsPlain (take (cond p (plain_count bs + 1) 0) (b ∷ bs))
    go true e later =
        let next : suc (plain_count bs) ≡ plain_count bs + 1 = omega arith in
        subst (λ (n : ℕ). IsPlain (take n (b ∷ bs))) next (more b (take (plain_count bs) bs) (one b e) later)
    go false e later = nothing

-- ---- a whole text

pub plain_all : (bytes : List ℕ) → plain_count bytes ≡ length bytes → IsPlain bytes
plain_all bytes h = subst IsPlain (ap (λ (n : ℕ). take n bytes) h ∙ take-length bytes) (plain_front bytes)

pub plain_word : (bytes : List ℕ) → plain_count bytes ≡ length bytes → value_text (value_in types.Text bytes) ≡ plain_text bytes
plain_word bytes h =
    let p = plain_all bytes h in
    ap (λ (u : Bool). value_text (result_ok (cond u (Ok (values.Text bytes)) (Err (errors.NotUtf8 (utf8_valid_len bytes)))))) (is_utf8-from_IsUtf8 bytes (IsUtf8-from_ascii bytes p.ascii))
    ∙ ap (λ (bs : List ℕ). 39 ∷ (bs ++ 39 ∷ [])) p.doubled

text_type : (ty : CqlType) → is_text ty ≡ true → ty ≡ types.Text
text_type types.Text h = refl
text_type ty h = absurd (cc)

pub plain_word_of : (ty : CqlType) (bytes : List ℕ) (len : ℕ) → is_text ty ≡ true → len ≡ plain_count bytes → eqb len (length bytes) ≡ true → value_text (value_in ty bytes) ≡ plain_text bytes
plain_word_of ty bytes len of_type at whole =
    let all : len ≡ length bytes = grind (arith, nat_tests) in
    ap (λ (t : CqlType). value_text (value_in t bytes)) (text_type ty of_type) ∙ plain_word bytes (sym at ∙ all)

-- ---- a text at the front of order bytes

not_uuid : types.Text ≡ types.Uuid → ⊥
not_uuid h = absurd (cc)

ended : (bytes : List ℕ) (len : ℕ) → len + 1 < length bytes → get_or bytes len 0 ≡ 0 → get_or bytes (len + 1) 0 ≡ 0 → drop len bytes ≡ 0 ∷ 0 ∷ drop (len + 2) bytes
ended bytes len within first second =
    let one_on : suc len ≡ len + 1 = omega arith in
    let two_on : suc (len + 1) ≡ len + 2 = omega arith in
    drop-cons bytes len 0 (omega arith)
    ∙ (λ i. first i ∷ drop (one_on i) bytes)
    ∙ ap (λ (bs : List ℕ). 0 ∷ bs) (drop-cons bytes (len + 1) 0 within ∙ (λ i. second i ∷ drop (two_on i) bytes))

pub plain_at : (column : ColumnDef) (bytes : List ℕ) (len : ℕ) → is_text column.ty ≡ true → column.is_descending ≡ false → len ≡ plain_count bytes → len + 1 < length bytes
    → get_or bytes len 0 ≡ 0 → get_or bytes (len + 1) 0 ≡ 0 → IsPlainFront column bytes len
plain_at column bytes len is_it ascending at inside first second =
    let of_type = text_type column.ty is_it in
    let rest = drop (len + 2) bytes in
    let ends = ended bytes len inside first second in
    let within : len ≤ length bytes = omega arith in
    let p : IsPlain (take len bytes) = subst (λ (n : ℕ). IsPlain (take n bytes)) (sym at) (plain_front bytes) in
    let text = take len bytes in
    let halves : bytes ≡ text ++ 0 ∷ 0 ∷ rest = sym (take-append-drop len bytes) ∙ ap (λ (bs : List ℕ). text ++ bs) ends in
    let front_len : length text ≡ len = length-take-le len bytes within in
    let word_len : length (text ++ 0 ∷ 0 ∷ []) ≡ length text + 2 = length-append text (0 ∷ 0 ∷ []) in
    let enough : len + 2 ≤ length bytes = omega arith in
    let whole : length (text ++ 0 ∷ 0 ∷ []) ≡ len + 2 = omega arith in
    let front : take (len + 2) bytes ≡ text ++ 0 ∷ 0 ∷ [] =
    ap (λ (bs : List ℕ). take (len + 2) bs) (halves ∙ sym (append_assoc text (0 ∷ 0 ∷ []) rest)) ∙ take_at (text ++ 0 ∷ 0 ∷ []) rest (len + 2) whole in
    record {
      within = enough;
      front = record {
        ordered = (λ e. absurd (not_uuid (sym of_type ∙ e)));
        within = enough;
        word = (sym of_type, IsUtf8-from_ascii text p.ascii, front ∙ sym p.escaped ∙ (λ i. cond (sym ascending i) (map (λ b. 255 - b) (escaped text)) (escaped text)));
      };
      literal = ap (λ (bs : List ℕ). 39 ∷ (bs ++ 39 ∷ [])) p.doubled;
    }
