-- A literal of a value is read as that value, nothing else is, and what is printed is a literal of the value.
use Rattle.std.proofs.Common.{◌≡◌, ◌⊎◌, ◌<◌, ◌+◌, ◌*◌, ◌^◌, ◌&&◌, ◌||◌, ℕ, suc, ℤ, pos, negsuc, neg_ℤ, Bool, true, false, cond, eqb, nat_lt, List, [], ◌∷◌, length, get_or, drop, Option, Some, None, Result, Ok, Err, IfOk, arith, refl, sym, ap, ◌∙◌, subst, eq-eqb, inl, inr, ⊎_elim, FitsSigned}
use Rattle.std.specs.Prelude.{option_map}
use Rattle.std.specs.Int.{Width, w8, w16, w32, w64, w128, to_be_bytes, from_be_bytes}
use Rattle.std.specs.List.{list_all}
use Rattle.std.specs.Result.{result_ok}
use Rattle.std.specs.Str.{IsUtf8, IsAscii, all_ascii_digits, bytes_eq, str_to_ascii_lowercase}
use Rattle.std.specs.Str.Parse.{IsNumeral}
use Rattle.std.specs.Fmt.{signed_decimal, decimal}
use Rattle.std.proofs.lemmas.Bool.{false≢true}
use Rattle.std.proofs.lemmas.Bool.Decides.{nat_tests}
use Rattle.std.proofs.lemmas.Fmt.{decimal_is_IsNumeral}
use Rattle.std.proofs.lemmas.List.{get_or_past}
use Rattle.std.proofs.lemmas.List.Sums.{AllPass-from_list_all}
use Rattle.std.proofs.lemmas.Grind.{get_or_default_zero}
use Rattle.std.proofs.lemmas.Slice.Eq.{bytes_eq-Decides}
use Rattle.std.proofs.lemmas.Str.Parse.{not_in_digits}
use Rattle.hex.specs.Hex.{decode_of, encode_lower}
use Rattle.hex.specs.declared.error.FromHexError.{FromHexError}
use Rattle.hex.proofs.HexLemmas.{decode_of-ok, decode_of-encode_lower}
use Rattle.uuid.specs.Text.{parsed_hyphenated, parsed_simple, hyphenated_text, lower, digits_of, has_hyphens, byte_of_digits, by_index, is_hex_digit, value_of}
use Rattle.uuid.proofs.TextLemmas.{by_index_length, by_index_at}
use Rattle.uuid.proofs.RoundTrips.{parses_hyphenated_text}
use Rattle.uuid.proofs.OrderLemmas.{from_be_bytes-to_be_bytes_16}
use lib.Signed.{mag}
use mir.Val.{hbits}
use Rattle.cql_values.proofs.Endian.{length-bytes_high_first, small-bytes_high_first}
use Rattle.cql_values.proofs.Words.{by_lt, be_bytes_16, below_16, eqb_same}
use Rattle.cql_values.proofs.Quotes.{by_bool, cond_true, cond_false, unquoted-sound, unquoted-quoted}
use Rattle.cql_values.proofs.Numbers.{own, natural_some, natural_is, mapped}
use Rattle.cql_values.proofs.LiteralWords.{word_ok, all_ascii, utf8_content}
use Rattle.cql_values.specs.Value.{type_of, IsValue, IsBytes, uuid_version}
use Rattle.cql_values.specs.Literals.{kind_of, unquoted, IsWhole, IsBlob, IsLiteral, Means, boolean_text, literal_text, natural_of, whole_of, blob_of, uuid_of, boolean_of, fits_bits, within_bits, result_map, word, ascii_word, timeuuid_word, literal_value, Answers}
use Rattle.cql_values.specs.declared.value.CqlType.{CqlType}
use Rattle.cql_values.specs.declared.value.CqlType.TheVariants as types
use Rattle.cql_values.specs.declared.value.CqlValue.{CqlValue}
use Rattle.cql_values.specs.declared.value.CqlValue.TheVariants as values
use Rattle.cql_values.specs.declared.error.LiteralError.{LiteralError}
use Rattle.cql_values.specs.declared.error.LiteralError.TheVariants as errors

-- ---- ASCII

pub ascii_from_all : (bytes : List ℕ) → list_all (λ c. nat_lt c 128) bytes ≡ true → IsAscii bytes
ascii_from_all bytes all i =
    by_lt i (length bytes)
    (λ l. let passes : nat_lt (get_or bytes i 0) 128 ≡ true = AllPass-from_list_all (λ c. nat_lt c 128) bytes all i 0 l in grind (arith, nat_tests))
    (λ l. let zero : get_or bytes i 0 ≡ 0 = get_or_past bytes i 0 l in omega arith)

-- ---- whole numbers

first_is : (text : List ℕ) (c : ℕ) → get_or text 0 0 ≡ suc c → text ≡ suc c ∷ drop 1 text
first_is [] c e = absurd (omega arith)
first_is (x ∷ xs) c e = ap (λ (y : ℕ). y ∷ xs) e

numeral_from : (ds : List ℕ) → 0 < length ds → all_ascii_digits ds ≡ true → IsNumeral 10 ds
numeral_from ds long digits = (long, own.to ds digits)

pub whole_of-sound : (text : List ℕ) (n : ℤ) → whole_of text ≡ Some n → IsWhole text n
whole_of-sound text n h =
    by_bool (eqb (get_or text 0 0) 45)
    (λ e.
    let at : get_or text 0 0 ≡ 45 = eqb_same _ _ e in
    let m = mapped (λ k. neg_ℤ (pos k)) (natural_of (drop 1 text)) n (sym (cond_true (eqb (get_or text 0 0) 45) _ _ e) ∙ h) in
    let d = natural_some (drop 1 text) m.0 m.1 in
    (drop 1 text, numeral_from (drop 1 text) d.long d.digits, inr (first_is text 44 at, sym (ap (λ k. neg_ℤ (pos k)) d.value ∙ m.2))))
    (λ e.
    let m = mapped pos (natural_of text) n (sym (cond_false (eqb (get_or text 0 0) 45) _ _ e) ∙ h) in
    let d = natural_some text m.0 m.1 in
    (text, numeral_from text d.long d.digits, inl (refl, sym (ap pos d.value ∙ m.2))))

pub whole_of-complete : (text : List ℕ) (n : ℤ) → IsWhole text n → whole_of text ≡ Some n
whole_of-complete text n (ds, numeral, inl (e, is)) =
    let digits = own.from ds numeral.1 in
    let no_minus = not_in_digits own ds 45 digits (λ r. omega arith) 0 numeral.0 in
    let test : eqb (get_or ds 0 0) 45 ≡ false = grind (arith, nat_tests) in
    ap whole_of e ∙ cond_false (eqb (get_or ds 0 0) 45) _ _ test ∙ ap (option_map pos) (natural_is ds numeral.0 digits) ∙ ap Some (sym is)
whole_of-complete text n (ds, numeral, inr (e, is)) =
    ap whole_of e ∙ ap (option_map (λ k. neg_ℤ (pos k))) (natural_is ds numeral.0 (own.from ds numeral.1)) ∙ ap Some (sym is)

fits_from : (w : Width) (h : ℕ) (n : ℤ) → hbits w ≡ h → fits_bits h n ≡ true → FitsSigned w n
fits_from w h (pos n) wide e = record { sfits = subst (λ (k : ℕ). n < 2 ^ k) (sym wide) (grind (arith, nat_tests)) }
fits_from w h (negsuc n) wide e = record { sfits = subst (λ (k : ℕ). n < 2 ^ k) (sym wide) (grind (arith, nat_tests)) }

fits_to : (w : Width) (h : ℕ) (n : ℤ) → hbits w ≡ h → FitsSigned w n → fits_bits h n ≡ true
fits_to w h (pos n) wide f = let low : n < 2 ^ h = subst (λ (k : ℕ). n < 2 ^ k) wide f.sfits in grind (arith, nat_tests)
fits_to w h (negsuc n) wide f = let low : n < 2 ^ h = subst (λ (k : ℕ). n < 2 ^ k) wide f.sfits in grind (arith, nat_tests)

result_same : {A : Type 0} {x y : A} → (let r : Result A LiteralError = Ok x in r) ≡ Ok y → x ≡ y
result_same h = cc

within_ok : (h : ℕ) (o : Option ℤ) (n : ℤ) → within_bits h o ≡ Ok n → (o ≡ Some n) × (fits_bits h n ≡ true)
within_ok h None n e = absurd (cc)
within_ok h (Some m) n e = go (fits_bits h m) refl e
  where
    go : (b : Bool) → fits_bits h m ≡ b → (let r : Result ℤ LiteralError = cond b (Ok m) (Err errors.OutOfRange) in r) ≡ Ok n → (Some m ≡ Some n) × (fits_bits h n ≡ true)
    go true f g = (ap Some (result_same g), subst (λ (k : ℤ). fits_bits h k ≡ true) (result_same g) f)
    go false f g = absurd (cc)

result_mapped : {A B : Type 0} (f : A → B) (r : Result A LiteralError) (y : B) → result_map f r ≡ Ok y → (x : A) × (r ≡ Ok x) × (f x ≡ y)
result_mapped f (Ok x) y h = (x, refl, result_same h)
result_mapped f (Err e) y h = absurd (cc)

number_at : (w : Width) (h : ℕ) (text : List ℕ) (n : ℤ) → hbits w ≡ h → FitsSigned w n → IsWhole text n → within_bits h (whole_of text) ≡ Ok n
number_at w h text n wide fits whole =
    ap (within_bits h) (whole_of-complete text n whole) ∙ cond_true (fits_bits h n) (Ok n) (Err errors.OutOfRange) (fits_to w h n wide fits)

number_found : (w : Width) (h : ℕ) (text : List ℕ) (make : ℤ → CqlValue) (v : CqlValue) → hbits w ≡ h → result_map make (within_bits h (whole_of text)) ≡ Ok v
    → (n : ℤ) × (make n ≡ v) × FitsSigned w n × IsWhole text n
number_found w h text make v wide e =
    let r = result_mapped make (within_bits h (whole_of text)) v e in
    let p = within_ok h (whole_of text) r.0 r.1 in
    (r.0, r.2, fits_from w h r.0 wide p.1, whole_of-sound text r.0 p.0)

-- ---- blobs

ok_found : (r : Result (List ℕ) FromHexError) (bytes : List ℕ) → result_ok r ≡ Some bytes → r ≡ Ok bytes
ok_found (Ok x) bytes h = ap Ok (let s : x ≡ bytes = cc in s)
ok_found (Err e) bytes h = absurd (cc)

prefix_cases : (a b c : Bool) → (a && (b || c)) ≡ true → (a ≡ true) × ((b ≡ true) ⊎ (c ≡ true))
prefix_cases true true c h = (refl, inl refl)
prefix_cases true false c h = (refl, inr h)
prefix_cases false b c h = absurd (false≢true h)

two_are : (text : List ℕ) (x : ℕ) → get_or text 0 0 ≡ 48 → get_or text 1 0 ≡ suc x → text ≡ 48 ∷ suc x ∷ drop 2 text
two_are [] x a b = absurd (omega arith)
two_are (c ∷ []) x a b = absurd (omega arith)
two_are (c ∷ d ∷ cs) x a b = ap (λ (y : ℕ). y ∷ d ∷ cs) a ∙ ap (λ (y : ℕ). 48 ∷ y ∷ cs) b

abbrev prefix : List ℕ → Bool
prefix text = eqb (get_or text 0 0) 48 && (eqb (get_or text 1 0) 120 || eqb (get_or text 1 0) 88)

pub blob_of-sound : (text bytes : List ℕ) → blob_of text ≡ Some bytes → IsBlob text bytes
blob_of-sound text bytes h =
    by_bool (prefix text)
    (λ e.
    let p = prefix_cases (eqb (get_or text 0 0) 48) (eqb (get_or text 1 0) 120) (eqb (get_or text 1 0) 88) e in
    let decoded : decode_of (drop 2 text) ≡ Ok bytes = ok_found (decode_of (drop 2 text)) bytes (sym (cond_true (prefix text) (result_ok (decode_of (drop 2 text))) None e) ∙ h) in
    ⊎_elim
    (λ x. (120, drop 2 text, two_are text 119 (eqb_same _ _ p.0) (eqb_same _ _ x), inl refl, decoded))
    (λ x. (88, drop 2 text, two_are text 87 (eqb_same _ _ p.0) (eqb_same _ _ x), inr refl, decoded))
    p.1)
    (λ e. absurd (cc (sym (cond_false (prefix text) (result_ok (decode_of (drop 2 text))) None e) ∙ h)))

pub blob_of-complete : (text bytes : List ℕ) → IsBlob text bytes → blob_of text ≡ Some bytes
blob_of-complete text bytes (x, digits, e, inl is, found) =
    ap blob_of (e ∙ ap (λ (y : ℕ). 48 ∷ y ∷ digits) is) ∙ ap result_ok found
blob_of-complete text bytes (x, digits, e, inr is, found) =
    ap blob_of (e ∙ ap (λ (y : ℕ). 48 ∷ y ∷ digits) is) ∙ ap result_ok found

-- ---- uuids

digit_small : (c : ℕ) → is_hex_digit c ≡ true → value_of c < 16
digit_small c h = grind (arith, nat_tests)

some_bytes : (hex bytes : List ℕ) → parsed_simple hex ≡ Some bytes → (length bytes ≡ 16) × IsBytes bytes
some_bytes hex bytes h = go (eqb (length hex) 32) (list_all is_hex_digit hex) refl refl h
  where
    go : (a b : Bool) → eqb (length hex) 32 ≡ a → list_all is_hex_digit hex ≡ b
        → (let o : Option (List ℕ) = cond (a && b) (Some (by_index 16 (byte_of_digits hex))) None in o) ≡ Some bytes → (length bytes ≡ 16) × IsBytes bytes
    go true true len digits g =
        let is : by_index 16 (byte_of_digits hex) ≡ bytes = cc in
        let long : length hex ≡ 32 = eqb_same _ _ len in
        let sized : length (by_index 16 (byte_of_digits hex)) ≡ 16 = by_index_length 16 (byte_of_digits hex) in (
          ap length (sym is) ∙ sized,
          λ i.
              subst (λ (l : List ℕ). get_or l i 0 < 256) is
              (by_lt i 16
              (λ l.
              let at : get_or (by_index 16 (byte_of_digits hex)) i 0 ≡ byte_of_digits hex i = by_index_at 16 (byte_of_digits hex) i 0 l in
              let high = digit_small (get_or hex (2 * i) 0) (AllPass-from_list_all is_hex_digit hex digits (2 * i) 0 (omega arith)) in
              let low = digit_small (get_or hex (2 * i + 1) 0) (AllPass-from_list_all is_hex_digit hex digits (2 * i + 1) 0 (omega arith)) in
              subst (λ (b : ℕ). b < 256) (sym at) (omega arith))
              (λ l. let zero : get_or (by_index 16 (byte_of_digits hex)) i 0 ≡ 0 = get_or_past (by_index 16 (byte_of_digits hex)) i 0 (omega arith) in omega arith)),
        )
    go true false len digits g = absurd (cc)
    go false b len digits g = absurd (cc)

hyphenated_bytes : (text bytes : List ℕ) → parsed_hyphenated text ≡ Some bytes → (length bytes ≡ 16) × IsBytes bytes
hyphenated_bytes text bytes h =
    by_bool (eqb (length text) 36 && has_hyphens text)
    (λ e. some_bytes (digits_of text) bytes (sym (cond_true (eqb (length text) 36 && has_hyphens text) (parsed_simple (digits_of text)) None e) ∙ h))
    (λ e. absurd (cc (sym (cond_false (eqb (length text) 36 && has_hyphens text) (parsed_simple (digits_of text)) None e) ∙ h)))

pub uuid_of-sound : (text : List ℕ) (uuid : ℕ) → uuid_of text ≡ Some uuid → (parsed_hyphenated text ≡ Some (to_be_bytes w128 uuid)) × (uuid < 2 ^ 128)
uuid_of-sound text uuid h =
    let m = mapped (from_be_bytes w128) (parsed_hyphenated text) uuid h in
    let sized = hyphenated_bytes text m.0 m.1 in (
      m.1 ∙ ap Some (sym (ap (to_be_bytes w128) (sym m.2) ∙ be_bytes_16 m.0 sized.0 sized.1)),
      subst (λ (n : ℕ). n < 2 ^ 128) m.2 (below_16 m.0 sized.0 sized.1),
    )

pub uuid_of-complete : (text : List ℕ) (uuid : ℕ) → uuid < 2 ^ 128 → parsed_hyphenated text ≡ Some (to_be_bytes w128 uuid) → uuid_of text ≡ Some uuid
uuid_of-complete text uuid fits h = ap (option_map (from_be_bytes w128)) h ∙ ap Some (from_be_bytes-to_be_bytes_16 uuid fits)

-- ---- booleans

boolean_of-sound : (text : List ℕ) (b : Bool) → boolean_of text ≡ Some b → str_to_ascii_lowercase text ≡ boolean_text b
boolean_of-sound text b h =
    let low = str_to_ascii_lowercase text in
    by_bool (bytes_eq low (boolean_text true))
    (λ e.
    let is : true ≡ b = cc (sym (cond_true (bytes_eq low (boolean_text true)) (Some true) _ e) ∙ h) in
    (bytes_eq-Decides low (boolean_text true)).0 e ∙ ap boolean_text is)
    (λ e.
    let g = sym (cond_false (bytes_eq low (boolean_text true)) (Some true) (cond (bytes_eq low (boolean_text false)) (Some false) None) e) ∙ h in
    by_bool (bytes_eq low (boolean_text false))
    (λ f.
    let is : false ≡ b = cc (sym (cond_true (bytes_eq low (boolean_text false)) (Some false) None f) ∙ g) in
    (bytes_eq-Decides low (boolean_text false)).0 f ∙ ap boolean_text is)
    (λ f. absurd (cc (sym (cond_false (bytes_eq low (boolean_text false)) (Some false) None f) ∙ g))))

boolean_of-complete : (text : List ℕ) (b : Bool) → str_to_ascii_lowercase text ≡ boolean_text b → boolean_of text ≡ Some b
boolean_of-complete text true h =
    cond_true (bytes_eq (str_to_ascii_lowercase text) (boolean_text true)) (Some true) _ ((bytes_eq-Decides (str_to_ascii_lowercase text) (boolean_text true)).1 h)
boolean_of-complete text false h =
    ap (λ (l : List ℕ). (let o : Option Bool = cond (bytes_eq l (boolean_text true)) (Some true) (cond (bytes_eq l (boolean_text false)) (Some false) None) in o)) h

-- ---- each literal of a value is read

pub literal_is_read : (text : List ℕ) (v : CqlValue) → IsValue v → IsLiteral text v → literal_value (type_of v) text ≡ Ok v
literal_is_read text (values.Ascii content) ascii literal =
    ap ascii_word (ap unquoted literal ∙ unquoted-quoted content)
    ∙ cond_true (list_all (λ c. nat_lt c 128) content) (Ok (values.Ascii content)) (Err errors.Malformed) (all_ascii content ascii)
literal_is_read text (values.Bigint n) fits whole = ap (result_map values.Bigint) (number_at w64 63 text n refl fits whole)
literal_is_read text (values.Blob bytes) small blob = ap (word values.Blob) (blob_of-complete text bytes blob)
literal_is_read text (values.Boolean b) fits literal = ap (word values.Boolean) (boolean_of-complete text b literal)
literal_is_read text (values.Int n) fits whole = ap (result_map values.Int) (number_at w32 31 text n refl fits whole)
literal_is_read text (values.Timestamp n) fits whole = ap (result_map values.Timestamp) (number_at w64 63 text n refl fits whole)
literal_is_read text (values.Uuid uuid) fits literal = ap (word values.Uuid) (uuid_of-complete text uuid fits literal)
literal_is_read text (values.Text content) utf8 literal = ap (word values.Text) (ap unquoted literal ∙ unquoted-quoted content)
literal_is_read text (values.Timeuuid uuid) fits literal =
    ap timeuuid_word (uuid_of-complete text uuid fits.0 literal)
    ∙ cond_true (eqb (uuid_version uuid) 1) (Ok (values.Timeuuid uuid)) (Err errors.Malformed) (eq-eqb _ _ fits.1)
literal_is_read text (values.Smallint n) fits whole = ap (result_map values.Smallint) (number_at w16 15 text n refl fits whole)
literal_is_read text (values.Tinyint n) fits whole = ap (result_map values.Tinyint) (number_at w8 7 text n refl fits whole)

-- ---- nothing else is read

-- what a value of a type has to be
record Read (ty : CqlType) (text : List ℕ) (v : CqlValue) : Type 0 where
  pub of_type : type_of v ≡ ty
  pub value : IsValue v
  pub literal : IsLiteral text v

ascii_found : (o : Option (List ℕ)) (v : CqlValue) → ascii_word o ≡ Ok v → (content : List ℕ) × (o ≡ Some content) × IsAscii content × (values.Ascii content ≡ v)
ascii_found None v h = absurd (cc)
ascii_found (Some content) v h = go (list_all (λ c. nat_lt c 128) content) refl h
  where
    go : (b : Bool) → list_all (λ c. nat_lt c 128) content ≡ b → (let r : Result CqlValue LiteralError = cond b (Ok (values.Ascii content)) (Err errors.Malformed) in r) ≡ Ok v
        → (c : List ℕ) × (Some content ≡ Some c) × IsAscii c × (values.Ascii c ≡ v)
    go true e g = (content, refl, ascii_from_all content e, result_same g)
    go false e g = absurd (cc)

timeuuid_found : (o : Option ℕ) (v : CqlValue) → timeuuid_word o ≡ Ok v → (uuid : ℕ) × (o ≡ Some uuid) × (uuid_version uuid ≡ 1) × (values.Timeuuid uuid ≡ v)
timeuuid_found None v h = absurd (cc)
timeuuid_found (Some uuid) v h = go (eqb (uuid_version uuid) 1) refl h
  where
    go : (b : Bool) → eqb (uuid_version uuid) 1 ≡ b → (let r : Result CqlValue LiteralError = cond b (Ok (values.Timeuuid uuid)) (Err errors.Malformed) in r) ≡ Ok v
        → (u : ℕ) × (Some uuid ≡ Some u) × (uuid_version u ≡ 1) × (values.Timeuuid u ≡ v)
    go true e g = (uuid, refl, eqb_same _ _ e, result_same g)
    go false e g = absurd (cc)

read_literal : (ty : CqlType) (text : List ℕ) (v : CqlValue) → IsUtf8 text → literal_value ty text ≡ Ok v → Read ty text v
read_literal types.Ascii text v u h =
    let p = ascii_found (unquoted text) v h in
    subst (Read types.Ascii text) p.3 (record { of_type = refl; value = p.2; literal = unquoted-sound text p.0 p.1 })
read_literal types.Bigint text v u h =
    let p = number_found w64 63 text values.Bigint v refl h in
    subst (Read types.Bigint text) p.1 (record { of_type = refl; value = p.2; literal = p.3 })
read_literal types.Blob text v u h =
    let p = word_ok values.Blob (blob_of text) v h in
    let blob = blob_of-sound text p.0 p.1 in
    subst (Read types.Blob text) p.2 (record { of_type = refl; value = (decode_of-ok blob.1 p.0 blob.4).3; literal = blob })
read_literal types.Boolean text v u h =
    let p = word_ok values.Boolean (boolean_of text) v h in
    subst (Read types.Boolean text) p.2 (record { of_type = refl; value = tt; literal = boolean_of-sound text p.0 p.1 })
read_literal types.Int text v u h =
    let p = number_found w32 31 text values.Int v refl h in
    subst (Read types.Int text) p.1 (record { of_type = refl; value = p.2; literal = p.3 })
read_literal types.Timestamp text v u h =
    let p = number_found w64 63 text values.Timestamp v refl h in
    subst (Read types.Timestamp text) p.1 (record { of_type = refl; value = p.2; literal = p.3 })
read_literal types.Uuid text v u h =
    let p = word_ok values.Uuid (uuid_of text) v h in
    let uuid = uuid_of-sound text p.0 p.1 in
    subst (Read types.Uuid text) p.2 (record { of_type = refl; value = uuid.1; literal = uuid.0 })
read_literal types.Text text v u h =
    let p = word_ok values.Text (unquoted text) v h in
    subst (Read types.Text text) p.2 (record { of_type = refl; value = utf8_content text p.0 u p.1; literal = unquoted-sound text p.0 p.1 })
read_literal types.Timeuuid text v u h =
    let p = timeuuid_found (uuid_of text) v h in
    let uuid = uuid_of-sound text p.0 p.1 in
    subst (Read types.Timeuuid text) p.3 (record { of_type = refl; value = (uuid.1, p.2); literal = uuid.0 })
read_literal types.Smallint text v u h =
    let p = number_found w16 15 text values.Smallint v refl h in
    subst (Read types.Smallint text) p.1 (record { of_type = refl; value = p.2; literal = p.3 })
read_literal types.Tinyint text v u h =
    let p = number_found w8 7 text values.Tinyint v refl h in
    subst (Read types.Tinyint text) p.1 (record { of_type = refl; value = p.2; literal = p.3 })

pub read_means : (ty : CqlType) (kind : _) (text : List ℕ) (v : CqlValue) → kind ≡ kind_of ty → IsUtf8 text → literal_value ty text ≡ Ok v → Means ty kind text v
read_means ty kind text v same u h =
    let r = read_literal ty text v u h in
    record { of_kind = same; of_type = r.of_type; value = r.value; literal = r.literal }

pub meant_is_read : (ty : CqlType) (kind : _) (text : List ℕ) (v : CqlValue) → Means ty kind text v → literal_value ty text ≡ Ok v
meant_is_read ty kind text v m = subst (λ (t : CqlType). literal_value t text ≡ Ok v) m.of_type (literal_is_read text v m.value m.literal)

-- ---- what is printed is a literal

decimal_whole : (n : ℤ) → mag n < 2 ^ 63 → IsWhole (signed_decimal n) n
decimal_whole (pos n) small =
    let d = decimal_is_IsNumeral n (omega arith) in
    (decimal n, d.0, inl (refl, ap pos (sym d.1)))
decimal_whole (negsuc n) small =
    let d = decimal_is_IsNumeral (suc n) (omega arith) in
    (decimal (suc n), d.0, inr (refl, ap (λ k. neg_ℤ (pos k)) (sym d.1)))

uuid_text : (uuid : ℕ) → parsed_hyphenated (hyphenated_text lower (to_be_bytes w128 uuid)) ≡ Some (to_be_bytes w128 uuid)
uuid_text uuid =
    sym (parses_hyphenated_text lower (to_be_bytes w128 uuid) (inl refl) (length-bytes_high_first 16 uuid)
    (λ k d l. subst (λ (b : ℕ). b < 256) (sym (get_or_default_zero (to_be_bytes w128 uuid) k d l)) (small-bytes_high_first 16 uuid k)))

pub printed_is_literal : (v : CqlValue) → IsValue v → IsLiteral (literal_text v) v
printed_is_literal (values.Ascii content) fits = refl
printed_is_literal (values.Bigint n) fits = decimal_whole n fits.sfits
printed_is_literal (values.Blob bytes) small = (120, encode_lower bytes, refl, inl refl, decode_of-encode_lower bytes small)
printed_is_literal (values.Boolean true) fits = refl
printed_is_literal (values.Boolean false) fits = refl
printed_is_literal (values.Int n) fits = decimal_whole n (let f : mag n < 2 ^ 31 = fits.sfits in omega arith)
printed_is_literal (values.Timestamp n) fits = decimal_whole n fits.sfits
printed_is_literal (values.Uuid uuid) fits = uuid_text uuid
printed_is_literal (values.Text content) fits = refl
printed_is_literal (values.Timeuuid uuid) fits = uuid_text uuid
printed_is_literal (values.Smallint n) fits = decimal_whole n (let f : mag n < 2 ^ 15 = fits.sfits in omega arith)
printed_is_literal (values.Tinyint n) fits = decimal_whole n (let f : mag n < 2 ^ 7 = fits.sfits in omega arith)

pub printed_is_read : (v : CqlValue) → IsValue v → literal_value (type_of v) (literal_text v) ≡ Ok v
printed_is_read v value = literal_is_read (literal_text v) v value (printed_is_literal v value)

pub found_value : (P : CqlValue → Type 0) (r answer : Result CqlValue LiteralError) → Answers r answer → ((v : CqlValue) → answer ≡ Ok v → P v) → IfOk r P
found_value P (Ok v) answer is h = h v is
found_value P (Err e) answer is h = tt
