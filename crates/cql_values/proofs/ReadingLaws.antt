-- What is read of the bytes of each type.
use Rattle.std.proofs.Common.{◌≡◌, ◌⊎◌, ◌<◌, ◌≤◌, ◌-◌, ◌+◌, ℕ, zero, suc, ℤ, Bool, true, false, cond, eqb, nat_lt, List, [], ◌∷◌, ◌++◌, length, get_or, take, drop, Option, Some, Result, Ok, Err, arith, refl, sym, ap, ◌∙◌, subst, inl, inr, ⊎_elim, append_assoc, append-nil, length-append, bit_xor, eq-eqb, FitsSigned, Fits}
use Rattle.std.specs.Int.{Width, w8, w16, w32, w64, cast_signed, cast_unsigned, from_be_bytes, to_be_bytes}
use Rattle.std.specs.Ordering.{nat_cmp, int_cmp, bool_cmp, ordering_then}
use Rattle.std.specs.Cmp.Lexicographic.{slice_cmp}
use Rattle.std.specs.declared.cmp.Ordering.{Ordering}
use Rattle.std.specs.declared.cmp.Ordering.TheVariants.{Less, Equal, Greater}
use Rattle.std.proofs.lemmas.Bool.{false≢true}
use Rattle.std.proofs.lemmas.Bool.Decides.{nat_tests}
use Rattle.std.proofs.lemmas.Cmp.{int_ranked}
use Rattle.std.proofs.lemmas.List.{length-take-le, take-append-drop, take-append-le}
use Rattle.std.proofs.lemmas.Nat.{be_bytes_2, be_bytes_4, be_bytes_8, xor_of_8}
use Rattle.std.proofs.Math.Facts.{sfits_to_z, of_z-to_z}
use Rattle.cql_values.proofs.Words.{by_lt, eqb_same, fits_8, fits_4, fits_2, one_byte}
use Rattle.cql_values.proofs.Quotes.{by_bool, cond_true, cond_false}
use Rattle.cql_values.proofs.Utf8.{small_append, small_nil, small_cons}
use Rattle.cql_values.proofs.Comparing.{word_cmp, then_some, by_cmp, same_some, less_cmp, more_cmp}
use Rattle.cql_values.proofs.OrderLaws.{directed_cmp, flip_low, flip_high}
use Rattle.cql_values.specs.Value.{type_of, IsValue, IsBytes}
use Rattle.cql_values.specs.Order.{value_order, directed, flip_top, order_word, IsOrderWord, Reads, Answers, IsNumberType, fixed, number_read, boolean_read}
use Rattle.cql_values.proofs.Columns.{reads_as}
use Rattle.cql_values.specs.Scan.{IsEscapedWord, IsEscapedType}
use Rattle.cql_values.specs.declared.value.CqlType.{CqlType}
use Rattle.cql_values.specs.declared.value.CqlType.TheVariants as types
use Rattle.cql_values.specs.declared.value.CqlValue.{CqlValue}
use Rattle.cql_values.specs.declared.value.CqlValue.TheVariants as values
use Rattle.cql_values.specs.declared.error.OrderError.{OrderError}
use Rattle.cql_values.specs.declared.error.OrderError.TheVariants as errors

-- ---- fixed widths

abbrev zeros : ℕ → List ℕ
zeros zero = []
zeros (suc k) = 0 ∷ zeros k

length-zeros : (k : ℕ) → length (zeros k) ≡ k
length-zeros zero = refl
length-zeros (suc k) = ap suc (length-zeros k)

small_zeros : (k : ℕ) → IsBytes (zeros k)
small_zeros zero = small_nil
small_zeros (suc k) = small_cons 0 (zeros k) (omega arith) (small_zeros k)

small_take : (n : ℕ) (bytes : List ℕ) → IsBytes bytes → IsBytes (take n bytes)
small_take zero bytes small i = omega arith
small_take (suc n) [] small i = omega arith
small_take (suc n) (b ∷ bs) small zero = small 0
small_take (suc n) (b ∷ bs) small (suc i) = small_take n bs (λ j. small (suc j)) i

-- each n bytes are the word of a value
abbrev AllWords : CqlType → ℕ → (List ℕ → CqlValue) → Type 0
AllWords ty n make = (word : List ℕ) → length word ≡ n → IsBytes word → IsOrderWord ty false word (make word)

fixed_reads : (ty : CqlType) (n : ℕ) (make : List ℕ → CqlValue) (bytes : List ℕ) → AllWords ty n make → IsBytes bytes → Reads (IsOrderWord ty false) bytes (fixed n make bytes)
fixed_reads ty n make bytes words small =
    let P : Result (CqlValue × ℕ) OrderError → Type 0 = λ r. Reads (IsOrderWord ty false) bytes r in
    by_bool (nat_lt (length bytes) n)
    (λ e.
    let short : length bytes < n = grind (arith, nat_tests) in
    let missing = zeros (n - length bytes - 1) in
    let zeros_long = length-zeros (n - length bytes - 1) in
    let long : length (bytes ++ (0 ∷ missing)) ≡ n = (let a = length-append bytes (0 ∷ missing) in omega arith) in
    let word = words (bytes ++ (0 ∷ missing)) long (small_append bytes (0 ∷ missing) small (small_zeros (suc (n - length bytes - 1)))) in
    subst P (sym (cond_true (nat_lt (length bytes) n) (Err errors.Short) (Ok (make (take n bytes), n)) e))
    (make (bytes ++ (0 ∷ missing)), 0, missing, word))
    (λ e.
    let enough : n ≤ length bytes = grind (arith, nat_tests) in
    let long : length (take n bytes) ≡ n = length-take-le n bytes enough in
    subst P (sym (cond_false (nat_lt (length bytes) n) (Err errors.Short) (Ok (make (take n bytes), n)) e))
    (enough, words (take n bytes) long (small_take n bytes small)))

flip_small : (b : ℕ) → b < 256 → bit_xor b 128 < 256
flip_small b low = xor_of_8 b 128 low (omega arith)

flip_back : (b : ℕ) → b < 256 → bit_xor (bit_xor b 128) 128 ≡ b
flip_back b low =
    by_lt b 128
    (λ l. ap (λ (x : ℕ). bit_xor x 128) (flip_low b l) ∙ flip_high b l)
    (λ l.
    let r = b - 128 in
    let e : b ≡ r + 128 = omega arith in
    ap (λ (x : ℕ). bit_xor (bit_xor x 128) 128) e ∙ ap (λ (x : ℕ). bit_xor x 128) (flip_high r (omega arith)) ∙ flip_low r (omega arith) ∙ sym e)

flip_top-flip_top : (word : List ℕ) → IsBytes word → flip_top (flip_top word) ≡ word
flip_top-flip_top [] small = refl
flip_top-flip_top (b ∷ bs) small = ap (λ (x : ℕ). x ∷ bs) (flip_back b (small 0))

small_flip : (word : List ℕ) → IsBytes word → IsBytes (flip_top word)
small_flip [] small = small
small_flip (b ∷ bs) small = small_cons (bit_xor b 128) bs (flip_small b (small 0)) (λ i. small (suc i))

length-flip : (word : List ℕ) → length (flip_top word) ≡ length word
length-flip [] = refl
length-flip (b ∷ bs) = refl

-- the word of a number, from the bytes that it is read of
signed_back : (w : Width) (word : List ℕ) → IsBytes word → Fits w (from_be_bytes w (flip_top word)) → to_be_bytes w (from_be_bytes w (flip_top word)) ≡ flip_top word
    → word ≡ flip_top (to_be_bytes w (cast_unsigned w (cast_signed w (from_be_bytes w (flip_top word)))))
signed_back w word small fits back =
    sym (ap (λ (m : ℕ). flip_top (to_be_bytes w m)) (of_z-to_z fits) ∙ ap flip_top back ∙ flip_top-flip_top word small)

long_words : (word : List ℕ) → length word ≡ 8 → IsBytes word
    → FitsSigned w64 (cast_signed w64 (from_be_bytes w64 (flip_top word)))
    × (word ≡ flip_top (to_be_bytes w64 (cast_unsigned w64 (cast_signed w64 (from_be_bytes w64 (flip_top word))))))
long_words word len small =
    let fits = fits_8 (flip_top word) (small_flip word small) in
    (sfits_to_z fits, signed_back w64 word small fits (be_bytes_8 (flip_top word) _ (length-flip word ∙ len) (small_flip word small) refl))

int_words : AllWords types.Int 4 (λ w. values.Int (cast_signed w32 (from_be_bytes w32 (flip_top w))))
int_words word len small =
    let fits = fits_4 (flip_top word) (small_flip word small) in
    (refl, sfits_to_z fits, signed_back w32 word small fits (be_bytes_4 (flip_top word) _ (length-flip word ∙ len) (small_flip word small) refl))

short_words : AllWords types.Smallint 2 (λ w. values.Smallint (cast_signed w16 (from_be_bytes w16 (flip_top w))))
short_words word len small =
    let fits = fits_2 (flip_top word) (small_flip word small) in
    (refl, sfits_to_z fits, signed_back w16 word small fits (be_bytes_2 (flip_top word) _ (length-flip word ∙ len) (small_flip word small) refl))

tiny_words : AllWords types.Tinyint 1 (λ w. values.Tinyint (cast_signed w8 (get_or (flip_top w) 0 0)))
tiny_words word len small =
    let byte : Fits w8 (get_or (flip_top word) 0 0) = record { fits = small_flip word small 0 } in (
      refl,
      sfits_to_z byte,
      sym (flip_top-flip_top word small)
          ∙ ap flip_top (one_byte (flip_top word) (length-flip word ∙ len) ∙ ap (λ (m : ℕ). m ∷ []) (sym (of_z-to_z byte))),
    )

pub number_reads : (ty : CqlType) (bytes : List ℕ) → IsNumberType ty → IsBytes bytes → Reads (IsOrderWord ty false) bytes (number_read ty bytes)
number_reads types.Bigint bytes t small =
    fixed_reads types.Bigint 8 (λ w. values.Bigint (cast_signed w64 (from_be_bytes w64 (flip_top w)))) bytes (λ w len s. (let p = long_words w len s in (refl, p.0, p.1))) small
number_reads types.Int bytes t small = fixed_reads types.Int 4 (λ w. values.Int (cast_signed w32 (from_be_bytes w32 (flip_top w)))) bytes int_words small
number_reads types.Timestamp bytes t small =
    fixed_reads types.Timestamp 8 (λ w. values.Timestamp (cast_signed w64 (from_be_bytes w64 (flip_top w)))) bytes (λ w len s. (let p = long_words w len s in (refl, p.0, p.1))) small
number_reads types.Smallint bytes t small = fixed_reads types.Smallint 2 (λ w. values.Smallint (cast_signed w16 (from_be_bytes w16 (flip_top w)))) bytes short_words small
number_reads types.Tinyint bytes t small = fixed_reads types.Tinyint 1 (λ w. values.Tinyint (cast_signed w8 (get_or (flip_top w) 0 0))) bytes tiny_words small
number_reads ty bytes t small = absurd t

pub number_type : (ty : CqlType)
    → (ty ≡ types.Bigint) ⊎ ((ty ≡ types.Int) ⊎ ((ty ≡ types.Timestamp) ⊎ ((ty ≡ types.Smallint) ⊎ (ty ≡ types.Tinyint)))) → IsNumberType ty
number_type ty (inl e) = subst IsNumberType (sym e) tt
number_type ty (inr (inl e)) = subst IsNumberType (sym e) tt
number_type ty (inr (inr (inl e))) = subst IsNumberType (sym e) tt
number_type ty (inr (inr (inr (inl e)))) = subst IsNumberType (sym e) tt
number_type ty (inr (inr (inr (inr e)))) = subst IsNumberType (sym e) tt

-- ---- booleans

boolean_byte : (v : CqlValue) (b : ℕ) (rest : List ℕ) → IsOrderWord types.Boolean false (b ∷ rest) v → (b ≡ 0) ⊎ (b ≡ 1)
boolean_byte (values.Boolean true) b rest (t, value, e) = inr (let p : b ≡ 1 = cc in p)
boolean_byte (values.Boolean false) b rest (t, value, e) = inl (let p : b ≡ 0 = cc in p)
boolean_byte v b rest (t, value, e) = absurd (cc)

pub boolean_reads : (bytes : List ℕ) → Reads (IsOrderWord types.Boolean false) bytes (boolean_read bytes)
boolean_reads [] = (values.Boolean false, 0, [], (refl, tt, refl))
boolean_reads (b ∷ bs) =
    let P : Result (CqlValue × ℕ) OrderError → Type 0 = λ r. Reads (IsOrderWord types.Boolean false) (b ∷ bs) r in
    by_bool (eqb b 0)
    (λ e.
    subst P (sym (cond_true (eqb b 0) (Ok (values.Boolean false, 1)) (cond (eqb b 1) (Ok (values.Boolean true, 1)) (Err (errors.Malformed 0))) e))
    (omega arith, (refl, tt, ap (λ (x : ℕ). x ∷ []) (eqb_same b 0 e))))
    (λ e.
    subst P (sym (cond_false (eqb b 0) (Ok (values.Boolean false, 1)) (cond (eqb b 1) (Ok (values.Boolean true, 1)) (Err (errors.Malformed 0))) e))
    (by_bool (eqb b 1)
    (λ f.
    subst P (sym (cond_true (eqb b 1) (Ok (values.Boolean true, 1)) (Err (errors.Malformed 0)) f))
    (omega arith, (refl, tt, ap (λ (x : ℕ). x ∷ []) (eqb_same b 1 f))))
    (λ f.
    subst P (sym (cond_false (eqb b 1) (Ok (values.Boolean true, 1)) (Err (errors.Malformed 0)) f)) (
      omega arith,
      (values.Boolean false, 0, [], (refl, tt, refl)),
      λ v rest word.
          ⊎_elim
          (λ is. false≢true (sym e ∙ eq-eqb b 0 is))
          (λ is. false≢true (sym f ∙ eq-eqb b 1 is))
          (boolean_byte v b rest word),
    ))))

-- ---- texts

ascii_back : (word : List ℕ) (v : CqlValue) → IsOrderWord types.Ascii false word v → (t : List ℕ) × IsEscapedWord types.Ascii word t
ascii_back word (values.Ascii t) (is, value, e) = (t, (value, e))
ascii_back word v (is, value, e) = absurd (cc)

blob_back : (word : List ℕ) (v : CqlValue) → IsOrderWord types.Blob false word v → (t : List ℕ) × IsEscapedWord types.Blob word t
blob_back word (values.Blob t) (is, value, e) = (t, (value, e))
blob_back word v (is, value, e) = absurd (cc)

text_back : (word : List ℕ) (v : CqlValue) → IsOrderWord types.Text false word v → (t : List ℕ) × IsEscapedWord types.Text word t
text_back word (values.Text t) (is, value, e) = (t, (value, e))
text_back word v (is, value, e) = absurd (cc)

pub text_refused : (ty : CqlType) (bytes : List ℕ) (e : OrderError) → IsEscapedType ty → (let r : Result (List ℕ × ℕ) OrderError = Err e in Reads (IsEscapedWord ty) bytes r)
    → (let s : Result (CqlValue × ℕ) OrderError = Err e in Reads (IsOrderWord ty false) bytes s)
text_refused types.Ascii bytes e t h = reads_as (IsEscapedWord types.Ascii) (IsOrderWord types.Ascii false) values.Ascii (λ w x p. (refl, p.0, p.1)) ascii_back bytes (Err e) h
text_refused types.Blob bytes e t h = reads_as (IsEscapedWord types.Blob) (IsOrderWord types.Blob false) values.Blob (λ w x p. (refl, p.0, p.1)) blob_back bytes (Err e) h
text_refused types.Text bytes e t h = reads_as (IsEscapedWord types.Text) (IsOrderWord types.Text false) values.Text (λ w x p. (refl, p.0, p.1)) text_back bytes (Err e) h
text_refused ty bytes e t h = absurd t

-- ---- what was written is read again

cmp_parts : (c : Ordering) (w : Option Ordering) (o : Ordering) → then_some c w ≡ Some o → c ≡ Equal → w ≡ Some o
cmp_parts Less w o h e = absurd (cc)
cmp_parts Equal w o h e = h
cmp_parts Greater w o h e = absurd (cc)

byte_itself : (x : ℕ) → nat_cmp x x ≡ Equal
byte_itself x = grind (arith, nat_tests)

-- where neither ends before they differ, and both begin one list, they are the same
same_front : (a b r s : List ℕ) (o : Ordering) → word_cmp a b ≡ Some o → a ++ r ≡ b ++ s → a ≡ b
same_front [] [] r s o h e = refl
same_front [] (y ∷ ys) r s o h e = absurd (cc)
same_front (x ∷ xs) [] r s o h e = absurd (cc)
same_front (x ∷ xs) (y ∷ ys) r s o h e =
    let first : x ≡ y = cc in
    let rest : xs ++ r ≡ ys ++ s = cc in
    let tied : nat_cmp x y ≡ Equal = ap (λ (z : ℕ). nat_cmp x z) (sym first) ∙ byte_itself x in
    (λ i. first i ∷ same_front xs ys r s o (cmp_parts (nat_cmp x y) (word_cmp xs ys) o h tied) rest i)

comparable : (v w : CqlValue) → type_of v ≡ type_of w → (type_of v ≡ types.Uuid → ⊥) → (o : Ordering) × (value_order v w ≡ Some o)
comparable (values.Ascii a) (values.Ascii b) same other = (_, refl)
comparable (values.Bigint a) (values.Bigint b) same other = (_, refl)
comparable (values.Blob a) (values.Blob b) same other = (_, refl)
comparable (values.Boolean a) (values.Boolean b) same other = (_, refl)
comparable (values.Int a) (values.Int b) same other = (_, refl)
comparable (values.Timestamp a) (values.Timestamp b) same other = (_, refl)
comparable (values.Text a) (values.Text b) same other = (_, refl)
comparable (values.Timeuuid a) (values.Timeuuid b) same other = (_, refl)
comparable (values.Smallint a) (values.Smallint b) same other = (_, refl)
comparable (values.Tinyint a) (values.Tinyint b) same other = (_, refl)
comparable (values.Uuid a) (values.Uuid b) same other = absurd (other refl)
comparable v w same other = absurd (cc)

-- ---- values that tie are the same

nat_tie : (a b : ℕ) → nat_cmp a b ≡ Equal → a ≡ b
nat_tie a b h =
    by_cmp a b
    (λ l. absurd (let e : Less ≡ Equal = sym (less_cmp a b l) ∙ h in cc))
    (λ e. e)
    (λ l. absurd (let e : Greater ≡ Equal = sym (more_cmp a b l) ∙ h in cc))

int_tie : (a b : ℤ) → int_cmp a b ≡ Equal → a ≡ b
int_tie a b h = int_ranked a b Equal (sym h)

then_tie : (c d : Ordering) → ordering_then c d ≡ Equal → (c ≡ Equal) × (d ≡ Equal)
then_tie Less d h = absurd (cc)
then_tie Equal d h = (refl, h)
then_tie Greater d h = absurd (cc)

list_tie : (xs ys : List ℕ) → slice_cmp nat_cmp xs ys ≡ Equal → xs ≡ ys
list_tie [] [] h = refl
list_tie [] (y ∷ ys) h = absurd (cc)
list_tie (x ∷ xs) [] h = absurd (cc)
list_tie (x ∷ xs) (y ∷ ys) h =
    let p = then_tie (nat_cmp x y) (slice_cmp nat_cmp xs ys) h in
    (λ i. nat_tie x y p.0 i ∷ list_tie xs ys p.1 i)

boolean_tie : (a b : Bool) → bool_cmp a b ≡ Equal → a ≡ b
boolean_tie true true h = refl
boolean_tie true false h = absurd (cc)
boolean_tie false true h = absurd (cc)
boolean_tie false false h = refl

value_tie : (v w : CqlValue) → value_order v w ≡ Some Equal → v ≡ w
value_tie (values.Ascii a) (values.Ascii b) h = ap values.Ascii (list_tie a b (same_some h))
value_tie (values.Bigint a) (values.Bigint b) h = ap values.Bigint (int_tie a b (same_some h))
value_tie (values.Blob a) (values.Blob b) h = ap values.Blob (list_tie a b (same_some h))
value_tie (values.Boolean a) (values.Boolean b) h = ap values.Boolean (boolean_tie a b (same_some h))
value_tie (values.Int a) (values.Int b) h = ap values.Int (int_tie a b (same_some h))
value_tie (values.Timestamp a) (values.Timestamp b) h = ap values.Timestamp (int_tie a b (same_some h))
value_tie (values.Text a) (values.Text b) h = ap values.Text (list_tie a b (same_some h))
value_tie (values.Timeuuid a) (values.Timeuuid b) h = ap values.Timeuuid (nat_tie a b (then_tie _ _ (same_some h)).1)
value_tie (values.Smallint a) (values.Smallint b) h = ap values.Smallint (int_tie a b (same_some h))
value_tie (values.Tinyint a) (values.Tinyint b) h = ap values.Tinyint (int_tie a b (same_some h))
value_tie v w h = absurd (cc)

word_itself : (a : List ℕ) → word_cmp a a ≡ Some Equal
word_itself [] = refl
word_itself (x ∷ xs) = ap (λ (c : Ordering). then_some c (word_cmp xs xs)) (byte_itself x) ∙ word_itself xs

directed_tie : (desc : Bool) (o : Ordering) → directed desc o ≡ Equal → o ≡ Equal
directed_tie true Less h = absurd (cc)
directed_tie true Equal h = refl
directed_tie true Greater h = absurd (cc)
directed_tie false o h = h

-- words of one type that begin one list are the same, and of the same value
same_word : (desc : Bool) (v w : CqlValue) (r s : List ℕ) → IsValue v → IsValue w → type_of v ≡ type_of w → (type_of v ≡ types.Uuid → ⊥)
    → order_word desc v ++ r ≡ order_word desc w ++ s → (order_word desc v ≡ order_word desc w) × (v ≡ w)
same_word desc v w r s value_v value_w same other e =
    let c = comparable v w same other in
    let compared = directed_cmp desc v w c.0 value_v value_w c.1 in
    let words = same_front (order_word desc v) (order_word desc w) r s (directed desc c.0) compared e in
    let tie : Some (directed desc c.0) ≡ Some Equal = sym compared ∙ ap (λ (l : List ℕ). word_cmp l (order_word desc w)) words ∙ word_itself (order_word desc w) in
    (words, value_tie v w (c.1 ∙ ap Some (directed_tie desc c.0 (same_some tie))))

-- no word goes on behind a word
no_more : (desc : Bool) (v w : CqlValue) (rest more : List ℕ) (next : ℕ) → IsValue v → IsValue w → type_of v ≡ type_of w → (type_of v ≡ types.Uuid → ⊥)
    → (order_word desc v ++ rest) ++ (next ∷ more) ≡ order_word desc w → ⊥
no_more desc v w rest more next value_v value_w same other e =
    let regrouped : order_word desc v ++ (rest ++ (next ∷ more)) ≡ order_word desc w ++ [] = sym (append_assoc (order_word desc v) rest (next ∷ more)) ∙ e ∙ sym (append-nil (order_word desc w)) in
    let words = (same_word desc v w (rest ++ (next ∷ more)) [] value_v value_w same other regrouped).0 in
    let long = ap length (e ∙ sym words) in
    let inner = length-append (order_word desc v ++ rest) (next ∷ more) in
    let outer = length-append (order_word desc v) rest in
    omega arith

take-past : (n : ℕ) (a b : List ℕ) → length a ≤ n → take n (a ++ b) ≡ a ++ take (n - length a) b
take-past n [] b l = let e : n ≡ n - 0 = omega arith in ap (λ (m : ℕ). take m b) e
take-past zero (x ∷ xs) b l = absurd (omega arith)
take-past (suc n) (x ∷ xs) b l =
    let same : suc n - suc (length xs) ≡ n - length xs = omega arith in
    ap (λ (t : List ℕ). x ∷ t) (take-past n xs b (omega arith)) ∙ ap (λ (m : ℕ). x ∷ (xs ++ take m b)) (sym same)

pub written_again : (ty : CqlType) (desc : Bool) (bytes rest : List ℕ) (v : CqlValue) (r : Result (CqlValue × ℕ) OrderError) → type_of v ≡ ty → (ty ≡ types.Uuid → ⊥) → IsValue v
    → bytes ≡ order_word desc v ++ rest → Reads (IsOrderWord ty desc) bytes r → Answers r (Ok (v, length (order_word desc v)))
written_again ty desc bytes rest v (Ok (w, n)) is other value e (within, (w_is, w_value, word)) =
    let split : order_word desc v ++ rest ≡ order_word desc w ++ drop n bytes = sym e ∙ sym (take-append-drop n bytes) ∙ ap (λ (l : List ℕ). l ++ drop n bytes) word in
    let same = same_word desc v w rest (drop n bytes) value w_value (is ∙ sym w_is) (λ u. other (sym is ∙ u)) split in
    let len : length (order_word desc v) ≡ n = ap length same.0 ∙ sym (ap length word) ∙ length-take-le n bytes within in
    (λ i. Ok (same.1 i, len i))
written_again ty desc bytes rest v (Err errors.Short) is other value e (w, next, more, (w_is, w_value, word)) =
    absurd (no_more desc v w rest more next value w_value (is ∙ sym w_is) (λ u. other (sym is ∙ u)) (ap (λ (l : List ℕ). l ++ (next ∷ more)) (sym e) ∙ word))
written_again ty desc bytes rest v (Err (errors.Malformed at)) is other value e (within, (w, next, more, (w_is, w_value, word)), ends) =
    let a = order_word desc v in
    by_lt at (length a)
    (λ l.
    let front : take (at + 1) bytes ≡ take (at + 1) a = ap (take (at + 1)) e ∙ take-append-le (at + 1) a rest (omega arith) in
    absurd (ends v (drop (at + 1) a) (is, value, ap (λ (t : List ℕ). t ++ drop (at + 1) a) front ∙ take-append-drop (at + 1) a)))
    (λ l.
    let front : take at bytes ≡ a ++ take (at - length a) rest = ap (take at) e ∙ take-past at a rest l in
    absurd (no_more desc v w (take (at - length a) rest) more next value w_value (is ∙ sym w_is) (λ u. other (sym is ∙ u)) (ap (λ (t : List ℕ). t ++ (next ∷ more)) (sym front) ∙ word)))
written_again ty desc bytes rest v (Err errors.NoMemory) is other value e reads = tt
