-- Order bytes have the order of their values.
use Rattle.std.proofs.Common.{◌≡◌, ◌<◌, ◌-◌, ◌+◌, ◌*◌, ◌^◌, ◌/◌, ◌%◌, ℕ, suc, ℤ, pos, negsuc, Bool, true, false, cond, eqb, List, [], ◌∷◌, ◌++◌, get_or, Some, arith, refl, sym, ap, ◌∙◌, subst, bit_xor, FitsSigned}
use Rattle.std.specs.Ordering.{nat_cmp, int_cmp, bool_cmp, ordering_then}
use Rattle.std.specs.declared.cmp.Ordering.{Ordering}
use Rattle.std.specs.Int.{Width, w8, w16, w32, w64, w128, bytes_high_first, to_be_bytes, cast_unsigned}
use Rattle.std.specs.Int.Bits.{xor_zero_r}
use Rattle.std.specs.Str.{IsAscii}
use Rattle.std.proofs.lemmas.Bool.Decides.{nat_tests}
use Rattle.std.proofs.lemmas.Nat.{xor_block}
use Rattle.std.proofs.Math.Nat.{div-add-mod', div-lt_iff_lt-mul, mod-lt, add-mul, pow-succ'}
use lib.Signed.{mag}
use Rattle.cql_values.proofs.Endian.{bytes_high_first-top, pow_pos256, small-bytes_high_first}
use Rattle.cql_values.proofs.Utf8.{small_append, small_nil, small_cons, small_text}
use Rattle.cql_values.proofs.Quotes.{by_bool, cond_true, cond_false}
use Rattle.cql_values.proofs.Comparing.{word_cmp, word_cmp-append, word_cmp-joined, word_cmp-complement, word_cmp-bytes, word_cmp-escaped, less_cmp, more_cmp}
use Rattle.cql_values.specs.Value.{IsValue, IsBytes, uuid_time}
use Rattle.cql_values.specs.Order.{value_order, directed, flip_top, escaped, ascending_word, order_word, KeepsOrder}
use Rattle.cql_values.specs.declared.value.CqlValue.{CqlValue}
use Rattle.cql_values.specs.declared.value.CqlValue.TheVariants as values

-- ---- the top bit

pub flip_low : (q : ℕ) → q < 128 → bit_xor q 128 ≡ q + 128
flip_low q low =
    let block : bit_xor (0 * 2 ^ 7 + q) (1 * 2 ^ 7 + 0) ≡ bit_xor 0 1 * 2 ^ 7 + bit_xor q 0 = xor_block 7 0 1 q 0 (omega arith) (omega arith) in
    let left : 0 * 2 ^ 7 + q ≡ q = omega arith in
    let plain = xor_zero_r q in
    ap (λ (m : ℕ). bit_xor m 128) (sym left) ∙ block ∙ omega arith

pub flip_high : (r : ℕ) → r < 128 → bit_xor (r + 128) 128 ≡ r
flip_high r low =
    let block : bit_xor (1 * 2 ^ 7 + r) (1 * 2 ^ 7 + 0) ≡ bit_xor 1 1 * 2 ^ 7 + bit_xor r 0 = xor_block 7 1 1 r 0 (omega arith) (omega arith) in
    let left : 1 * 2 ^ 7 + r ≡ r + 128 = omega arith in
    let plain = xor_zero_r r in
    ap (λ (m : ℕ). bit_xor m 128) (sym left) ∙ block ∙ omega arith

-- the bytes of q * 256 ^ k + r with the top bit flipped
flip_split : (k q r : ℕ) → q < 256 → r < 256 ^ k → flip_top (bytes_high_first (suc k) (q * 256 ^ k + r)) ≡ bit_xor q 128 ∷ bytes_high_first k r
flip_split k q r small low = ap flip_top (bytes_high_first-top k q r small low)

flip_positive : (k m half : ℕ) → half ≡ 128 * 256 ^ k → m < half → flip_top (bytes_high_first (suc k) m) ≡ bytes_high_first (suc k) (m + half)
flip_positive k m half is low =
    let p = 256 ^ k in
    let room : 0 < p = pow_pos256 k in
    let split : m ≡ m / p * p + m % p = sym (div-add-mod' m p) in
    let rest : m % p < p = mod-lt m room in
    let top : m / p < 128 = (div-lt_iff_lt-mul room).1 (subst (λ (x : ℕ). m < x) is low) in
    let up : (m / p + 128) * p + m % p ≡ m + half = (let e = add-mul (m / p) 128 p in omega arith) in
    ap (λ (x : ℕ). flip_top (bytes_high_first (suc k) x)) split
    ∙ flip_split k (m / p) (m % p) (omega arith) rest
    ∙ ap (λ (b : ℕ). b ∷ bytes_high_first k (m % p)) (flip_low (m / p) top)
    ∙ sym (bytes_high_first-top k (m / p + 128) (m % p) (omega arith) rest)
    ∙ ap (bytes_high_first (suc k)) up

flip_negative : (k m half : ℕ) → half ≡ 128 * 256 ^ k → m < half → flip_top (bytes_high_first (suc k) (m + half)) ≡ bytes_high_first (suc k) m
flip_negative k m half is low =
    let p = 256 ^ k in
    let room : 0 < p = pow_pos256 k in
    let split : m ≡ m / p * p + m % p = sym (div-add-mod' m p) in
    let rest : m % p < p = mod-lt m room in
    let top : m / p < 128 = (div-lt_iff_lt-mul room).1 (subst (λ (x : ℕ). m < x) is low) in
    let up : m + half ≡ (m / p + 128) * p + m % p = (let e = add-mul (m / p) 128 p in omega arith) in
    ap (λ (x : ℕ). flip_top (bytes_high_first (suc k) x)) up
    ∙ flip_split k (m / p + 128) (m % p) (omega arith) rest
    ∙ ap (λ (b : ℕ). b ∷ bytes_high_first k (m % p)) (flip_high (m / p) top)
    ∙ sym (bytes_high_first-top k (m / p) (m % p) (omega arith) rest)
    ∙ ap (bytes_high_first (suc k)) (sym split)

-- a number as its distance from the least one
abbrev biased : ℕ → ℤ → ℕ
biased half (pos n) = n + half
biased half (negsuc n) = half - suc n

biased_cmp : (half : ℕ) (a b : ℤ) → mag a < half → mag b < half → nat_cmp (biased half a) (biased half b) ≡ int_cmp a b
biased_cmp half (pos a) (pos b) fits_a fits_b = grind (arith, nat_tests)
biased_cmp half (pos a) (negsuc b) fits_a fits_b = more_cmp (a + half) (half - suc b) (omega arith)
biased_cmp half (negsuc a) (pos b) fits_a fits_b = less_cmp (half - suc a) (b + half) (omega arith)
biased_cmp half (negsuc a) (negsuc b) fits_a fits_b = grind (arith, nat_tests)

biased_small : (half : ℕ) (z : ℤ) → mag z < half → biased half z < 2 * half
biased_small half (pos n) fits = omega arith
biased_small half (negsuc n) fits = omega arith

-- two's complement at twice half
abbrev complement_of : ℕ → ℤ → ℕ
complement_of half (pos n) = n
complement_of half (negsuc n) = 2 * half - suc n

flip_signed : (k half : ℕ) (z : ℤ) → half ≡ 128 * 256 ^ k → mag z < half → flip_top (bytes_high_first (suc k) (complement_of half z)) ≡ bytes_high_first (suc k) (biased half z)
flip_signed k half (pos n) is fits = flip_positive k n half is fits
flip_signed k half (negsuc n) is fits =
    let e : 2 * half - suc n ≡ (half - suc n) + half = omega arith in
    ap (λ (x : ℕ). flip_top (bytes_high_first (suc k) x)) e ∙ flip_negative k (half - suc n) half is (omega arith)

signed_cmp : (k half : ℕ) (a b : ℤ) → half ≡ 128 * 256 ^ k → mag a < half → mag b < half
    → word_cmp (flip_top (bytes_high_first (suc k) (complement_of half a))) (flip_top (bytes_high_first (suc k) (complement_of half b))) ≡ Some (int_cmp a b)
signed_cmp k half a b is fits_a fits_b =
    let room : 2 * half ≡ 256 ^ suc k = (let w : 256 ^ suc k ≡ 256 * 256 ^ k = pow-succ' 256 k in omega arith) in
    let small_a : biased half a < 256 ^ suc k = subst (λ (x : ℕ). biased half a < x) room (biased_small half a fits_a) in
    let small_b : biased half b < 256 ^ suc k = subst (λ (x : ℕ). biased half b < x) room (biased_small half b fits_b) in
    (λ i. word_cmp (flip_signed k half a is fits_a i) (flip_signed k half b is fits_b i))
    ∙ word_cmp-bytes (suc k) (biased half a) (biased half b) small_a small_b
    ∙ ap Some (biased_cmp half a b fits_a fits_b)

as_complement : (w : Width) (half : ℕ) (z : ℤ) → ((n : ℕ) → cast_unsigned w (negsuc n) ≡ 2 * half - suc n) → cast_unsigned w z ≡ complement_of half z
as_complement w half (pos n) e = refl
as_complement w half (negsuc n) e = e n

signed_word : (w : Width) (k half : ℕ) (z : ℤ) → ((n : ℕ) → cast_unsigned w (negsuc n) ≡ 2 * half - suc n)
    → flip_top (bytes_high_first (suc k) (cast_unsigned w z)) ≡ flip_top (bytes_high_first (suc k) (complement_of half z))
signed_word w k half z e = ap (λ (m : ℕ). flip_top (bytes_high_first (suc k) m)) (as_complement w half z e)

-- one byte
tiny_word : (z : ℤ) → FitsSigned w8 z → flip_top (cast_unsigned w8 z ∷ []) ≡ flip_top (bytes_high_first 1 (complement_of 128 z))
tiny_word (pos n) fits = let low : n < 2 ^ 7 = fits.sfits in ap (λ (m : ℕ). flip_top (m ∷ [])) (let e : n ≡ n % 256 = omega arith in e)
tiny_word (negsuc n) fits = let low : n < 2 ^ 7 = fits.sfits in ap (λ (m : ℕ). flip_top (m ∷ [])) (let e : 256 - suc n ≡ (2 * 128 - suc n) % 256 = omega arith in e)

long_cmp : (a b : ℤ) → FitsSigned w64 a → FitsSigned w64 b
    → word_cmp (flip_top (to_be_bytes w64 (cast_unsigned w64 a))) (flip_top (to_be_bytes w64 (cast_unsigned w64 b))) ≡ Some (int_cmp a b)
long_cmp a b fits_a fits_b =
    (λ i. word_cmp (signed_word w64 7 (2 ^ 63) a (λ n. refl) i) (signed_word w64 7 (2 ^ 63) b (λ n. refl) i))
    ∙ signed_cmp 7 (2 ^ 63) a b refl fits_a.sfits fits_b.sfits

int_cmp_is : (a b : ℤ) → FitsSigned w32 a → FitsSigned w32 b
    → word_cmp (flip_top (to_be_bytes w32 (cast_unsigned w32 a))) (flip_top (to_be_bytes w32 (cast_unsigned w32 b))) ≡ Some (int_cmp a b)
int_cmp_is a b fits_a fits_b =
    (λ i. word_cmp (signed_word w32 3 (2 ^ 31) a (λ n. refl) i) (signed_word w32 3 (2 ^ 31) b (λ n. refl) i))
    ∙ signed_cmp 3 (2 ^ 31) a b refl fits_a.sfits fits_b.sfits

short_cmp : (a b : ℤ) → FitsSigned w16 a → FitsSigned w16 b
    → word_cmp (flip_top (to_be_bytes w16 (cast_unsigned w16 a))) (flip_top (to_be_bytes w16 (cast_unsigned w16 b))) ≡ Some (int_cmp a b)
short_cmp a b fits_a fits_b =
    (λ i. word_cmp (signed_word w16 1 (2 ^ 15) a (λ n. refl) i) (signed_word w16 1 (2 ^ 15) b (λ n. refl) i))
    ∙ signed_cmp 1 (2 ^ 15) a b refl fits_a.sfits fits_b.sfits

tiny_cmp : (a b : ℤ) → FitsSigned w8 a → FitsSigned w8 b
    → word_cmp (flip_top (cast_unsigned w8 a ∷ [])) (flip_top (cast_unsigned w8 b ∷ [])) ≡ Some (int_cmp a b)
tiny_cmp a b fits_a fits_b =
    (λ i. word_cmp (tiny_word a fits_a i) (tiny_word b fits_b i)) ∙ signed_cmp 0 128 a b refl fits_a.sfits fits_b.sfits

-- ---- each byte of a word is a byte

small_ascii : (text : List ℕ) → IsAscii text → IsBytes text
small_ascii text ascii i = (let low : get_or text i 0 < 128 = ascii i in omega arith)

pub small_escaped : (xs : List ℕ) → IsBytes xs → IsBytes (escaped xs)
small_escaped [] small = small_cons 0 (0 ∷ []) (omega arith) (small_cons 0 [] (omega arith) small_nil)
small_escaped (x ∷ xs) small =
    let rest : IsBytes (escaped xs) = small_escaped xs (λ i. small (suc i)) in
    by_bool (eqb x 0)
    (λ e. subst IsBytes (sym (cond_true (eqb x 0) (0 ∷ 255 ∷ escaped xs) (x ∷ escaped xs) e)) (small_cons 0 (255 ∷ escaped xs) (omega arith) (small_cons 255 (escaped xs) (omega arith) rest)))
    (λ e. subst IsBytes (sym (cond_false (eqb x 0) (0 ∷ 255 ∷ escaped xs) (x ∷ escaped xs) e)) (small_cons x (escaped xs) (small 0) rest))

small_signed : (k half : ℕ) (z : ℤ) → half ≡ 128 * 256 ^ k → mag z < half → IsBytes (flip_top (bytes_high_first (suc k) (complement_of half z)))
small_signed k half z is fits = subst IsBytes (sym (flip_signed k half z is fits)) (λ i. small-bytes_high_first (suc k) (biased half z) i)

small_long : (z : ℤ) → FitsSigned w64 z → IsBytes (flip_top (to_be_bytes w64 (cast_unsigned w64 z)))
small_long z fits = subst IsBytes (sym (signed_word w64 7 (2 ^ 63) z (λ n. refl))) (small_signed 7 (2 ^ 63) z refl fits.sfits)

pub small_word : (v : CqlValue) → IsValue v → IsBytes (ascending_word v)
small_word (values.Ascii text) ascii = small_escaped text (small_ascii text ascii)
small_word (values.Bigint n) fits = small_long n fits
small_word (values.Blob bytes) small = small_escaped bytes small
small_word (values.Boolean true) fits = small_cons 1 [] (omega arith) small_nil
small_word (values.Boolean false) fits = small_cons 0 [] (omega arith) small_nil
small_word (values.Int n) fits = subst IsBytes (sym (signed_word w32 3 (2 ^ 31) n (λ m. refl))) (small_signed 3 (2 ^ 31) n refl fits.sfits)
small_word (values.Timestamp n) fits = small_long n fits
small_word (values.Uuid uuid) fits = small_nil
small_word (values.Text text) utf8 = small_escaped text (small_text text utf8)
small_word (values.Timeuuid uuid) fits =
    small_append (to_be_bytes w64 (uuid_time uuid)) (to_be_bytes w128 uuid) (λ i. small-bytes_high_first 8 (uuid_time uuid) i) (λ i. small-bytes_high_first 16 uuid i)
small_word (values.Smallint n) fits = subst IsBytes (sym (signed_word w16 1 (2 ^ 15) n (λ m. refl))) (small_signed 1 (2 ^ 15) n refl fits.sfits)
small_word (values.Tinyint n) fits = subst IsBytes (sym (tiny_word n fits)) (small_signed 0 128 n refl fits.sfits)

-- ---- words compare as their values

time_small : (uuid : ℕ) → uuid < 2 ^ 128 → uuid_time uuid < 256 ^ 8
time_small uuid fits = omega arith

timeuuid_cmp : (a b : ℕ) → a < 2 ^ 128 → b < 2 ^ 128
    → word_cmp (to_be_bytes w64 (uuid_time a) ++ to_be_bytes w128 a) (to_be_bytes w64 (uuid_time b) ++ to_be_bytes w128 b)
    ≡ Some (ordering_then (nat_cmp (uuid_time a) (uuid_time b)) (nat_cmp a b))
timeuuid_cmp a b fits_a fits_b =
    word_cmp-joined (to_be_bytes w64 (uuid_time a)) (to_be_bytes w64 (uuid_time b)) (to_be_bytes w128 a) (to_be_bytes w128 b) _ _
    (word_cmp-bytes 8 (uuid_time a) (uuid_time b) (time_small a fits_a) (time_small b fits_b))
    (word_cmp-bytes 16 a b (omega arith) (omega arith))

boolean_cmp : (a b : Bool) → word_cmp (cond a 1 0 ∷ []) (cond b 1 0 ∷ []) ≡ Some (bool_cmp a b)
boolean_cmp true true = refl
boolean_cmp true false = refl
boolean_cmp false true = refl
boolean_cmp false false = refl

ascending_cmp : (v w : CqlValue) (o : Ordering) → IsValue v → IsValue w → value_order v w ≡ Some o → word_cmp (ascending_word v) (ascending_word w) ≡ Some o
ascending_cmp (values.Ascii a) (values.Ascii b) o fits_a fits_b h = word_cmp-escaped a b ∙ h
ascending_cmp (values.Bigint a) (values.Bigint b) o fits_a fits_b h = long_cmp a b fits_a fits_b ∙ h
ascending_cmp (values.Blob a) (values.Blob b) o fits_a fits_b h = word_cmp-escaped a b ∙ h
ascending_cmp (values.Boolean a) (values.Boolean b) o fits_a fits_b h = boolean_cmp a b ∙ h
ascending_cmp (values.Int a) (values.Int b) o fits_a fits_b h = int_cmp_is a b fits_a fits_b ∙ h
ascending_cmp (values.Timestamp a) (values.Timestamp b) o fits_a fits_b h = long_cmp a b fits_a fits_b ∙ h
ascending_cmp (values.Text a) (values.Text b) o fits_a fits_b h = word_cmp-escaped a b ∙ h
ascending_cmp (values.Timeuuid a) (values.Timeuuid b) o fits_a fits_b h = timeuuid_cmp a b fits_a.0 fits_b.0 ∙ h
ascending_cmp (values.Smallint a) (values.Smallint b) o fits_a fits_b h = short_cmp a b fits_a fits_b ∙ h
ascending_cmp (values.Tinyint a) (values.Tinyint b) o fits_a fits_b h = tiny_cmp a b fits_a fits_b ∙ h
ascending_cmp v w o fits_a fits_b h = absurd (cc)

pub directed_cmp : (desc : Bool) (v w : CqlValue) (o : Ordering) → IsValue v → IsValue w → value_order v w ≡ Some o
    → word_cmp (order_word desc v) (order_word desc w) ≡ Some (directed desc o)
directed_cmp false v w o fits_v fits_w h = ascending_cmp v w o fits_v fits_w h
directed_cmp true v w o fits_v fits_w h =
    word_cmp-complement (ascending_word v) (ascending_word w) o (small_word v fits_v) (small_word w fits_w) (ascending_cmp v w o fits_v fits_w h)

pub keeps_order : KeepsOrder
keeps_order desc v w o after_v after_w fits_v fits_w h =
    word_cmp-append (order_word desc v) (order_word desc w) after_v after_w (directed desc o) (directed_cmp desc v w o fits_v fits_w h)
