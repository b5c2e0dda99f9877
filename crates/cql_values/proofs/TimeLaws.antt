-- The order bytes of timeuuids.
use Rattle.std.proofs.Common.{◌≡◌, ◌⊎◌, ◌<◌, ◌≤◌, ◌-◌, ◌+◌, ◌*◌, ◌/◌, ◌%◌, ◌^◌, ℕ, zero, suc, Bool, true, false, cond, eqb, nat_lt, List, [], ◌∷◌, ◌++◌, length, get_or, take, drop, arith, refl, sym, ap, ◌∙◌, subst, inl, inr, ⊎_elim, append_assoc, append-nil, length-append, eq-eqb, take-append-drop}
use Rattle.std.proofs.lemmas.List.{length-take-le, drop-take}
use Rattle.std.specs.Int.{w64, w128, bytes_high_first, byte_at, to_be_bytes, from_be_bytes}
use Rattle.std.proofs.lemmas.Bool.{false≢true, cases_eq}
use Rattle.std.proofs.lemmas.Bool.Decides.{nat_tests}
use Rattle.std.proofs.Math.Nat.{div-div-eq-div-mul}
use Rattle.uuid.proofs.OrderLemmas.{from_be_bytes-to_be_bytes_16}
use Rattle.cql_values.proofs.Endian.{number, number-lt, bytes_high_first-number, bytes_high_first-split}
use Rattle.cql_values.proofs.Words.{by_lt, eqb_same}
use Rattle.cql_values.proofs.Quotes.{by_bool, cond_true, cond_false}
use Rattle.cql_values.proofs.Utf8.{small_append, small_nil, small_cons}
use Rattle.cql_values.specs.Value.{IsValue, IsBytes, uuid_version, uuid_time}
use Rattle.cql_values.specs.Order.{IsOrderWord, Continues, EndsAllWords, ascending_word, is_time_byte}
use Rattle.cql_values.specs.declared.value.CqlType.TheVariants as types
use Rattle.cql_values.specs.declared.value.CqlValue.{CqlValue}
use Rattle.cql_values.specs.declared.value.CqlValue.TheVariants as values

-- ---- the parts of a uuid of version 1

abbrev uuid_from : ℕ → ℕ → ℕ → ℕ → ℕ
uuid_from hi mid low rest = ((low * 2 ^ 16 + mid) * 2 ^ 16 + (4096 + hi)) * 2 ^ 64 + rest

-- the parts are in range
record Parts (hi mid low rest : ℕ) : Type 0 where
  pub hi_small : hi < 2 ^ 12
  pub mid_small : mid < 2 ^ 16
  pub low_small : low < 2 ^ 32
  pub rest_small : rest < 2 ^ 64

abbrev word_from : ℕ → ℕ → ℕ → ℕ → List ℕ
word_from hi mid low rest =
    (bytes_high_first 2 hi ++ (bytes_high_first 2 mid ++ bytes_high_first 4 low))
    ++ (bytes_high_first 4 low ++ (bytes_high_first 2 mid ++ (bytes_high_first 2 (4096 + hi) ++ bytes_high_first 8 rest)))

time_of : (hi mid low rest : ℕ) → Parts hi mid low rest → uuid_time (uuid_from hi mid low rest) ≡ (hi * 2 ^ 16 + mid) * 2 ^ 32 + low
time_of hi mid low rest parts = omega arith

version_of : (hi mid low rest : ℕ) → Parts hi mid low rest → uuid_version (uuid_from hi mid low rest) ≡ 1
version_of hi mid low rest parts = omega arith

uuid_small : (hi mid low rest : ℕ) → Parts hi mid low rest → uuid_from hi mid low rest < 2 ^ 128
uuid_small hi mid low rest parts = omega arith

word_is : (hi mid low rest : ℕ) → Parts hi mid low rest → ascending_word (values.Timeuuid (uuid_from hi mid low rest)) ≡ word_from hi mid low rest
word_is hi mid low rest parts =
    let hi_small = parts.hi_small in
    let mid_small = parts.mid_small in
    let low_small = parts.low_small in
    let rest_small = parts.rest_small in
    let time : to_be_bytes w64 (uuid_time (uuid_from hi mid low rest)) ≡ bytes_high_first 2 hi ++ (bytes_high_first 2 mid ++ bytes_high_first 4 low) =
    ap (to_be_bytes w64) (time_of hi mid low rest parts)
    ∙ bytes_high_first-split 4 4 (hi * 2 ^ 16 + mid) low low_small
    ∙ ap (λ (l : List ℕ). l ++ bytes_high_first 4 low) (bytes_high_first-split 2 2 hi mid mid_small)
    ∙ append_assoc (bytes_high_first 2 hi) (bytes_high_first 2 mid) (bytes_high_first 4 low) in
    let version_small : 4096 + hi < 2 ^ 16 = omega arith in
    let uuid : to_be_bytes w128 (uuid_from hi mid low rest) ≡ bytes_high_first 4 low ++ (bytes_high_first 2 mid ++ (bytes_high_first 2 (4096 + hi) ++ bytes_high_first 8 rest)) =
    bytes_high_first-split 8 8 ((low * 2 ^ 16 + mid) * 2 ^ 16 + (4096 + hi)) rest rest_small
    ∙ ap (λ (l : List ℕ). l ++ bytes_high_first 8 rest) (bytes_high_first-split 6 2 (low * 2 ^ 16 + mid) (4096 + hi) version_small)
    ∙ ap (λ (l : List ℕ). (l ++ bytes_high_first 2 (4096 + hi)) ++ bytes_high_first 8 rest) (bytes_high_first-split 4 2 low mid mid_small)
    ∙ append_assoc (bytes_high_first 4 low ++ bytes_high_first 2 mid) (bytes_high_first 2 (4096 + hi)) (bytes_high_first 8 rest)
    ∙ append_assoc (bytes_high_first 4 low) (bytes_high_first 2 mid) (bytes_high_first 2 (4096 + hi) ++ bytes_high_first 8 rest) in
    (λ i. time i ++ uuid i)

-- ---- each byte of a word is one that is asked for

itself : (x : ℕ) → eqb x x ≡ true
itself x = eq-eqb x x refl

other_bytes : (word : List ℕ) (i : ℕ) → ((0 < i) × (i < 8)) ⊎ (16 ≤ i) → is_time_byte word i ≡ true
other_bytes word i (inl (l, h)) = grind (arith, nat_tests)
other_bytes word i (inr l) = grind (arith, nat_tests)

first_byte : (word : List ℕ) → is_time_byte word 0 ≡ nat_lt (get_or word 0 0) 16
first_byte word = refl

abbrev Fits : List ℕ → ℕ → Type 0
Fits word i = is_time_byte word i ≡ true

from_parts : (hi mid low rest i : ℕ) → Parts hi mid low rest → Fits (word_from hi mid low rest) i
from_parts hi mid low rest i parts =
    let word = word_from hi mid low rest in
    let hi_small = parts.hi_small in
    let P : ℕ → Type 0 = λ k. Fits word k in
    by_lt i 8
    (λ l. ⊎_elim
    (λ is. subst P (sym is) (below_test (byte_at 1 hi) 16 (omega arith)))
    (λ other. other_bytes word i (inl (omega arith, l)))
    (cases_eq i 0))
    (λ l. by_lt i 16
    (λ h.
    pick P i l h
    (itself (byte_at 3 low)) (itself (byte_at 2 low)) (itself (byte_at 1 low)) (itself (byte_at 0 low))
    (itself (byte_at 1 mid)) (itself (byte_at 0 mid))
    (eq-eqb (byte_at 1 (4096 + hi)) (byte_at 1 hi + 16) (omega arith))
    (eq-eqb (byte_at 0 (4096 + hi)) (byte_at 0 hi) (omega arith)))
    (λ h. other_bytes word i (inr h)))
  where
    below_test : (m n : ℕ) → m < n → nat_lt m n ≡ true
    below_test m n h = grind (arith, nat_tests)

    pick : (Q : ℕ → Type 0) (k : ℕ) → 8 ≤ k → k < 16 → Q 8 → Q 9 → Q 10 → Q 11 → Q 12 → Q 13 → Q 14 → Q 15 → Q k
    pick Q k l h a b c d e f g j =
        ⊎_elim (λ is. subst Q (sym is) a) (λ n8.
        ⊎_elim (λ is. subst Q (sym is) b) (λ n9.
        ⊎_elim (λ is. subst Q (sym is) c) (λ n10.
        ⊎_elim (λ is. subst Q (sym is) d) (λ n11.
        ⊎_elim (λ is. subst Q (sym is) e) (λ n12.
        ⊎_elim (λ is. subst Q (sym is) f) (λ n13.
        ⊎_elim (λ is. subst Q (sym is) g) (λ n14. subst Q (let k15 : 15 ≡ k = omega arith in k15) j)
        (cases_eq k 14)) (cases_eq k 13)) (cases_eq k 12)) (cases_eq k 11)) (cases_eq k 10)) (cases_eq k 9)) (cases_eq k 8)

-- the parts of a uuid of version 1
uuid_parts : (uuid : ℕ) → uuid < 2 ^ 128 → uuid_version uuid ≡ 1
    → (hi : ℕ) × (mid : ℕ) × (low : ℕ) × (rest : ℕ) × (Parts hi mid low rest × (uuid ≡ uuid_from hi mid low rest))
uuid_parts uuid fits version =
    let a = uuid / 2 ^ 64 in
    let b = uuid / 2 ^ 80 in
    let c = uuid / 2 ^ 96 in
    let v = uuid / 2 ^ 76 in
    let to_b : a / 2 ^ 16 ≡ b = div-div-eq-div-mul uuid (2 ^ 64) (2 ^ 16) in
    let to_c : b / 2 ^ 16 ≡ c = div-div-eq-div-mul uuid (2 ^ 80) (2 ^ 16) in
    let to_v : a / 2 ^ 12 ≡ v = div-div-eq-div-mul uuid (2 ^ 64) (2 ^ 12) in (
      a % 2 ^ 12,
      b % 2 ^ 16,
      c,
      uuid % 2 ^ 64,
      (record { hi_small = omega arith; mid_small = omega arith; low_small = omega arith; rest_small = omega arith }, joined uuid a b c v (omega arith) to_b to_c to_v version),
    )
  where
    low_half : (a b v : ℕ) → a / 2 ^ 16 ≡ b → a / 2 ^ 12 ≡ v → v % 16 ≡ 1 → a ≡ b * 2 ^ 16 + (4096 + a % 2 ^ 12)
    low_half a b v to_b to_v version = omega arith

    joined : (u a b c v : ℕ) → u ≡ a * 2 ^ 64 + u % 2 ^ 64 → a / 2 ^ 16 ≡ b → b / 2 ^ 16 ≡ c → a / 2 ^ 12 ≡ v → v % 16 ≡ 1
        → u ≡ ((c * 2 ^ 16 + b % 2 ^ 16) * 2 ^ 16 + (4096 + a % 2 ^ 12)) * 2 ^ 64 + u % 2 ^ 64
    joined u a b c v split to_b to_c to_v version =
        let at_a = low_half a b v to_b to_v version in
        let at_b : b ≡ c * 2 ^ 16 + b % 2 ^ 16 = omega arith in
        omega arith

pub timeuuid_fits : (uuid : ℕ) → IsValue (values.Timeuuid uuid) → (i : ℕ) → Fits (ascending_word (values.Timeuuid uuid)) i
timeuuid_fits uuid value i =
    let p = uuid_parts uuid value.0 value.1 in
    subst (λ (l : List ℕ). Fits l i) (sym (ap (λ (u : ℕ). ascending_word (values.Timeuuid u)) p.4.1 ∙ word_is p.0 p.1 p.2 p.3 p.4.0))
    (from_parts p.0 p.1 p.2 p.3 i p.4.0)

-- ---- bytes that are asked for make a word

pair_is : (x y : ℕ) → x < 256 → y < 256 → bytes_high_first 2 (number (x ∷ y ∷ [])) ≡ x ∷ y ∷ []
pair_is x y a b = bytes_high_first-number (x ∷ y ∷ []) (small_cons x (y ∷ []) a (small_cons y [] b small_nil))

asked_same : (x y : ℕ) → eqb x y ≡ true → x ≡ y
asked_same x y e = eqb_same x y e

pub fits_word : (word : List ℕ) → length word ≡ 24 → IsBytes word → ((i : ℕ) → i < 24 → Fits word i)
    → IsOrderWord types.Timeuuid false word (values.Timeuuid (from_be_bytes w128 (drop 8 word)))
fits_word (x0 ∷ x1 ∷ x2 ∷ x3 ∷ x4 ∷ x5 ∷ x6 ∷ x7 ∷ x8 ∷ x9 ∷ x10 ∷ x11 ∷ x12 ∷ x13 ∷ x14 ∷ x15 ∷ x16 ∷ x17 ∷ x18 ∷ x19 ∷ x20 ∷ x21 ∷ x22 ∷ x23 ∷ []) len small fits =
    let word : List ℕ = x0 ∷ x1 ∷ x2 ∷ x3 ∷ x4 ∷ x5 ∷ x6 ∷ x7 ∷ x8 ∷ x9 ∷ x10 ∷ x11 ∷ x12 ∷ x13 ∷ x14 ∷ x15 ∷ x16 ∷ x17 ∷ x18 ∷ x19 ∷ x20 ∷ x21 ∷ x22 ∷ x23 ∷ [] in
    let low_list : List ℕ = x4 ∷ x5 ∷ x6 ∷ x7 ∷ [] in
    let rest_list : List ℕ = x16 ∷ x17 ∷ x18 ∷ x19 ∷ x20 ∷ x21 ∷ x22 ∷ x23 ∷ [] in
    let hi = number (x0 ∷ x1 ∷ []) in
    let mid = number (x2 ∷ x3 ∷ []) in
    let low = number low_list in
    let rest = number rest_list in
    let top : x0 < 16 = from_test x0 16 (fits 0 (omega arith)) in
    let s0 : x0 < 256 = small 0 in
    let s1 : x1 < 256 = small 1 in
    let s2 : x2 < 256 = small 2 in
    let s3 : x3 < 256 = small 3 in
    let s14 : x14 < 256 = small 14 in
    let s15 : x15 < 256 = small 15 in
    let small_low : IsBytes low_list = small_cons x4 (x5 ∷ x6 ∷ x7 ∷ []) (small 4) (small_cons x5 (x6 ∷ x7 ∷ []) (small 5) (small_cons x6 (x7 ∷ []) (small 6) (small_cons x7 ([]) (small 7) (small_nil)))) in
    let small_rest : IsBytes rest_list = small_cons x16 (x17 ∷ x18 ∷ x19 ∷ x20 ∷ x21 ∷ x22 ∷ x23 ∷ []) (small 16) (small_cons x17 (x18 ∷ x19 ∷ x20 ∷ x21 ∷ x22 ∷ x23 ∷ []) (small 17) (small_cons x18 (x19 ∷ x20 ∷ x21 ∷ x22 ∷ x23 ∷ []) (small 18) (small_cons x19 (x20 ∷ x21 ∷ x22 ∷ x23 ∷ []) (small 19) (small_cons x20 (x21 ∷ x22 ∷ x23 ∷ []) (small 20) (small_cons x21 (x22 ∷ x23 ∷ []) (small 21) (small_cons x22 (x23 ∷ []) (small 22) (small_cons x23 ([]) (small 23) (small_nil)))))))) in
    let at8 : x8 ≡ x4 = asked_same x8 x4 (fits 8 (omega arith)) in
    let at9 : x9 ≡ x5 = asked_same x9 x5 (fits 9 (omega arith)) in
    let at10 : x10 ≡ x6 = asked_same x10 x6 (fits 10 (omega arith)) in
    let at11 : x11 ≡ x7 = asked_same x11 x7 (fits 11 (omega arith)) in
    let at12 : x12 ≡ x2 = asked_same x12 x2 (fits 12 (omega arith)) in
    let at13 : x13 ≡ x3 = asked_same x13 x3 (fits 13 (omega arith)) in
    let at14 : x14 ≡ x0 + 16 = asked_same x14 (x0 + 16) (fits 14 (omega arith)) in
    let at15 : x15 ≡ x1 = asked_same x15 x1 (fits 15 (omega arith)) in
    let low_lt : low < 2 ^ 32 = number-lt low_list small_low in
    let rest_lt : rest < 2 ^ 64 = number-lt rest_list small_rest in
    let parts : Parts hi mid low rest = record { hi_small = omega arith; mid_small = omega arith; low_small = low_lt; rest_small = rest_lt } in
    let uuid = uuid_from hi mid low rest in
    let version : 4096 + hi ≡ number (x14 ∷ x15 ∷ []) = omega arith in
    let low_is : bytes_high_first 4 low ≡ low_list = bytes_high_first-number low_list small_low in
    let low_again : low_list ≡ x8 ∷ x9 ∷ x10 ∷ x11 ∷ [] = (λ i. sym at8 i ∷ sym at9 i ∷ sym at10 i ∷ sym at11 i ∷ []) in
    let mid_is : bytes_high_first 2 mid ≡ x2 ∷ x3 ∷ [] = pair_is x2 x3 s2 s3 in
    let mid_again : bytes_high_first 2 mid ≡ x12 ∷ x13 ∷ [] = mid_is ∙ (λ i. sym at12 i ∷ sym at13 i ∷ []) in
    let hi_is : bytes_high_first 2 hi ≡ x0 ∷ x1 ∷ [] = pair_is x0 x1 s0 s1 in
    let version_is : bytes_high_first 2 (4096 + hi) ≡ x14 ∷ x15 ∷ [] = ap (bytes_high_first 2) version ∙ pair_is x14 x15 s14 s15 in
    let rest_is : bytes_high_first 8 rest ≡ rest_list = bytes_high_first-number rest_list small_rest in
    let e : ascending_word (values.Timeuuid uuid) ≡ word =
    word_is hi mid low rest parts
    ∙ (λ i. (hi_is i ++ (mid_is i ++ low_is i)) ++ ((low_is ∙ low_again) i ++ (mid_again i ++ (version_is i ++ rest_is i)))) in
    let fits_128 = uuid_small hi mid low rest parts in
    let read : from_be_bytes w128 (drop 8 word) ≡ uuid = ap (from_be_bytes w128) (sym (ap (drop 8) e)) ∙ from_be_bytes-to_be_bytes_16 uuid fits_128 in
    subst (λ (u : ℕ). IsOrderWord types.Timeuuid false word (values.Timeuuid u)) (sym read) (refl, (fits_128, version_of hi mid low rest parts), sym e)
  where
    from_test : (m n : ℕ) → nat_lt m n ≡ true → m < n
    from_test m n e = grind (arith, nat_tests)
fits_word word len small fits = absurd (omega arith)

-- ---- a byte is asked for by those before it

get_front : (p r : List ℕ) (i : ℕ) → i < length p → get_or (p ++ r) i 0 ≡ get_or p i 0
get_front [] r i l = absurd (omega arith)
get_front (x ∷ xs) r zero l = refl
get_front (x ∷ xs) r (suc i) l = get_front xs r i (omega arith)

get_last : (p : List ℕ) (x : ℕ) (r : List ℕ) → get_or (p ++ (x ∷ r)) (length p) 0 ≡ x
get_last [] x r = refl
get_last (y ∷ ys) x r = get_last ys x r

first_bytes : (word : List ℕ) (i : ℕ) → i < 8 → is_time_byte word i ≡ cond (eqb i 0) (nat_lt (get_or word 0 0) 16) true
first_bytes word i l = by_bool (eqb i 0)
    (λ e. cond_true (eqb i 0) _ _ e ∙ sym (cond_true (eqb i 0) (nat_lt (get_or word 0 0) 16) true e))
    (λ e. other_bytes word i (inl (not_zero i e, l)) ∙ sym (cond_false (eqb i 0) (nat_lt (get_or word 0 0) 16) true e))
  where
    not_zero : (k : ℕ) → eqb k 0 ≡ false → 0 < k
    not_zero k e = grind (arith, nat_tests)

-- the test, of the bytes that it reads
abbrev asked : ℕ → ℕ → ℕ → ℕ → ℕ → ℕ → Bool
asked at byte b0 b1 b4 b10 =
    cond (eqb at 0) (nat_lt b0 16)
    (cond (nat_lt at 8) true (cond (nat_lt at 12) (eqb byte b4) (cond (nat_lt at 14) (eqb byte b10) (cond (eqb at 14) (eqb byte (b0 + 16)) (cond (eqb at 15) (eqb byte b1) true)))))

pub fits_prefix : (p r : List ℕ) (i : ℕ) → i < length p → is_time_byte (p ++ r) i ≡ is_time_byte p i
fits_prefix p r i l =
    by_lt i 8
    (λ low.
    first_bytes (p ++ r) i low
    ∙ ap (λ (b : ℕ). cond (eqb i 0) (nat_lt b 16) true) (get_front p r 0 (omega arith))
    ∙ sym (first_bytes p i low))
    (λ high.
    let here = get_front p r i l in
    let b0 = get_front p r 0 (omega arith) in
    let b1 = get_front p r 1 (omega arith) in
    let b4 = get_front p r (i - 4) (omega arith) in
    let b10 = get_front p r (i - 10) (omega arith) in
    (λ k. asked i (here k) (b0 k) (b1 k) (b4 k) (b10 k)))

-- the byte that is asked for next, and 0 where any will do
abbrev wanted_of : ℕ → ℕ → ℕ → ℕ → ℕ → ℕ
wanted_of n b0 b1 b4 b10 = cond (nat_lt n 8) 0 (cond (nat_lt n 12) b4 (cond (nat_lt n 14) b10 (cond (eqb n 14) (b0 + 16) (cond (eqb n 15) b1 0))))

abbrev wanted : List ℕ → ℕ
wanted p = wanted_of (length p) (get_or p 0 0) (get_or p 1 0) (get_or p (length p - 4) 0) (get_or p (length p - 10) 0)

asked_wanted : (n b0 b1 b4 b10 : ℕ) → 0 < n → asked n (wanted_of n b0 b1 b4 b10) b0 b1 b4 b10 ≡ true
asked_wanted n b0 b1 b4 b10 some =
    let no_zero : eqb n 0 ≡ false = grind (arith, nat_tests) in
    cond_false (eqb n 0) (nat_lt b0 16) _ no_zero
    ∙ by_bool (nat_lt n 8)
    (λ e. cond_true (nat_lt n 8) true _ e)
    (λ e.
    cond_false (nat_lt n 8) true _ e
    ∙ ap (λ (x : ℕ). cond (nat_lt n 12) (eqb x b4) (cond (nat_lt n 14) (eqb x b10) (cond (eqb n 14) (eqb x (b0 + 16)) (cond (eqb n 15) (eqb x b1) true)))) (cond_false (nat_lt n 8) 0 _ e)
    ∙ past_8 (nat_lt n 12) (nat_lt n 14) (eqb n 14) (eqb n 15))
  where
    past_8 : (a b c d : Bool)
        → (let x : ℕ = cond a b4 (cond b b10 (cond c (b0 + 16) (cond d b1 0))) in cond a (eqb x b4) (cond b (eqb x b10) (cond c (eqb x (b0 + 16)) (cond d (eqb x b1) true)))) ≡ true
    past_8 true b c d = itself b4
    past_8 false true c d = itself b10
    past_8 false false true d = itself (b0 + 16)
    past_8 false false false true = itself b1
    past_8 false false false false = refl

abbrev AllFit : List ℕ → Type 0
AllFit p = (i : ℕ) → i < length p → Fits p i

wanted_fits : (p : List ℕ) → Fits (p ++ (wanted p ∷ [])) (length p)
wanted_fits [] = refl
wanted_fits (y ∷ ys) =
    let p : List ℕ = y ∷ ys in
    let r : List ℕ = wanted p ∷ [] in
    let n = length p in
    by_lt n 8
    (λ low. other_bytes (p ++ r) n (inl (omega arith, low)))
    (λ high.
    let here : get_or (p ++ r) n 0 ≡ wanted p = get_last p (wanted p) [] in
    let b0 = get_front p r 0 (omega arith) in
    let b1 = get_front p r 1 (omega arith) in
    let b4 = get_front p r (n - 4) (omega arith) in
    let b10 = get_front p r (n - 10) (omega arith) in
    (λ k. asked n (here k) (b0 k) (b1 k) (b4 k) (b10 k))
    ∙ asked_wanted n (get_or p 0 0) (get_or p 1 0) (get_or p (n - 4) 0) (get_or p (n - 10) 0) (omega arith))

all_more : (p : List ℕ) → AllFit p → AllFit (p ++ (wanted p ∷ []))
all_more p all i l =
    let long = length-append p (wanted p ∷ []) in
    by_lt i (length p)
    (λ low. fits_prefix p (wanted p ∷ []) i low ∙ all i low)
    (λ high. (let P : ℕ → Type 0 = λ k. Fits (p ++ (wanted p ∷ [])) k in subst P (let e : length p ≡ i = omega arith in e) (wanted_fits p)))

wanted_small : (p : List ℕ) → AllFit p → IsBytes p → wanted p < 256
wanted_small [] all small = omega arith
wanted_small (y ∷ ys) all small =
    let p : List ℕ = y ∷ ys in
    let top : y < 16 = from_test y 16 (all 0 (omega arith)) in
    choose (nat_lt (length p) 8) (nat_lt (length p) 12) (nat_lt (length p) 14) (eqb (length p) 14) (eqb (length p) 15)
    y (get_or p 1 0) (get_or p (length p - 4) 0) (get_or p (length p - 10) 0) top (small 1) (small (length p - 4)) (small (length p - 10))
  where
    from_test : (m n : ℕ) → nat_lt m n ≡ true → m < n
    from_test m n e = grind (arith, nat_tests)

    choose : (a b c d e : Bool) (b0 b1 b4 b10 : ℕ) → b0 < 16 → b1 < 256 → b4 < 256 → b10 < 256
        → cond a 0 (cond b b4 (cond c b10 (cond d (b0 + 16) (cond e b1 0)))) < 256
    choose true b c d e b0 b1 b4 b10 h0 h1 h4 h10 = omega arith
    choose false true c d e b0 b1 b4 b10 h0 h1 h4 h10 = h4
    choose false false true d e b0 b1 b4 b10 h0 h1 h4 h10 = h10
    choose false false false true e b0 b1 b4 b10 h0 h1 h4 h10 = omega arith
    choose false false false false true b0 b1 b4 b10 h0 h1 h4 h10 = h1
    choose false false false false false b0 b1 b4 b10 h0 h1 h4 h10 = omega arith

-- bytes that are asked for are completed by k more
completed : (k : ℕ) (p : List ℕ) → AllFit p → IsBytes p → length p + k ≡ 24
    → (rest : List ℕ) × (v : CqlValue) × IsOrderWord types.Timeuuid false (p ++ rest) v
completed zero p all small len =
    let long : length p ≡ 24 = omega arith in
    let word = fits_word p long small (λ i l. all i (omega arith)) in
    let uuid = from_be_bytes w128 (drop 8 p) in
    ([], values.Timeuuid uuid, subst (λ (l : List ℕ). IsOrderWord types.Timeuuid false l (values.Timeuuid uuid)) (sym (append-nil p)) word)
completed (suc k) p all small len =
    let x = wanted p in
    let long = length-append p (x ∷ []) in
    let more = completed k (p ++ (x ∷ [])) (all_more p all) (small_append p (x ∷ []) small (small_cons x [] (wanted_small p all small) small_nil)) (omega arith) in
    (x ∷ more.0, more.1, subst (λ (l : List ℕ). IsOrderWord types.Timeuuid false l more.1) (append_assoc p (x ∷ []) more.0) more.2)

pub time_continues : (p : List ℕ) → AllFit p → IsBytes p → length p < 24 → Continues (IsOrderWord types.Timeuuid false) p
time_continues p all small short =
    let x = wanted p in
    let long = length-append p (x ∷ []) in
    let more = completed (23 - length p) (p ++ (x ∷ [])) (all_more p all) (small_append p (x ∷ []) small (small_cons x [] (wanted_small p all small) small_nil)) (omega arith) in
    (more.1, x, more.0, subst (λ (l : List ℕ). IsOrderWord types.Timeuuid false l more.1) (append_assoc p (x ∷ []) more.0) more.2)

pub time_ends : (p : List ℕ) (i : ℕ) → i < length p → is_time_byte p i ≡ false → EndsAllWords (IsOrderWord types.Timeuuid false) p
time_ends p i l refused (values.Timeuuid uuid) rest (t, value, word) =
    false≢true (sym refused ∙ sym (fits_prefix p rest i l) ∙ ap (λ (w : List ℕ). is_time_byte w i) word ∙ timeuuid_fits uuid value i)
time_ends p i l refused v rest (t, value, word) = absurd (cc)

small_take : (n : ℕ) (bytes : List ℕ) → IsBytes bytes → IsBytes (take n bytes)
small_take zero bytes small i = omega arith
small_take (suc n) [] small i = omega arith
small_take (suc n) (b ∷ bs) small zero = small 0
small_take (suc n) (b ∷ bs) small (suc i) = small_take n bs (λ j. small (suc j)) i

-- a byte of a front
fits_take : (all : List ℕ) (n i : ℕ) → n ≤ length all → i < n → is_time_byte (take n all) i ≡ is_time_byte all i
fits_take all n i within l =
    let long = length-take-le n all within in
    sym (fits_prefix (take n all) (drop n all) i (omega arith)) ∙ ap (λ (w : List ℕ). is_time_byte w i) (take-append-drop n all)

pub time_refused : (all : List ℕ) (at : ℕ) → at < length all → at < 24 → ((k : ℕ) → k < at → Fits all k) → IsBytes all → is_time_byte all at ≡ false
    → (at < length all) × Continues (IsOrderWord types.Timeuuid false) (take at all) × EndsAllWords (IsOrderWord types.Timeuuid false) (take (at + 1) all)
time_refused all at within low fits small refused =
    let long = length-take-le at all (omega arith) in
    let longer = length-take-le (at + 1) all (omega arith) in (
      within,
      time_continues (take at all) (λ i l. fits_take all at i (omega arith) (omega arith) ∙ fits i (omega arith)) (small_take at all small) (omega arith),
      time_ends (take (at + 1) all) at (omega arith) (fits_take all (at + 1) at (omega arith) (omega arith) ∙ refused),
    )

pub time_read : (all : List ℕ) (uuid : ℕ) → 24 ≤ length all → ((k : ℕ) → k < 24 → Fits all k) → IsBytes all → uuid ≡ from_be_bytes w128 (take 16 (drop 8 all))
    → (24 ≤ length all) × IsOrderWord types.Timeuuid false (take 24 all) (values.Timeuuid uuid)
time_read all uuid within fits small is =
    let long = length-take-le 24 all within in
    let word = fits_word (take 24 all) long (small_take 24 all small) (λ i l. fits_take all 24 i within l ∙ fits i l) in
    let parts : drop 8 (take 24 all) ≡ take 16 (drop 8 all) = drop-take 8 16 all in
    (within, subst (λ (u : ℕ). IsOrderWord types.Timeuuid false (take 24 all) (values.Timeuuid u)) (ap (from_be_bytes w128) parts ∙ sym is) word)
