-- Numbers as bytes, the highest first.
use Rattle.std.proofs.Common.{◌≡◌, ◌<◌, ◌+◌, ◌*◌, ◌/◌, ◌%◌, ◌^◌, ℕ, zero, suc, List, [], ◌∷◌, ◌++◌, length, get_or, arith, refl, sym, ap, ◌∙◌, subst, add-zero, pow-add}
use Rattle.std.proofs.Math.Nat.{mul_assoc, mul_comm, mul-add-div_right, mul-add-mod_self_right, div-one, one-le-pow, pow-succ', div-eq_of_lt, div-div-eq-div-mul}
use Rattle.std.specs.Int.{byte_at, bytes_high_first}

-- a byte of a number, by its place
pub byte_at-pow : (k n : ℕ) → byte_at k n ≡ n / 256 ^ k % 256
byte_at-pow zero n = ap (λ (m : ℕ). m % 256) (sym (div-one n))
byte_at-pow (suc k) n = refl

pub pow_pos256 : (k : ℕ) → zero < 256 ^ k
pow_pos256 k = let h = one-le-pow k 256 (omega arith) in omega arith

pub length-bytes_high_first : (k n : ℕ) → length (bytes_high_first k n) ≡ k
length-bytes_high_first zero n = refl
length-bytes_high_first (suc k) n = let e = length-bytes_high_first k n in omega (arith, e)

-- k bytes do not see what is above them
pub bytes_high_first-low : (k c r : ℕ) → bytes_high_first k (c * 256 ^ k + r) ≡ bytes_high_first k r
bytes_high_first-low zero c r = refl
bytes_high_first-low (suc k) c r =
    let moved : c * 256 ^ suc k + r ≡ c * 256 * 256 ^ k + r = ap (λ (p : ℕ). p + r) (ap (λ (p : ℕ). c * p) (pow-succ' 256 k) ∙ sym (mul_assoc c 256 (256 ^ k))) in
    let quotient : (c * 256 * 256 ^ k + r) / 256 ^ k ≡ c * 256 + r / 256 ^ k = mul-add-div_right (pow_pos256 k) (c * 256) r in
    let top : byte_at k (c * 256 ^ suc k + r) ≡ byte_at k r =
    byte_at-pow k (c * 256 ^ suc k + r)
    ∙ ap (λ (m : ℕ). m / 256 ^ k % 256) moved
    ∙ ap (λ (m : ℕ). m % 256) quotient
    ∙ mul-add-mod_self_right c 256 (r / 256 ^ k)
    ∙ sym (byte_at-pow k r) in
    let rest : bytes_high_first k (c * 256 ^ suc k + r) ≡ bytes_high_first k r =
    ap (bytes_high_first k) moved ∙ bytes_high_first-low k (c * 256) r in
    λ i. top i ∷ rest i

-- the highest byte stands first
pub bytes_high_first-top : (k b r : ℕ) → b < 256 → r < 256 ^ k → bytes_high_first (suc k) (b * 256 ^ k + r) ≡ b ∷ bytes_high_first k r
bytes_high_first-top k b r small low =
    let quotient : (b * 256 ^ k + r) / 256 ^ k ≡ b + r / 256 ^ k = mul-add-div_right (pow_pos256 k) b r in
    let none : r / 256 ^ k ≡ 0 = div-eq_of_lt low in
    let top : byte_at k (b * 256 ^ k + r) ≡ b =
    byte_at-pow k (b * 256 ^ k + r) ∙ ap (λ (m : ℕ). m % 256) quotient ∙ ap (λ (m : ℕ). (b + m) % 256) none ∙ omega arith in
    let rest = bytes_high_first-low k b r in
    λ i. top i ∷ rest i

-- the number that bytes are
abbrev pub number : List ℕ → ℕ
number [] = 0
number (b ∷ bs) = b * 256 ^ length bs + number bs

pub number-lt : (bs : List ℕ) → ((i : ℕ) → get_or bs i 0 < 256) → number bs < 256 ^ length bs
number-lt [] small = omega arith
number-lt (b ∷ bs) small =
    let rest = number-lt bs (λ i. small (suc i)) in
    let first : b < 256 = small 0 in
    let room = pow_pos256 (length bs) in
    go b (256 ^ length bs) (number bs) (256 ^ suc (length bs)) first rest (pow-succ' 256 (length bs))
  where
    go : (b p r q : ℕ) → b < 256 → r < p → q ≡ 256 * p → b * p + r < q
    go b p r q first rest is = grind arith

pub bytes_high_first-number : (bs : List ℕ) → ((i : ℕ) → get_or bs i 0 < 256) → bytes_high_first (length bs) (number bs) ≡ bs
bytes_high_first-number [] small = refl
bytes_high_first-number (b ∷ bs) small =
    bytes_high_first-top (length bs) b (number bs) (small 0) (number-lt bs (λ i. small (suc i)))
    ∙ ap (λ (l : List ℕ). b ∷ l) (bytes_high_first-number bs (λ i. small (suc i)))

pub small-bytes_high_first : (k n i : ℕ) → get_or (bytes_high_first k n) i 0 < 256
small-bytes_high_first zero n i = omega arith
small-bytes_high_first (suc k) n zero = subst (λ (b : ℕ). b < 256) (sym (byte_at-pow k n)) (omega arith)
small-bytes_high_first (suc k) n (suc i) = small-bytes_high_first k n i

-- the high bytes, and then the low ones
pub bytes_high_first-split : (j k a b : ℕ) → b < 256 ^ k → bytes_high_first (j + k) (a * 256 ^ k + b) ≡ bytes_high_first j a ++ bytes_high_first k b
bytes_high_first-split zero k a b low =
    let none : 0 + k ≡ k = omega arith in
    ap (λ (n : ℕ). bytes_high_first n (a * 256 ^ k + b)) none ∙ bytes_high_first-low k a b
bytes_high_first-split (suc j) k a b low =
    let more : suc j + k ≡ suc (j + k) = omega arith in
    let room = pow_pos256 k in
    let quotient : (a * 256 ^ k + b) / 256 ^ k ≡ a = mul-add-div_right room a b ∙ ap (λ (m : ℕ). a + m) (div-eq_of_lt low) ∙ add-zero a in
    let power : 256 ^ (j + k) ≡ 256 ^ k * 256 ^ j = pow-add 256 j k ∙ mul_comm (256 ^ j) (256 ^ k) in
    let top : byte_at (j + k) (a * 256 ^ k + b) ≡ byte_at j a =
    byte_at-pow (j + k) (a * 256 ^ k + b)
    ∙ ap (λ (p : ℕ). (a * 256 ^ k + b) / p % 256) power
    ∙ ap (λ (m : ℕ). m % 256) (sym (div-div-eq-div-mul (a * 256 ^ k + b) (256 ^ k) (256 ^ j)))
    ∙ ap (λ (m : ℕ). m / 256 ^ j % 256) quotient
    ∙ sym (byte_at-pow j a) in
    ap (λ (n : ℕ). bytes_high_first n (a * 256 ^ k + b)) more
    ∙ (λ i. top i ∷ bytes_high_first-split j k a b low i)
