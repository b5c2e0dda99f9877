-- Bytes that are compared up to the first difference.
use Rattle.std.proofs.Common.{◌≡◌, ◌<◌, ◌≤◌, ◌-◌, ◌+◌, ◌*◌, ◌^◌, ◌/◌, ◌%◌, ℕ, zero, suc, true, false, cond, eqb, List, [], ◌∷◌, ◌++◌, get_or, map, Option, Some, None, arith, refl, sym, ap, ◌∙◌, subst}
use Rattle.std.specs.Ordering.{nat_cmp, ordering_then, ordering_reverse}
use Rattle.std.specs.Cmp.Lexicographic.{slice_cmp}
use Rattle.std.specs.declared.cmp.Ordering.{Ordering}
use Rattle.std.specs.declared.cmp.Ordering.TheVariants.{Less, Equal, Greater}
use Rattle.std.specs.Int.{bytes_high_first}
use Rattle.std.proofs.lemmas.Bool.Decides.{nat_tests}
use Rattle.std.proofs.lemmas.Cmp.{ranked, by_ranked}
use Rattle.std.proofs.Math.Nat.{mul-le-mul_right, add-mul, div-add-mod', div-lt_iff_lt-mul, mod-lt, pow-succ'}
use Rattle.cql_values.proofs.Endian.{bytes_high_first-top, pow_pos256}
use Rattle.cql_values.proofs.Quotes.{by_bool, cond_true, cond_false}
use Rattle.cql_values.specs.Order.{escaped}

-- the answer of two bytes, and then of what follows
abbrev pub then_some : Ordering → Option Ordering → Option Ordering
then_some Less o = Some Less
then_some Equal o = o
then_some Greater o = Some Greater

-- the order of two words, where neither ends before they differ
abbrev pub word_cmp : List ℕ → List ℕ → Option Ordering
word_cmp [] [] = Some Equal
word_cmp [] (y ∷ ys) = None
word_cmp (x ∷ xs) [] = None
word_cmp (x ∷ xs) (y ∷ ys) = then_some (nat_cmp x y) (word_cmp xs ys)

pub same_some : {A : Type 0} {x y : A} → Some x ≡ Some y → x ≡ y
same_some h = cc

-- ---- by cases on two numbers

pub less_cmp : (m n : ℕ) → m < n → nat_cmp m n ≡ Less
less_cmp m n h = grind (arith, nat_tests)

pub more_cmp : (m n : ℕ) → n < m → nat_cmp m n ≡ Greater
more_cmp m n h = grind (arith, nat_tests)

pub same_cmp : (m n : ℕ) → m ≡ n → nat_cmp m n ≡ Equal
same_cmp m n h = grind (arith, nat_tests)

pub by_cmp : {P : Type 0} (m n : ℕ) → (m < n → P) → (m ≡ n → P) → (n < m → P) → P
by_cmp {P} m n low same high =
    by_ranked (m < n) (m ≡ n) (n < m) {G = P} (nat_cmp m n) (ranked m n (nat_cmp m n) refl) (λ _ h. low h) (λ _ h. same h) (λ _ h. high h)

-- ---- what follows two words

followed : (c o : Ordering) (w : Option Ordering) (p q : Ordering) → then_some c w ≡ Some o
    → ((d : Ordering) → w ≡ Some d → p ≡ ordering_then d q) → ordering_then c p ≡ ordering_then o q
followed Less o w p q h rest = ap (λ (x : Ordering). ordering_then x q) (same_some h)
followed Equal o w p q h rest = rest o h
followed Greater o w p q h rest = ap (λ (x : Ordering). ordering_then x q) (same_some h)

pub word_cmp-append : (a b r s : List ℕ) (o : Ordering) → word_cmp a b ≡ Some o → slice_cmp nat_cmp (a ++ r) (b ++ s) ≡ ordering_then o (slice_cmp nat_cmp r s)
word_cmp-append [] [] r s o h = ap (λ (x : Ordering). ordering_then x (slice_cmp nat_cmp r s)) (same_some h)
word_cmp-append [] (y ∷ ys) r s o h = absurd (cc)
word_cmp-append (x ∷ xs) [] r s o h = absurd (cc)
word_cmp-append (x ∷ xs) (y ∷ ys) r s o h =
    followed (nat_cmp x y) o (word_cmp xs ys) (slice_cmp nat_cmp (xs ++ r) (ys ++ s)) (slice_cmp nat_cmp r s) h (λ d e. word_cmp-append xs ys r s d e)

-- ---- two words after two words

joined : (c o d : Ordering) (w u : Option Ordering) → then_some c w ≡ Some o → ((e : Ordering) → w ≡ Some e → u ≡ Some (ordering_then e d))
    → then_some c u ≡ Some (ordering_then o d)
joined Less o d w u h rest = ap (λ (x : Ordering). Some (ordering_then x d)) (same_some h)
joined Equal o d w u h rest = rest o h
joined Greater o d w u h rest = ap (λ (x : Ordering). Some (ordering_then x d)) (same_some h)

pub word_cmp-joined : (a b c d : List ℕ) (o p : Ordering) → word_cmp a b ≡ Some o → word_cmp c d ≡ Some p → word_cmp (a ++ c) (b ++ d) ≡ Some (ordering_then o p)
word_cmp-joined [] [] c d o p h g = g ∙ ap (λ (x : Ordering). Some (ordering_then x p)) (same_some h)
word_cmp-joined [] (y ∷ ys) c d o p h g = absurd (cc)
word_cmp-joined (x ∷ xs) [] c d o p h g = absurd (cc)
word_cmp-joined (x ∷ xs) (y ∷ ys) c d o p h g =
    joined (nat_cmp x y) o p (word_cmp xs ys) (word_cmp (xs ++ c) (ys ++ d)) h (λ e f. word_cmp-joined xs ys c d e p f g)

-- ---- complements

flipped_cmp : (x y : ℕ) → x < 256 → y < 256 → nat_cmp (255 - x) (255 - y) ≡ ordering_reverse (nat_cmp x y)
flipped_cmp x y a b =
    by_cmp x y
    (λ l. more_cmp (255 - x) (255 - y) (omega arith) ∙ sym (ap ordering_reverse (less_cmp x y l)))
    (λ e. same_cmp (255 - x) (255 - y) (omega arith) ∙ sym (ap ordering_reverse (same_cmp x y e)))
    (λ l. less_cmp (255 - x) (255 - y) (omega arith) ∙ sym (ap ordering_reverse (more_cmp x y l)))

reversed : (c o : Ordering) (w u : Option Ordering) → then_some c w ≡ Some o → ((e : Ordering) → w ≡ Some e → u ≡ Some (ordering_reverse e))
    → then_some (ordering_reverse c) u ≡ Some (ordering_reverse o)
reversed Less o w u h rest = ap (λ (x : Ordering). Some (ordering_reverse x)) (same_some h)
reversed Equal o w u h rest = rest o h
reversed Greater o w u h rest = ap (λ (x : Ordering). Some (ordering_reverse x)) (same_some h)

pub word_cmp-complement : (a b : List ℕ) (o : Ordering) → ((i : ℕ) → get_or a i 0 < 256) → ((i : ℕ) → get_or b i 0 < 256) → word_cmp a b ≡ Some o
    → word_cmp (map (λ c. 255 - c) a) (map (λ c. 255 - c) b) ≡ Some (ordering_reverse o)
word_cmp-complement [] [] o small_a small_b h = ap (λ (x : Ordering). Some (ordering_reverse x)) (same_some h)
word_cmp-complement [] (y ∷ ys) o small_a small_b h = absurd (cc)
word_cmp-complement (x ∷ xs) [] o small_a small_b h = absurd (cc)
word_cmp-complement (x ∷ xs) (y ∷ ys) o small_a small_b h =
    ap (λ (c : Ordering). then_some c (word_cmp (map (λ c. 255 - c) xs) (map (λ c. 255 - c) ys))) (flipped_cmp x y (small_a 0) (small_b 0))
    ∙ reversed (nat_cmp x y) o (word_cmp xs ys) (word_cmp (map (λ c. 255 - c) xs) (map (λ c. 255 - c) ys)) h
    (λ e f. word_cmp-complement xs ys e (λ i. small_a (suc i)) (λ i. small_b (suc i)) f)

-- ---- numbers, the highest byte first

carry : (p a b c d : ℕ) → b < p → a < c → a * p + b < c * p + d
carry p a b c d small l =
    let room : (a + 1) * p ≤ c * p = mul-le-mul_right p (omega arith) in
    let split : (a + 1) * p ≡ a * p + 1 * p = add-mul a 1 p in
    omega arith

digits_cmp : (p a b c d : ℕ) → b < p → d < p → nat_cmp (a * p + b) (c * p + d) ≡ ordering_then (nat_cmp a c) (nat_cmp b d)
digits_cmp p a b c d small_b small_d =
    by_cmp a c
    (λ l. less_cmp (a * p + b) (c * p + d) (carry p a b c d small_b l) ∙ sym (ap (λ (o : Ordering). ordering_then o (nat_cmp b d)) (less_cmp a c l)))
    (λ e.
    ap (λ (x : ℕ). nat_cmp (x * p + b) (c * p + d)) e
    ∙ shifted (c * p)
    ∙ sym (ap (λ (o : Ordering). ordering_then o (nat_cmp b d)) (same_cmp a c e)))
    (λ l. more_cmp (a * p + b) (c * p + d) (carry p c d a b small_d l) ∙ sym (ap (λ (o : Ordering). ordering_then o (nat_cmp b d)) (more_cmp a c l)))
  where
    shifted : (m : ℕ) → nat_cmp (m + b) (m + d) ≡ nat_cmp b d
    shifted m =
        by_cmp b d
        (λ l. less_cmp (m + b) (m + d) (omega arith) ∙ sym (less_cmp b d l))
        (λ e. same_cmp (m + b) (m + d) (omega arith) ∙ sym (same_cmp b d e))
        (λ l. more_cmp (m + b) (m + d) (omega arith) ∙ sym (more_cmp b d l))

some_then : (c d : Ordering) → then_some c (Some d) ≡ Some (ordering_then c d)
some_then Less d = refl
some_then Equal d = refl
some_then Greater d = refl

pub word_cmp-bytes : (k m n : ℕ) → m < 256 ^ k → n < 256 ^ k → word_cmp (bytes_high_first k m) (bytes_high_first k n) ≡ Some (nat_cmp m n)
word_cmp-bytes zero m n small_m small_n = ap Some (sym (same_cmp m n (omega arith)))
word_cmp-bytes (suc k) m n small_m small_n =
    let p = 256 ^ k in
    let wide : 256 ^ suc k ≡ 256 * p = pow-succ' 256 k in
    let room : 0 < p = pow_pos256 k in
    let split_m : m ≡ m / p * p + m % p = sym (div-add-mod' m p) in
    let split_n : n ≡ n / p * p + n % p = sym (div-add-mod' n p) in
    let low_m : m % p < p = mod-lt m room in
    let low_n : n % p < p = mod-lt n room in
    let top_m : m / p < 256 = (div-lt_iff_lt-mul room).1 (subst (λ (q : ℕ). m < q) wide small_m) in
    let top_n : n / p < 256 = (div-lt_iff_lt-mul room).1 (subst (λ (q : ℕ). n < q) wide small_n) in
    let at_m : bytes_high_first (suc k) m ≡ (m / p) ∷ bytes_high_first k (m % p) = ap (bytes_high_first (suc k)) split_m ∙ bytes_high_first-top k (m / p) (m % p) top_m low_m in
    let at_n : bytes_high_first (suc k) n ≡ (n / p) ∷ bytes_high_first k (n % p) = ap (bytes_high_first (suc k)) split_n ∙ bytes_high_first-top k (n / p) (n % p) top_n low_n in
    (λ i. word_cmp (at_m i) (at_n i))
    ∙ ap (then_some (nat_cmp (m / p) (n / p))) (word_cmp-bytes k (m % p) (n % p) low_m low_n)
    ∙ some_then (nat_cmp (m / p) (n / p)) (nat_cmp (m % p) (n % p))
    ∙ ap Some (sym (digits_cmp p (m / p) (m % p) (n / p) (n % p) low_m low_n))
    ∙ (λ i. Some (nat_cmp (sym split_m i) (sym split_n i)))

-- ---- texts with their zeros escaped

zero_is : (c : ℕ) → eqb c 0 ≡ true → c ≡ 0
zero_is c e = grind (arith, nat_tests)

some_is : (c : ℕ) → eqb c 0 ≡ false → 0 < c
some_is c e = grind (arith, nat_tests)

abbrev first_byte : ℕ → List ℕ → List ℕ
first_byte c rest = cond (eqb c 0) (0 ∷ 255 ∷ rest) (c ∷ rest)

pub word_cmp-escaped : (xs ys : List ℕ) → word_cmp (escaped xs) (escaped ys) ≡ Some (slice_cmp nat_cmp xs ys)
word_cmp-escaped [] [] = refl
word_cmp-escaped [] (y ∷ ys) =
    by_bool (eqb y 0)
    (λ e. ap (word_cmp (0 ∷ 0 ∷ [])) (cond_true (eqb y 0) (0 ∷ 255 ∷ escaped ys) (y ∷ escaped ys) e))
    (λ e.
    ap (word_cmp (0 ∷ 0 ∷ [])) (cond_false (eqb y 0) (0 ∷ 255 ∷ escaped ys) (y ∷ escaped ys) e)
    ∙ ap (λ (c : Ordering). then_some c (word_cmp (0 ∷ []) (escaped ys))) (less_cmp 0 y (some_is y e)))
word_cmp-escaped (x ∷ xs) [] =
    by_bool (eqb x 0)
    (λ e. ap (λ (l : List ℕ). word_cmp l (0 ∷ 0 ∷ [])) (cond_true (eqb x 0) (0 ∷ 255 ∷ escaped xs) (x ∷ escaped xs) e))
    (λ e.
    ap (λ (l : List ℕ). word_cmp l (0 ∷ 0 ∷ [])) (cond_false (eqb x 0) (0 ∷ 255 ∷ escaped xs) (x ∷ escaped xs) e)
    ∙ ap (λ (c : Ordering). then_some c (word_cmp (escaped xs) (0 ∷ []))) (more_cmp x 0 (some_is x e)))
word_cmp-escaped (x ∷ xs) (y ∷ ys) =
    let ih : word_cmp (escaped xs) (escaped ys) ≡ Some (slice_cmp nat_cmp xs ys) = word_cmp-escaped xs ys in
    by_bool (eqb x 0)
    (λ e.
    let at_x = cond_true (eqb x 0) (0 ∷ 255 ∷ escaped xs) (x ∷ escaped xs) e in
    by_bool (eqb y 0)
    (λ f.
    let at_y = cond_true (eqb y 0) (0 ∷ 255 ∷ escaped ys) (y ∷ escaped ys) f in
    (λ i. word_cmp (at_x i) (at_y i))
    ∙ ih
    ∙ ap (λ (c : Ordering). Some (ordering_then c (slice_cmp nat_cmp xs ys))) (sym (same_cmp x y (zero_is x e ∙ sym (zero_is y f)))))
    (λ f.
    let at_y = cond_false (eqb y 0) (0 ∷ 255 ∷ escaped ys) (y ∷ escaped ys) f in
    let low : x < y = (let z : x ≡ 0 = zero_is x e in let s : 0 < y = some_is y f in omega arith) in
    (λ i. word_cmp (at_x i) (at_y i))
    ∙ ap (λ (c : Ordering). then_some c (word_cmp (255 ∷ escaped xs) (escaped ys))) (less_cmp 0 y (some_is y f))
    ∙ ap (λ (c : Ordering). Some (ordering_then c (slice_cmp nat_cmp xs ys))) (sym (less_cmp x y low))))
    (λ e.
    let at_x = cond_false (eqb x 0) (0 ∷ 255 ∷ escaped xs) (x ∷ escaped xs) e in
    by_bool (eqb y 0)
    (λ f.
    let at_y = cond_true (eqb y 0) (0 ∷ 255 ∷ escaped ys) (y ∷ escaped ys) f in
    let high : y < x = (let z : y ≡ 0 = zero_is y f in let s : 0 < x = some_is x e in omega arith) in
    (λ i. word_cmp (at_x i) (at_y i))
    ∙ ap (λ (c : Ordering). then_some c (word_cmp (escaped xs) (255 ∷ escaped ys))) (more_cmp x 0 (some_is x e))
    ∙ ap (λ (c : Ordering). Some (ordering_then c (slice_cmp nat_cmp xs ys))) (sym (more_cmp x y high)))
    (λ f.
    let at_y = cond_false (eqb y 0) (0 ∷ 255 ∷ escaped ys) (y ∷ escaped ys) f in
    (λ i. word_cmp (at_x i) (at_y i)) ∙ ap (then_some (nat_cmp x y)) ih ∙ some_then (nat_cmp x y) (slice_cmp nat_cmp xs ys)))
