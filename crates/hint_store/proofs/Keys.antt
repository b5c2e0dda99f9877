-- Keys that come and go, counted by any test.
use Rattle.std.proofs.Common.{◌≡◌, ℕ, ◌+◌, ◌<◌, ◌≤◌, Bool, true, false, List, [], ◌∷◌, filter, length, refl, sym, ap, subst, ◌∙◌, arith}
use Rattle.std.specs.Prelude.{◌||◌, if◌then◌else◌}
use Rattle.std.specs.declared.cmp.Ordering.{Ordering}
use Rattle.std.specs.declared.cmp.Ordering.TheVariants.{Less, Equal, Greater}
use Rattle.std.specs.Ordering.{nat_cmp, ordering_then, is_eq, match_ordering, MatchOrdering}
use Rattle.std.specs.List.{list_any}
use Rattle.std.specs.BTreeMap.{is_at}
use Rattle.std.specs.BTreeSet.{insert_key}
use Rattle.std.specs.Set.{remove_key}
use Rattle.std.specs.Cmp.{IsTotalOrder}
use Rattle.std.proofs.lemmas.Bool.{or_parts}
use Rattle.std.proofs.lemmas.Cmp.{ranked, then_total, on_total, nat_cmp_total}
use Rattle.hint_store.specs.Tables.{place_cmp, number_cmp, age_cmp, passing, one_if, Gains, HaveSame}

-- ---- counting

pass_if : {X : Type 0} (b : Bool) (x : X) (ys : List X) → length (if b then x ∷ ys else ys) ≡ one_if b + length ys
pass_if true x ys = omega arith
pass_if false x ys = omega arith

pub passing_cons : {X : Type 0} (q : X → Bool) (x : X) (xs : List X) → passing q (x ∷ xs) ≡ one_if (q x) + passing q xs
passing_cons q x xs = pass_if (q x) x (filter q xs)

any_if : (b c : Bool) (n : ℕ) → (n ≡ 0 → c ≡ false) → one_if b + n ≡ 0 → (b || c) ≡ false
any_if true c n rest h = absurd (omega (arith, h))
any_if false c n rest h = rest (omega (arith, h))

pub none_from_count : {X : Type 0} (q : X → Bool) (xs : List X) → passing q xs ≡ 0 → list_any q xs ≡ false
none_from_count q [] h = refl
none_from_count q (x ∷ xs) h = any_if (q x) (list_any q xs) (passing q xs) (none_from_count q xs) (sym (passing_cons q x xs) ∙ h)

some_if : (b c : Bool) (n : ℕ) → (1 ≤ n → c ≡ true) → 1 ≤ one_if b + n → (b || c) ≡ true
some_if true c n rest h = refl
some_if false c n rest h = rest (omega (arith, h))

pub some_from_count : {X : Type 0} (q : X → Bool) (xs : List X) → 1 ≤ passing q xs → list_any q xs ≡ true
some_from_count q [] h = absurd (omega (arith, h))
some_from_count q (x ∷ xs) h = some_if (q x) (list_any q xs) (passing q xs) (some_from_count q xs) (let e = passing_cons q x xs in omega (arith, e, h))

count_if : (b c : Bool) (n : ℕ) → (c ≡ true → 1 ≤ n) → (b || c) ≡ true → 1 ≤ one_if b + n
count_if true c n rest h = omega arith
count_if false c n rest h = let k = rest h in omega (arith, k)

pub count_from_some : {X : Type 0} (q : X → Bool) (xs : List X) → list_any q xs ≡ true → 1 ≤ passing q xs
count_from_some q [] h = cc
count_from_some q (x ∷ xs) h = let k = count_if (q x) (list_any q xs) (passing q xs) (count_from_some q xs) h in let e = passing_cons q x xs in omega (arith, e, k)

zero_if : (b c : Bool) (n : ℕ) → (c ≡ false → n ≡ 0) → (b || c) ≡ false → one_if b + n ≡ 0
zero_if true c n rest h = cc
zero_if false c n rest h = let k = rest h in omega (arith, k)

pub count_from_none : {X : Type 0} (q : X → Bool) (xs : List X) → list_any q xs ≡ false → passing q xs ≡ 0
count_from_none q [] h = refl
count_from_none q (x ∷ xs) h = passing_cons q x xs ∙ zero_if (q x) (list_any q xs) (passing q xs) (count_from_none q xs) h

-- ---- a key comes

gains_at : {K : Type 0} (o : Ordering) (q : K → Bool) (k x : K) (xs ins : List K) → is_eq o ≡ false → passing q ins ≡ one_if (q k) + passing q xs
    → passing q (match_ordering o (k ∷ x ∷ xs) (x ∷ xs) (x ∷ ins)) ≡ one_if (q k) + passing q (x ∷ xs)
gains_at Less q k x xs ins not_eq rest = passing_cons q k (x ∷ xs)
gains_at Equal q k x xs ins not_eq rest = cc
gains_at Greater q k x xs ins not_eq rest =
    let now = passing_cons q x ins in
    let was = passing_cons q x xs in
    omega (arith, now, was, rest)

pub gains_key : {K : Type 0} (cmp : K → K → Ordering) (ks : List K) (k : K) → list_any (is_at (cmp k)) ks ≡ false → Gains k ks (insert_key cmp ks k)
gains_key cmp [] k none q = passing_cons q k []
gains_key cmp (x ∷ xs) k none q =
    let parts = or_parts (is_eq (cmp k x)) (list_any (is_at (cmp k)) xs) none in
    gains_at (cmp k x) q k x xs (insert_key cmp xs k) parts.0 (gains_key cmp xs k parts.1 q)

-- ---- a key goes

abbrev pub IsExact : {K : Type 0} → (K → K → Ordering) → Type 0
IsExact {K} cmp = (x y : K) → cmp x y ≡ Equal → x ≡ y

loses_other : {K : Type 0} (q : K → Bool) (k x : K) (xs left : List K) → passing q xs ≡ one_if (q k) + passing q left → passing q (x ∷ xs) ≡ one_if (q k) + passing q (x ∷ left)
loses_other q k x xs left rest =
    let now = passing_cons q x left in
    let was = passing_cons q x xs in
    omega (arith, now, was, rest)

loses_at : {K : Type 0} (o : Ordering) (any : Bool) (q : K → Bool) (k x : K) (xs left : List K) → (o ≡ Equal → k ≡ x) → (is_eq o || any) ≡ true
    → (any ≡ true → passing q xs ≡ one_if (q k) + passing q left) → passing q (x ∷ xs) ≡ one_if (q k) + passing q (if is_eq o then xs else x ∷ left)
loses_at {K} Equal any q k x xs left exact h rest = passing_cons q x xs ∙ ap (λ (z : K). one_if (q z) + passing q xs) (sym (exact refl))
loses_at Less any q k x xs left exact h rest = loses_other q k x xs left (rest h)
loses_at Greater any q k x xs left exact h rest = loses_other q k x xs left (rest h)

pub loses_key : {K : Type 0} (cmp : K → K → Ordering) → IsExact cmp → (ks : List K) (k : K) → list_any (is_at (cmp k)) ks ≡ true → Gains k (remove_key (is_at (cmp k)) ks) ks
loses_key cmp exact [] k there q = cc
loses_key cmp exact (x ∷ xs) k there q =
    loses_at (cmp k x) (list_any (is_at (cmp k)) xs) q k x xs (remove_key (is_at (cmp k)) xs) (exact k x) there (λ h. loses_key cmp exact xs k h q)

-- a key that came and went
pub back_again : {K : Type 0} (k : K) (ks with_it left : List K) → Gains k ks with_it → Gains k left with_it → HaveSame ks left
back_again k ks with_it left came went q =
    let a = came q in
    let b = went q in
    omega (arith, a, b)

-- ---- keys that are equal are the same

pub then_equal : (a b : Ordering) → ordering_then a b ≡ Equal → (a ≡ Equal) × (b ≡ Equal)
then_equal Less b e = cc
then_equal Equal b e = (refl, e)
then_equal Greater b e = cc

pub nat_equal : (x y : ℕ) → nat_cmp x y ≡ Equal → x ≡ y
nat_equal x y e = subst (λ (o : Ordering). MatchOrdering o (x < y) (x ≡ y) (y < x)) e (ranked x y (nat_cmp x y) refl)

pub place_exact : IsExact place_cmp
place_exact x y e =
    let parts = then_equal (nat_cmp x.0 y.0) (nat_cmp x.1 y.1) e in
    ap (λ (a : ℕ). (a, x.1)) (nat_equal x.0 y.0 parts.0) ∙ ap (λ (a : ℕ). (y.0, a)) (nat_equal x.1 y.1 parts.1)

pub number_exact : IsExact number_cmp
number_exact x y e =
    let parts = then_equal (ordering_then (nat_cmp x.0 y.0) (nat_cmp x.1 y.1)) (nat_cmp x.2 y.2) e in
    let front = then_equal (nat_cmp x.0 y.0) (nat_cmp x.1 y.1) parts.0 in
    ap (λ (a : ℕ). (a, x.1, x.2)) (nat_equal x.0 y.0 front.0)
    ∙ ap (λ (a : ℕ). (y.0, a, x.2)) (nat_equal x.1 y.1 front.1)
    ∙ ap (λ (a : ℕ). (y.0, y.1, a)) (nat_equal x.2 y.2 parts.1)

pub age_exact : IsExact age_cmp
age_exact x y e =
    let parts = then_equal (ordering_then (ordering_then (nat_cmp x.0 y.0) (nat_cmp x.1 y.1)) (nat_cmp x.2 y.2)) (nat_cmp x.3 y.3) e in
    let middle = then_equal (ordering_then (nat_cmp x.0 y.0) (nat_cmp x.1 y.1)) (nat_cmp x.2 y.2) parts.0 in
    let front = then_equal (nat_cmp x.0 y.0) (nat_cmp x.1 y.1) middle.0 in
    ap (λ (a : ℕ). (a, x.1, x.2, x.3)) (nat_equal x.0 y.0 front.0)
    ∙ ap (λ (a : ℕ). (y.0, a, x.2, x.3)) (nat_equal x.1 y.1 front.1)
    ∙ ap (λ (a : ℕ). (y.0, y.1, a, x.3)) (nat_equal x.2 y.2 middle.1)
    ∙ ap (λ (a : ℕ). (y.0, y.1, y.2, a)) (nat_equal x.3 y.3 parts.1)

-- ---- their orders

pub place_total : IsTotalOrder place_cmp
place_total = then_total (on_total (λ (x : ℕ × ℕ). x.0) nat_cmp_total) (on_total (λ (x : ℕ × ℕ). x.1) nat_cmp_total)

pub number_total : IsTotalOrder number_cmp
number_total = then_total (then_total (on_total (λ (x : ℕ × ℕ × ℕ). x.0) nat_cmp_total) (on_total (λ (x : ℕ × ℕ × ℕ). x.1) nat_cmp_total)) (on_total (λ (x : ℕ × ℕ × ℕ). x.2) nat_cmp_total)

pub age_total : IsTotalOrder age_cmp
age_total =
    then_total
    (then_total (then_total (on_total (λ (x : ℕ × ℕ × ℕ × ℕ). x.0) nat_cmp_total) (on_total (λ (x : ℕ × ℕ × ℕ × ℕ). x.1) nat_cmp_total)) (on_total (λ (x : ℕ × ℕ × ℕ × ℕ). x.2) nat_cmp_total))
    (on_total (λ (x : ℕ × ℕ × ℕ × ℕ). x.3) nat_cmp_total)
