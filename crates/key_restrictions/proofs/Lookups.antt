-- What look-ups in lists find.
use Rattle.std.proofs.Common.{◌≡◌, ◌+◌, ◌≤◌, ℕ, zero, suc, ◌∷◌, [], ◌||◌, Bool, true, false, cond, List, Some, drop, arith, refl, sym, ap, ◌∙◌, subst}
use Rattle.std.specs.Prelude.{slice_get, count_by}
use Rattle.std.specs.List.{list_any, find}
use Rattle.std.proofs.lemmas.List.Sums.{sum_by-cons}

count_cons : {A : Type 0} (p : A → Bool) (x : A) (xs : List A) → count_by p (x ∷ xs) ≡ cond (p x) 1 0 + count_by p xs
count_cons p x xs = sum_by-cons (λ y. cond (p y) 1 0) x xs

pub or_parts : (a b : Bool) → (a || b) ≡ false → (a ≡ false) × (b ≡ false)
or_parts true b h = absurd (cc)
or_parts false b h = (refl, h)

-- an element that passes, at its place
pub record Passes {A : Type 0} (p : A → Bool) (xs : List A) (x : A) : Type 0 where
  pub place : ℕ
  pub stands : slice_get xs place ≡ Some x
  pub passes : p x ≡ true

pub found : {A : Type 0} (p : A → Bool) (xs : List A) (x : A) → find p xs ≡ Some x → Passes p xs x
found {A} p [] x h = absurd (cc)
found {A} p (y ∷ ys) x h = go (p y) refl h (λ g. found p ys x g)
  where
    go : (a : Bool) → p y ≡ a → cond a (Some y) (find p ys) ≡ Some x → (find p ys ≡ Some x → Passes p ys x) → Passes p (y ∷ ys) x
    go true e g rest = let same : y ≡ x = cc in record { place = 0; stands = ap Some same; passes = subst (λ (z : A). p z ≡ true) same e }
    go false e g rest = let r = rest g in record { place = suc r.place; stands = r.stands; passes = r.passes }

pub some_found : {A : Type 0} (p : A → Bool) (xs : List A) → list_any p xs ≡ true → (x : A) × (find p xs ≡ Some x)
some_found {A} p [] h = absurd (cc)
some_found {A} p (y ∷ ys) h = go (p y) h (λ g. some_found p ys g)
  where
    go : (a : Bool) → (a || list_any p ys) ≡ true → (list_any p ys ≡ true → (x : A) × (find p ys ≡ Some x)) → (x : A) × (cond a (Some y) (find p ys) ≡ Some x)
    go true g rest = (y, refl)
    go false g rest = rest g

-- where none passes, none does at a place
pub none_passes : {A : Type 0} (p : A → Bool) (xs : List A) (i : ℕ) (x : A) → list_any p xs ≡ false → slice_get xs i ≡ Some x → p x ≡ false
none_passes {A} p [] i x h at = absurd (cc)
none_passes {A} p (y ∷ ys) zero x h at = let same : y ≡ x = cc in subst (λ (z : A). p z ≡ false) same (or_parts (p y) (list_any p ys) h).0
none_passes {A} p (y ∷ ys) (suc i) x h at = none_passes p ys i x (or_parts (p y) (list_any p ys) h).1 at

pub some_count : {A : Type 0} (p : A → Bool) (xs : List A) (i : ℕ) (x : A) → slice_get xs i ≡ Some x → p x ≡ true → 1 ≤ count_by p xs
some_count {A} p [] i x at h = absurd (cc)
some_count {A} p (y ∷ ys) zero x at h =
    let same : x ≡ y = cc in
    let one : cond {A = ℕ} (p y) 1 0 ≡ 1 = ap (λ (a : Bool). cond {A = ℕ} a 1 0) (subst (λ (z : A). p z ≡ true) same h) in
    let step = count_cons p y ys in
    omega arith
some_count {A} p (y ∷ ys) (suc i) x at h = let rest = some_count p ys i x at h in let step = count_cons p y ys in omega arith

-- the only one that passes is found
pub lone_found : {A : Type 0} (p : A → Bool) (xs : List A) (i : ℕ) (x : A) → count_by p xs ≤ 1 → slice_get xs i ≡ Some x → p x ≡ true → find p xs ≡ Some x
lone_found {A} p [] i x few at h = absurd (cc)
lone_found {A} p (y ∷ ys) zero x few at h =
    let same : x ≡ y = cc in
    ap (λ (a : Bool). cond a (Some y) (find p ys)) (subst (λ (z : A). p z ≡ true) same h) ∙ ap Some (sym same)
lone_found {A} p (y ∷ ys) (suc i) x few at h =
    go (p y) refl (count_cons p y ys) (some_count p ys i x at h) (λ g. lone_found p ys i x g at h)
  where
    go : (a : Bool) → p y ≡ a → count_by p (y ∷ ys) ≡ cond a 1 0 + count_by p ys → 1 ≤ count_by p ys → (count_by p ys ≤ 1 → find p ys ≡ Some x) → cond a (Some y) (find p ys) ≡ Some x
    go true e step some rest = absurd (omega arith)
    go false e step some rest = rest (omega arith)

-- ---- what is left of a list

pub head_at : {A : Type 0} (xs : List A) (i : ℕ) → slice_get xs i ≡ slice_get (drop i xs) 0
head_at [] zero = refl
head_at [] (suc i) = refl
head_at (x ∷ xs) zero = refl
head_at (x ∷ xs) (suc i) = head_at xs i

drop_suc : {A : Type 0} (xs : List A) (i : ℕ) → drop (suc i) xs ≡ drop 1 (drop i xs)
drop_suc [] zero = refl
drop_suc [] (suc i) = refl
drop_suc (x ∷ xs) zero = refl
drop_suc (x ∷ xs) (suc i) = drop_suc xs i

pub left_next : {A : Type 0} (xs ys : List A) (i : ℕ) (y : A) → drop i xs ≡ y ∷ ys → drop (i + 1) xs ≡ ys
left_next xs ys i y e = ap (λ (n : ℕ). drop n xs) (let n : i + 1 ≡ suc i = omega arith in n) ∙ (drop_suc xs i ∙ ap (drop 1) e)
