-- Sums over lists that change at one place, and functions that change at a number or a range.
use Rattle.std.proofs.Common.{◌≡◌, ℕ, zero, suc, ◌+◌, ◌<◌, ◌≤◌, ◌≢◌, eqb, cond, List, [], ◌∷◌, ◌++◌, length, set, sym, refl, ap, ◌∙◌, arith, eq-eqb, ne_eqb, ltb, lt-ltb, le-ltb, ◌⊎◌, inl, inr, ⊎_elim}
use mathlib.Core.Option.{some, some-injective, some-ne-none}
use mathlib.Core.Logic.{dite}
use native.Mathlib.Decide.{dec_le}
use lib.ListN.{get_elem?}
use Rattle.node_lock.specs.Rules.{total}

module _ {A : Type 0} (g : A → ℕ) where
  pub total-append : (l m : List A) → total g (l ++ m) ≡ total g l + total g m
  total-append [] m = omega arith
  total-append (x ∷ xs) m = omega (arith, total-append xs m)

  pub total-set : (l : List A) (j : ℕ) (v w : A) → get_elem? l j ≡ some v → total g (set l j w) + g v ≡ total g l + g w
  total-set [] j v w e = absurd (some-ne-none v (sym e))
  total-set (x ∷ xs) zero v w e = omega (arith, ap g (some-injective x v e))
  total-set (x ∷ xs) (suc j) v w e = omega (arith, total-set xs j v w e)

  pub term_le : (l : List A) (j : ℕ) (v : A) → get_elem? l j ≡ some v → g v ≤ total g l
  term_le [] j v e = absurd (some-ne-none v (sym e))
  term_le (x ∷ xs) zero v e = omega (arith, ap g (some-injective x v e))
  term_le (x ∷ xs) (suc j) v e = omega (arith, term_le xs j v e)

  pub terms_le : (l : List A) (j k : ℕ) (v u : A) → k ≢ j → get_elem? l j ≡ some v → get_elem? l k ≡ some u → g v + g u ≤ total g l
  terms_le [] j k v u n e d = absurd (some-ne-none v (sym e))
  terms_le (x ∷ xs) zero zero v u n e d = absurd (n refl)
  terms_le (x ∷ xs) zero (suc k) v u n e d = omega (arith, ap g (some-injective x v e), term_le xs k u d)
  terms_le (x ∷ xs) (suc j) zero v u n e d = omega (arith, ap g (some-injective x u d), term_le xs j v e)
  terms_le (x ∷ xs) (suc j) (suc k) v u n e d = omega (arith, terms_le xs j k v u (λ h. n (ap suc h)) e d)

module _ {A : Type 0} where
  pub total_le : (f g : A → ℕ) (l : List A) → ((j : ℕ) (v : A) → get_elem? l j ≡ some v → f v ≤ g v) → total f l ≤ total g l
  total_le f g [] h = omega arith
  total_le f g (x ∷ xs) h = omega (arith, h zero x refl, total_le f g xs (λ j v e. h (suc j) v e))

  pub total_none : (f : A → ℕ) (l : List A) → ((j : ℕ) (v : A) → get_elem? l j ≡ some v → f v ≡ 0) → total f l ≡ 0
  total_none f [] h = refl
  total_none f (x ∷ xs) h = omega (arith, h zero x refl, total_none f xs (λ j v e. h (suc j) v e))

  pub at_end : (l : List A) (a b : A) (j : ℕ) → get_elem? (l ++ a ∷ []) j ≡ some b → (get_elem? l j ≡ some b) ⊎ ((j ≡ length l) × (a ≡ b))
  at_end [] a b zero e = inr (refl, some-injective a b e)
  at_end [] a b (suc j) e = absurd (some-ne-none b (sym e))
  at_end (x ∷ xs) a b zero e = inl e
  at_end (x ∷ xs) a b (suc j) e = ⊎_elim (λ (t : get_elem? xs j ≡ some b). inl t) (λ (t : (j ≡ length xs) × (a ≡ b)). inr (ap suc t.0, t.1)) (at_end xs a b j e)

  pub at_below : (l : List A) (j : ℕ) (v : A) → get_elem? l j ≡ some v → j < length l
  at_below [] j v e = absurd (some-ne-none v (sym e))
  at_below (x ∷ xs) zero v e = omega arith
  at_below (x ∷ xs) (suc j) v e = omega (arith, at_below xs j v e)

  pub at_any : (l : List A) (j : ℕ) → j < length l → (v : A) × (get_elem? l j ≡ some v)
  at_any [] j h = absurd (omega arith)
  at_any (x ∷ xs) zero h = (x, refl)
  at_any (x ∷ xs) (suc j) h = at_any xs j (omega arith)

abbrev pub update : (ℕ → ℕ) → ℕ → ℕ → ℕ → ℕ
update f a b n = cond (eqb n a) b (f n)

pub update_same : (f : ℕ → ℕ) (a b : ℕ) → update f a b a ≡ b
update_same f a b = ap (λ c. cond c b (f a)) (eq-eqb a a refl)

pub update_else : (f : ℕ → ℕ) (a b n : ℕ) → n ≢ a → update f a b n ≡ f n
update_else f a b n ne = ap (λ c. cond c b (f n)) (ne_eqb n a ne)

-- the numbers from a on and below b belong to c
abbrev pub handed : (ℕ → ℕ) → ℕ → ℕ → ℕ → ℕ → ℕ
handed f a b c n = cond (ltb n a) (f n) (cond (ltb n b) c (f n))

pub handed_low : (f : ℕ → ℕ) (a b c n : ℕ) → n < a → handed f a b c n ≡ f n
handed_low f a b c n h = ap (λ t. cond t (f n) (cond (ltb n b) c (f n))) (lt-ltb n a h)

pub handed_in : (f : ℕ → ℕ) (a b c n : ℕ) → a ≤ n → n < b → handed f a b c n ≡ c
handed_in f a b c n h l = ap (λ t. cond t (f n) (cond (ltb n b) c (f n))) (le-ltb n a h) ∙ ap (λ t. cond t c (f n)) (lt-ltb n b l)

pub handed_high : (f : ℕ → ℕ) (a b c n : ℕ) → a ≤ n → b ≤ n → handed f a b c n ≡ f n
handed_high f a b c n h l = ap (λ t. cond t (f n) (cond (ltb n b) c (f n))) (le-ltb n a h) ∙ ap (λ t. cond t c (f n)) (le-ltb n b l)

pub handed_cases : (f : ℕ → ℕ) (a b c n : ℕ) → ((a ≤ n) × (n < b) × (handed f a b c n ≡ c)) ⊎ (((a ≤ n → b ≤ n) × (handed f a b c n ≡ f n)))
handed_cases f a b c n = dite (dec_le a n) (λ le. dite (dec_le b n) (λ high. inr ((λ _. high), handed_high f a b c n le high)) (λ low. inl (le, omega arith, handed_in f a b c n le (omega arith))))
    (λ nle. inr ((λ le. absurd (nle le)), handed_low f a b c n (omega arith)))
