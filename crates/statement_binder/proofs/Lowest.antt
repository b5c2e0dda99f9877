-- The lowest of refusals.
use Rattle.std.proofs.Common.{◌≡◌, ◌⊎◌, ◌≤◌, ℕ, inl, inr, Bool, true, false, cond, ltb, leb, ◌&&◌, List, [], ◌∷◌, ◌++◌, Option, Some, None, refl, subst, arith}
use Rattle.std.proofs.lemmas.Bool.{false≢true, leb-true, ltb-true, ltb-false}
use Rattle.statement_plan.specs.declared.fault.Fault.{Fault}
use Rattle.statement_plan.specs.Faults.{lower, number_of}
use Rattle.statement_binder.specs.Refusals.{IsLowest, Holds, Refusal, refused_if}

-- all of them have at least this number
abbrev pub AtLeast : ℕ → List Refusal → Type 0
AtLeast n rs = (g : Fault) → Holds rs g → n ≤ number_of g

-- all of them have at most this number
abbrev pub AtMost : ℕ → List Refusal → Type 0
AtMost n rs = (g : Fault) → Holds rs g → number_of g ≤ n

-- ---- numbers of refusals that are written out

abbrev pub all_least : ℕ → List Refusal → Bool
all_least n [] = true
all_least n (r ∷ rs) = leb n (number_of r.fault) && all_least n rs

abbrev pub all_most : ℕ → List Refusal → Bool
all_most n [] = true
all_most n (r ∷ rs) = leb (number_of r.fault) n && all_most n rs

both_left : (a b : Bool) → (a && b) ≡ true → a ≡ true
both_left true b e = refl
both_left false b e = e

both_right : (a b : Bool) → (a && b) ≡ true → b ≡ true
both_right true b e = e
both_right false b e = absurd (false≢true e)

pub at_least : (n : ℕ) (rs : List Refusal) → all_least n rs ≡ true → AtLeast n rs
at_least n [] e g h = absurd h
at_least n (r ∷ rs) e g (inl h) =
    subst (λ (x : Fault). n ≤ number_of x) h.0 (leb-true n (number_of r.fault) (both_left (leb n (number_of r.fault)) (all_least n rs) e))
at_least n (r ∷ rs) e g (inr h) = at_least n rs (both_right (leb n (number_of r.fault)) (all_least n rs) e) g h

pub at_most : (n : ℕ) (rs : List Refusal) → all_most n rs ≡ true → AtMost n rs
at_most n [] e g h = absurd h
at_most n (r ∷ rs) e g (inl h) =
    subst (λ (x : Fault). number_of x ≤ n) h.0 (leb-true (number_of r.fault) n (both_left (leb (number_of r.fault) n) (all_most n rs) e))
at_most n (r ∷ rs) e g (inr h) = at_most n rs (both_right (leb (number_of r.fault) n) (all_most n rs) e) g h

pub lowest_like : (P Q : Fault → Type 0) → ((f : Fault) → P f → Q f) → ((f : Fault) → Q f → P f) → (o : Option Fault) → IsLowest P o → IsLowest Q o
lowest_like P Q there back None low = λ g h. low g (back g h)
lowest_like P Q there back (Some f) low = (there f low.0, λ g h. low.1 g (back g h))

-- ---- one test in front of others

not_held : (f g : Fault) → (f ≡ g) × (false ≡ true) → ⊥
not_held f g h = false≢true h.1

same_number : (f g : Fault) → (f ≡ g) × (true ≡ true) → number_of f ≤ number_of g
same_number f g h = subst (λ (x : Fault). number_of f ≤ number_of x) h.0 (omega arith)

pub lowest_if : (b : Bool) (f : Fault) (rs : List Refusal) (o : Option Fault) → AtLeast (number_of f) rs → IsLowest (Holds rs) o → IsLowest (Holds (refused_if f b ∷ rs)) (cond b (Some f) o)
lowest_if true f rs o above low = (inl (refl, refl), λ g h. elim h [ inl p ↦ same_number f g p | inr q ↦ above g q ])
lowest_if false f rs None above low = λ g h. elim h [ inl p ↦ not_held f g p | inr q ↦ low g q ]
lowest_if false f rs (Some x) above low = (inr low.0, λ g h. elim h [ inl p ↦ absurd (not_held f g p) | inr q ↦ low.1 g q ])

pub lowest_none : IsLowest (Holds []) None
lowest_none = λ g h. h

-- ---- two lots of refusals

abbrev Either : (Fault → Type 0) → (Fault → Type 0) → Fault → Type 0
Either P Q f = P f ⊎ Q f

lower_by : (P Q : Fault → Type 0) (x y : Fault) → IsLowest P (Some x) → IsLowest Q (Some y) → (b : Bool) → ltb (number_of y) (number_of x) ≡ b → IsLowest (Either P Q) (Some (cond b y x))
lower_by P Q x y p q true e =
    let less = ltb-true (number_of y) (number_of x) e in
    (inr q.0, λ g h. elim h [ inl k ↦ (let low = p.1 g k in omega (arith, less, low)) | inr k ↦ q.1 g k ])
lower_by P Q x y p q false e =
    let most = ltb-false (number_of y) (number_of x) e in
    (inl p.0, λ g h. elim h [ inl k ↦ p.1 g k | inr k ↦ (let low = q.1 g k in omega (arith, most, low)) ])

pub lowest_or : (P Q : Fault → Type 0) (a b : Option Fault) → IsLowest P a → IsLowest Q b → IsLowest (Either P Q) (lower a b)
lowest_or P Q None None p q = λ g h. elim h [ inl k ↦ p g k | inr k ↦ q g k ]
lowest_or P Q None (Some y) p q = (inr q.0, λ g h. elim h [ inl k ↦ absurd (p g k) | inr k ↦ q.1 g k ])
lowest_or P Q (Some x) None p q = (inl p.0, λ g h. elim h [ inl k ↦ p.1 g k | inr k ↦ absurd (q g k) ])
lowest_or P Q (Some x) (Some y) p q = lower_by P Q x y p q (ltb (number_of y) (number_of x)) refl

pub holds_append : (rs ss : List Refusal) (f : Fault) → Holds rs f ⊎ Holds ss f → Holds (rs ++ ss) f
holds_append [] ss f (inl h) = absurd h
holds_append [] ss f (inr h) = h
holds_append (r ∷ rs) ss f (inl (inl h)) = inl h
holds_append (r ∷ rs) ss f (inl (inr h)) = inr (holds_append rs ss f (inl h))
holds_append (r ∷ rs) ss f (inr h) = inr (holds_append rs ss f (inr h))

pub holds_split : (rs ss : List Refusal) (f : Fault) → Holds (rs ++ ss) f → Holds rs f ⊎ Holds ss f
holds_split [] ss f h = inr h
holds_split (r ∷ rs) ss f (inl h) = inl (inl h)
holds_split (r ∷ rs) ss f (inr h) = elim (holds_split rs ss f h) [ inl k ↦ inl (inr k) | inr k ↦ inr k ]

pub lowest_append : (rs ss : List Refusal) (a b : Option Fault) → IsLowest (Holds rs) a → IsLowest (Holds ss) b → IsLowest (Holds (rs ++ ss)) (lower a b)
lowest_append rs ss a b p q =
    lowest_like (Either (Holds rs) (Holds ss)) (Holds (rs ++ ss)) (holds_append rs ss) (holds_split rs ss) (lower a b) (lowest_or (Holds rs) (Holds ss) a b p q)

pub most_append : (n : ℕ) (rs ss : List Refusal) → AtMost n rs → AtMost n ss → AtMost n (rs ++ ss)
most_append n rs ss p q g h = elim (holds_split rs ss g h) [ inl k ↦ p g k | inr k ↦ q g k ]

-- ---- what is told of refusals, as a record, from which the refusals are read off

pub record Tells (rs : List Refusal) (o : Option Fault) : Type 0 where
  pub is : IsLowest (Holds rs) o

pub tells_none : Tells [] None
tells_none = record { is = lowest_none }

-- one more test in front of others
pub tells_if : {rs : List Refusal} {o : Option Fault} (b : Bool) (f : Fault) → all_least (number_of f) rs ≡ true → Tells rs o → Tells (refused_if f b ∷ rs) (cond b (Some f) o)
tells_if {rs} {o} b f e t = record { is = lowest_if b f rs o (at_least (number_of f) rs e) t.is }

-- the lower of two
pub tells_both : {rs ss : List Refusal} {a b : Option Fault} → Tells rs a → Tells ss b → Tells (rs ++ ss) (lower a b)
tells_both {rs} {ss} {a} {b} t u = record { is = lowest_append rs ss a b t.is u.is }

pub tells_at : {rs : List Refusal} {o p : Option Fault} → o ≡ p → Tells rs o → Tells rs p
tells_at {rs} {o} {p} e t = record { is = subst (λ (x : Option Fault). IsLowest (Holds rs) x) e t.is }

pub tells_of : {rs ss : List Refusal} {o : Option Fault} → rs ≡ ss → Tells rs o → Tells ss o
tells_of {rs} {ss} {o} e t = record { is = subst (λ (l : List Refusal). IsLowest (Holds l) o) e t.is }
