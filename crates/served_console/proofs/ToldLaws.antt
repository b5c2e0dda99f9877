-- What comes of one call more.
use Rattle.std.proofs.Common.{◌≡◌, ℕ, Bool, true, false, ◌||◌, List, [], ◌∷◌, ◌++◌, Option, Some, None, refl, ◌∙◌, ap}
use Rattle.node_workers.specs.Calls.{Outcome, has_failed}
use Rattle.served_console.specs.Answers.{refusal_in, tables_in, refusal_or, any_failed, first_refusal, last_tables, told_of, and_told}
use Rattle.served_console.specs.declared.answer.Refusal.{Refusal}
use Rattle.served_console.specs.declared.told.Told.{Told}

failed_or : (a b c : Bool) → (a || (b || c)) ≡ ((a || b) || c)
failed_or true b c = refl
failed_or false b c = refl

or_false : (a : Bool) → (a || false) ≡ a
or_false true = refl
or_false false = refl

failed_more : (os : List Outcome) (o : Outcome) → any_failed (os ++ o ∷ []) ≡ (any_failed os || has_failed o)
failed_more [] o = or_false (has_failed o)
failed_more (p ∷ os) o = ap (λ (b : Bool). has_failed p || b) (failed_more os o) ∙ failed_or (has_failed p) (any_failed os) (has_failed o)

refusal_then : (a b c : Option Refusal) → refusal_or a (refusal_or b c) ≡ refusal_or (refusal_or a b) c
refusal_then None b c = refl
refusal_then (Some r) b c = refl

or_none : (a : Option Refusal) → refusal_or a None ≡ a
or_none None = refl
or_none (Some r) = refl

refusal_more : (os : List Outcome) (o : Outcome) → first_refusal (os ++ o ∷ []) ≡ refusal_or (first_refusal os) (refusal_in o)
refusal_more [] o = or_none (refusal_in o)
refusal_more (p ∷ os) o = ap (λ (r : Option Refusal). refusal_or (refusal_in p) r) (refusal_more os o) ∙ refusal_then (refusal_in p) (first_refusal os) (refusal_in o)

tables_more : (n : ℕ) (os : List Outcome) (o : Outcome) → last_tables n (os ++ o ∷ []) ≡ tables_in o
tables_more n [] o = refl
tables_more n (p ∷ os) o = tables_more (tables_in p) os o

one_told : (a b : Bool) (r s : Option Refusal) (m n : ℕ) → a ≡ b → r ≡ s → m ≡ n → let t : Told = record { failed = a; refused = r; tables = m } in t ≡ record { failed = b; refused = s; tables = n }
one_told a b r s m n p q e = cc

-- what calls tell, and then one more
pub told_more : (os : List Outcome) (o : Outcome) → told_of (os ++ o ∷ []) ≡ and_told (told_of os) o
told_more os o =
    one_told (any_failed (os ++ o ∷ [])) (any_failed os || has_failed o) (first_refusal (os ++ o ∷ [])) (refusal_or (first_refusal os) (refusal_in o)) (last_tables 0 (os ++ o ∷ [])) (tables_in o)
    (failed_more os o) (refusal_more os o) (tables_more 0 os o)
