-- What stands among open requests behind a change of their list.
use Rattle.std.proofs.Common.{◌≡◌, ◌⊎◌, inl, inr, Bool, true, false, cond, Some, List, [], ◌∷◌, refl, sym, ap, subst, ◌∙◌, Contains}
use Rattle.std.specs.BTreeMap.{is_at, insert_entry}
use Rattle.std.specs.Map.{set_value, remove_entry}
use Rattle.std.specs.Ordering.{nat_cmp, is_eq}
use Rattle.std.specs.declared.cmp.Ordering.{Ordering}
use Rattle.std.specs.declared.cmp.Ordering.TheVariants.{Less, Equal, Greater}
use Rattle.std.proofs.lemmas.Map.Lookups.{exact_unsigned}
use Rattle.std.proofs.lemmas.Map.Views.{Contains-from_lookup}
use Rattle.cs_base.specs.declared.ids.ReqId.{ReqId}
use Rattle.cs_base.specs.Requests.{request_cmp}
use Rattle.cs_base.proofs.Entries.{from_insert_entry}
use Rattle.cs_base.proofs.Members.{contains_cases, contains_here, contains_there}
use Rattle.changes.proofs.Orderings.{then_equal}
use Rattle.changes.proofs.Ranks.{request_made}
use Rattle.node_steps.specs.Effects.{open_at, after_move}

pub request_exact : (a b : ReqId) → request_cmp a b ≡ Equal → a ≡ b
request_exact a b e = let both = then_equal (nat_cmp a.node b.node) _ e in request_made (exact_unsigned a.node b.node both.0) (exact_unsigned a.time b.time both.1)

equal_at : (o : Ordering) → is_eq o ≡ true → o ≡ Equal
equal_at Less p = cc
equal_at Equal p = refl
equal_at Greater p = cc

pub at_request : (a b : ReqId) → is_at (request_cmp a) b ≡ true → a ≡ b
at_request a b t = request_exact a b (equal_at (request_cmp a b) t)

pub open_in : {A : Type 0} (xs : List (ReqId × A)) (id : ReqId) (a : A) → open_at xs id ≡ Some a → Contains xs (id, a)
open_in {A} xs id a h = Contains-from_lookup {eq = λ x y. is_at (request_cmp x) y} at_request id a xs h

in_set_cases : {A : Type 0} (b : Bool) (id : ReqId) (e : ReqId × A) (xs rest : List (ReqId × A)) (a : A) (x : ReqId × A) → is_at (request_cmp id) e.0 ≡ b → (Contains rest x → Contains xs x ⊎ ((x.0 ≡ id) × (x.1 ≡ a)))
    → Contains (cond b ((e.0, a) ∷ xs) (e ∷ rest)) x → Contains (e ∷ xs) x ⊎ ((x.0 ≡ id) × (x.1 ≡ a))
in_set_cases {A} true id e xs rest a x test more h = elim (contains_cases (e.0, a) xs x h) [
  | inl here ↦ inr (ap (λ (y : ReqId × A). y.0) (sym here) ∙ sym (at_request id e.0 test), ap (λ (y : ReqId × A). y.1) (sym here))
  | inr there ↦ inl (contains_there e xs x there)
]
in_set_cases {A} false id e xs rest a x test more h = elim (contains_cases e rest x h) [
  | inl here ↦ inl (subst (λ (y : ReqId × A). Contains (e ∷ xs) y) here (contains_here e xs))
  | inr there ↦ elim (more there) [ inl old ↦ inl (contains_there e xs x old) | inr new ↦ inr new ]
]

-- a request that is set is the new one
pub in_set : {A : Type 0} (id : ReqId) (xs : List (ReqId × A)) (a : A) (x : ReqId × A) → Contains (set_value (is_at (request_cmp id)) xs a) x → Contains xs x ⊎ ((x.0 ≡ id) × (x.1 ≡ a))
in_set {A} id [] a x h = inl h
in_set {A} id (e ∷ xs) a x h = in_set_cases (is_at (request_cmp id) e.0) id e xs (set_value (is_at (request_cmp id)) xs a) a x refl (in_set id xs a x) h

in_left_cases : {A : Type 0} (b : Bool) (e : ReqId × A) (xs rest : List (ReqId × A)) (x : ReqId × A) → (Contains rest x → Contains xs x) → Contains (cond b xs (e ∷ rest)) x → Contains (e ∷ xs) x
in_left_cases {A} true e xs rest x more h = contains_there e xs x h
in_left_cases {A} false e xs rest x more h = elim (contains_cases e rest x h) [
  | inl here ↦ subst (λ (y : ReqId × A). Contains (e ∷ xs) y) here (contains_here e xs)
  | inr there ↦ contains_there e xs x (more there)
]

-- what is left was there
pub in_left : {A : Type 0} (test : ReqId → Bool) (xs : List (ReqId × A)) (x : ReqId × A) → Contains (remove_entry test xs) x → Contains xs x
in_left {A} test [] x h = h
in_left {A} test (e ∷ xs) x h = in_left_cases (test e.0) e xs (remove_entry test xs) x (in_left test xs x) h

pub in_moved : {A : Type 0} (ended : Bool) (id : ReqId) (xs : List (ReqId × A)) (a : A) (x : ReqId × A) → Contains (after_move ended id a xs) x → Contains xs x ⊎ ((x.0 ≡ id) × (x.1 ≡ a))
in_moved {A} true id xs a x h = inl (in_left (is_at (request_cmp id)) xs x h)
in_moved {A} false id xs a x h = in_set id xs a x h

pub in_inserted : {A : Type 0} (xs : List (ReqId × A)) (id : ReqId) (a : A) (x : ReqId × A) → Contains (insert_entry request_cmp xs id a) x → (x ≡ (id, a)) ⊎ Contains xs x
in_inserted {A} xs id a x h = from_insert_entry request_cmp request_exact xs id a x h
