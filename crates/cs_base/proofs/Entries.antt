-- Keys and entries of maps in order, where keys that compare alike are one.
use Rattle.std.proofs.Common.{◌≡◌, ◌⊎◌, ◌↔◌, inl, inr, List, [], ◌∷◌, refl, sym, ◌∙◌, ap, subst, Contains}
use Rattle.std.specs.Ordering.{match_ordering}
use Rattle.std.specs.declared.cmp.Ordering.{Ordering}
use Rattle.std.specs.declared.cmp.Ordering.TheVariants.{Less, Equal, Greater}
use Rattle.std.specs.BTreeSet.{insert_key}
use Rattle.std.specs.BTreeMap.{insert_entry}
use Rattle.cs_base.proofs.Members.{contains_nil, contains_here, contains_there, contains_one, contains_cases}

key_cases : {K : Type 0} (o : Ordering) (k x y : K) (xs more : List K) → (o ≡ Equal → k ≡ x) → (Contains more y → (y ≡ k) ⊎ Contains xs y) → Contains (match_ordering o (k ∷ x ∷ xs) (x ∷ xs) (x ∷ more)) y → (y ≡ k) ⊎ Contains (x ∷ xs) y
key_cases Less k x y xs more e rest h = elim (contains_cases k (x ∷ xs) y h) [ inl same ↦ inl (sym same) | inr old ↦ inr old ]
key_cases Equal k x y xs more e rest h = inr h
key_cases {K} Greater k x y xs more e rest h =
    elim (contains_cases x more y h) [
      | inl same ↦ inr (subst (λ (v : K). Contains (x ∷ xs) v) same (contains_here x xs))
      | inr later ↦ elim (rest later) [ inl same ↦ inl same | inr old ↦ inr (contains_there x xs y old) ]
    ]

key_kept : {K : Type 0} (o : Ordering) (k x y : K) (xs more : List K) → (o ≡ Equal → k ≡ x) → ((y ≡ k) ⊎ Contains xs y → Contains more y) → (y ≡ k) ⊎ Contains (x ∷ xs) y → Contains (match_ordering o (k ∷ x ∷ xs) (x ∷ xs) (x ∷ more)) y
key_kept {K} Less k x y xs more e rest (inl same) = subst (λ (v : K). Contains (k ∷ x ∷ xs) v) (sym same) (contains_here k (x ∷ xs))
key_kept Less k x y xs more e rest (inr old) = contains_there k (x ∷ xs) y old
key_kept {K} Equal k x y xs more e rest (inl same) = subst (λ (v : K). Contains (x ∷ xs) v) (sym (same ∙ e refl)) (contains_here x xs)
key_kept Equal k x y xs more e rest (inr old) = old
key_kept Greater k x y xs more e rest (inl same) = contains_there x more y (rest (inl same))
key_kept {K} Greater k x y xs more e rest (inr old) =
    elim (contains_cases x xs y old) [
      | inl same ↦ subst (λ (v : K). Contains (x ∷ more) v) same (contains_here x more)
      | inr later ↦ contains_there x more y (rest (inr later))
    ]

pub contains_insert_key : {K : Type 0} (cmp : K → K → Ordering) → ((a b : K) → cmp a b ≡ Equal → a ≡ b) → (ks : List K) (k y : K) → Contains (insert_key cmp ks k) y ↔ ((y ≡ k) ⊎ Contains ks y)
contains_insert_key {K} cmp exact [] k y = (
  λ h. inl (sym (contains_one k y h)),
  λ h. elim h [ inl same ↦ subst (λ (v : K). Contains (k ∷ []) v) (sym same) (contains_here k []) | inr none ↦ absurd (contains_nil y none) ],
)
contains_insert_key cmp exact (x ∷ xs) k y =
    let rest = contains_insert_key cmp exact xs k y in
    (λ h. key_cases (cmp k x) k x y xs (insert_key cmp xs k) (exact k x) rest.0 h, λ h. key_kept (cmp k x) k x y xs (insert_key cmp xs k) (exact k x) rest.1 h)

entry_cases : {K V : Type 0} (o : Ordering) (k : K) (v : V) (e y : K × V) (es more : List (K × V)) → (o ≡ Equal → k ≡ e.0) → (Contains more y → (y ≡ (k, v)) ⊎ Contains es y) → Contains (match_ordering o ((k, v) ∷ e ∷ es) ((e.0, v) ∷ es) (e ∷ more)) y → (y ≡ (k, v)) ⊎ Contains (e ∷ es) y
entry_cases {K} {V} Less k v e y es more same rest h = elim (contains_cases {X = K × V} (k, v) (e ∷ es) y h) [ inl new ↦ inl (sym new) | inr old ↦ inr old ]
entry_cases {K} {V} Equal k v e y es more same rest h =
    elim (contains_cases {X = K × V} (e.0, v) es y h) [
      | inl new ↦ inl (sym new ∙ ap (λ (q : K). let p : K × V = (q, v) in p) (sym (same refl)))
      | inr old ↦ inr (contains_there e es y old)
    ]
entry_cases {K} {V} Greater k v e y es more same rest h =
    elim (contains_cases e more y h) [
      | inl here ↦ inr (subst (λ (w : K × V). Contains (e ∷ es) w) here (contains_here e es))
      | inr later ↦ elim (rest later) [ inl new ↦ inl new | inr old ↦ inr (contains_there e es y old) ]
    ]

-- what is there after an insertion is the new entry, or was there
pub from_insert_entry : {K V : Type 0} (cmp : K → K → Ordering) → ((a b : K) → cmp a b ≡ Equal → a ≡ b) → (es : List (K × V)) (k : K) (v : V) (y : K × V) → Contains (insert_entry cmp es k v) y → (y ≡ (k, v)) ⊎ Contains es y
from_insert_entry {K} {V} cmp exact [] k v y h = inl (sym (contains_one {X = K × V} (k, v) y h))
from_insert_entry cmp exact (e ∷ es) k v y h =
    entry_cases (cmp k e.0) k v e y es (insert_entry cmp es k v) (exact k e.0) (λ later. from_insert_entry cmp exact es k v y later) h

entry_new : {K V : Type 0} (o : Ordering) (k : K) (v : V) (e : K × V) (es more : List (K × V)) → (o ≡ Equal → k ≡ e.0) → Contains more (k, v) → Contains (match_ordering o ((k, v) ∷ e ∷ es) ((e.0, v) ∷ es) (e ∷ more)) (k, v)
entry_new {K} {V} Less k v e es more same rest = contains_here {X = K × V} (k, v) (e ∷ es)
entry_new {K} {V} Equal k v e es more same rest =
    subst (λ (q : K). Contains {X = K × V} ((e.0, v) ∷ es) (q, v)) (sym (same refl)) (contains_here {X = K × V} (e.0, v) es)
entry_new {K} {V} Greater k v e es more same rest = contains_there {X = K × V} e more (k, v) rest

pub new_entry : {K V : Type 0} (cmp : K → K → Ordering) → ((a b : K) → cmp a b ≡ Equal → a ≡ b) → (es : List (K × V)) (k : K) (v : V) → Contains (insert_entry cmp es k v) (k, v)
new_entry {K} {V} cmp exact [] k v = contains_here {X = K × V} (k, v) []
new_entry cmp exact (e ∷ es) k v = entry_new (cmp k e.0) k v e es (insert_entry cmp es k v) (exact k e.0) (new_entry cmp exact es k v)

entry_kept : {K V : Type 0} (o : Ordering) (k : K) (v : V) (e y : K × V) (es more : List (K × V)) → (o ≡ Equal → k ≡ e.0) → (y.0 ≡ k → y.1 ≡ v) → (Contains es y → Contains more y) → Contains (e ∷ es) y → Contains (match_ordering o ((k, v) ∷ e ∷ es) ((e.0, v) ∷ es) (e ∷ more)) y
entry_kept {K} {V} Less k v e y es more same single rest h = contains_there {X = K × V} (k, v) (e ∷ es) y h
entry_kept {K} {V} Equal k v e y es more same single rest h =
    elim (contains_cases e es y h) [
      | inl here ↦
          let value : e.1 ≡ v = ap (λ (p : K × V). p.1) here ∙ single (ap (λ (p : K × V). p.0) (sym here) ∙ sym (same refl)) in
          let made : y ≡ (e.0, v) = sym here ∙ ap (λ (w : V). let p : K × V = (e.0, w) in p) value in
          subst (λ (w : K × V). Contains {X = K × V} ((e.0, v) ∷ es) w) (sym made) (contains_here {X = K × V} (e.0, v) es)
      | inr later ↦ contains_there {X = K × V} (e.0, v) es y later
    ]
entry_kept {K} {V} Greater k v e y es more same single rest h =
    elim (contains_cases e es y h) [
      | inl here ↦ subst (λ (w : K × V). Contains (e ∷ more) w) here (contains_here e more)
      | inr later ↦ contains_there e more y (rest later)
    ]

-- an entry stays, where it isn't another one at the key
pub kept_entry : {K V : Type 0} (cmp : K → K → Ordering) → ((a b : K) → cmp a b ≡ Equal → a ≡ b) → (es : List (K × V)) (k : K) (v : V) (y : K × V) → (y.0 ≡ k → y.1 ≡ v) → Contains es y → Contains (insert_entry cmp es k v) y
kept_entry cmp exact [] k v y single h = absurd (contains_nil y h)
kept_entry cmp exact (e ∷ es) k v y single h =
    entry_kept (cmp k e.0) k v e y es (insert_entry cmp es k v) (exact k e.0) single (λ later. kept_entry cmp exact es k v y single later) h
