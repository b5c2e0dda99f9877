-- Open requests by id, behind a change of their list; whatever the list's order, no id stands in it twice.
use Rattle.std.proofs.Common.{◌≡◌, ◌≢◌, inl, inr, ◌⊎◌, Bool, true, false, cond, Option, Some, None, List, [], ◌∷◌, refl, sym, ap, subst, ◌∙◌, Contains}
use Rattle.std.specs.Map.{set_value, remove_entry, keys_of}
use Rattle.std.specs.BTreeMap.{is_at, insert_entry}
use Rattle.std.specs.Ordering.{is_eq, match_ordering, nat_cmp}
use Rattle.std.specs.declared.cmp.Ordering.{Ordering}
use Rattle.std.specs.declared.cmp.Ordering.TheVariants.{Less, Equal, Greater}
use Rattle.std.proofs.lemmas.Map.Lookups.{exact_unsigned}
use Rattle.std.proofs.lemmas.Cmp.{nat_cmp_total, on_total, then_total, tied_itself}
use Rattle.std.specs.Cmp.{IsTotalOrder}
use Rattle.changes.proofs.Orderings.{then_equal}
use Rattle.changes.proofs.Ranks.{request_made}
use Rattle.cs_base.proofs.Members.{contains_nil, contains_cases, contains_here, contains_there}
use Rattle.cs_base.specs.declared.ids.ReqId.{ReqId}
use Rattle.cs_base.specs.Requests.{request_cmp}
use Rattle.node_steps.specs.Effects.{open_at}

-- ---- ids

request_total : IsTotalOrder request_cmp
request_total = then_total (on_total (λ (r : ReqId). r.node) nat_cmp_total) (on_total (λ (r : ReqId). r.time) nat_cmp_total)

pub at_same : (id : ReqId) → is_at (request_cmp id) id ≡ true
at_same id = ap is_eq (tied_itself request_total id)

eq_equal : (o : Ordering) → is_eq o ≡ true → o ≡ Equal
eq_equal Less h = cc
eq_equal Equal h = refl
eq_equal Greater h = cc

pub at_true : (id k : ReqId) → is_at (request_cmp id) k ≡ true → k ≡ id
at_true id k h =
    let both = then_equal (nat_cmp id.node k.node) (nat_cmp id.time k.time) (eq_equal (request_cmp id k) h) in
    sym (request_made (exact_unsigned id.node k.node both.0) (exact_unsigned id.time k.time both.1))

not_true : (b : Bool) → (b ≡ true → ⊥) → b ≡ false
not_true true h = absurd (h refl)
not_true false h = refl

pub at_other : (id k : ReqId) → k ≢ id → is_at (request_cmp id) k ≡ false
at_other id k other = not_true (is_at (request_cmp id) k) (λ t. other (at_true id k t))

pub same_or_other : (id k : ReqId) → (k ≡ id) ⊎ (k ≢ id)
same_or_other id k = by_test (is_at (request_cmp id) k) refl
  where
    by_test : (b : Bool) → is_at (request_cmp id) k ≡ b → (k ≡ id) ⊎ (k ≢ id)
    by_test true h = inl (at_true id k h)
    by_test false h = inr (λ e. let t : is_at (request_cmp id) k ≡ true = ap (λ (x : ReqId). is_at (request_cmp id) x) e ∙ at_same id in cc)

-- ---- what is found under an id

pub head_other : {A : Type 0} (e : ReqId × A) (es : List (ReqId × A)) (id : ReqId) → e.0 ≢ id → open_at (e ∷ es) id ≡ open_at es id
head_other {A} e es id other = ap (λ (b : Bool). cond b (Some e.1) (open_at es id)) (at_other id e.0 other)

pub head_same : {A : Type 0} (e : ReqId × A) (es : List (ReqId × A)) → open_at (e ∷ es) e.0 ≡ Some e.1
head_same {A} e es = ap (λ (b : Bool). cond b (Some e.1) (open_at es e.0)) (at_same e.0)

some_none : {A : Type 0} (a : A) → Some a ≡ None → ⊥
some_none a e = cc

none_tail : {A : Type 0} (e : ReqId × A) (es : List (ReqId × A)) (id : ReqId) → open_at (e ∷ es) id ≡ None → (e.0 ≢ id) × (open_at es id ≡ None)
none_tail {A} e es id h = elim (same_or_other id e.0) [
  | inl same ↦ absurd (some_none e.1 (sym (subst (λ (k : ReqId). open_at (e ∷ es) k ≡ Some e.1) same (head_same e es)) ∙ h))
  | inr other ↦ (other, sym (head_other e es id other) ∙ h)
]

none_cons : {A : Type 0} (e : ReqId × A) (es : List (ReqId × A)) (id : ReqId) → e.0 ≢ id → open_at es id ≡ None → open_at (e ∷ es) id ≡ None
none_cons {A} e es id other none = head_other e es id other ∙ none

-- the keys are the ids under which something is found
pub key_in : {A : Type 0} (xs : List (ReqId × A)) (id : ReqId) (a : A) → open_at xs id ≡ Some a → Contains (keys_of xs) id
key_in {A} [] id a h = cc
key_in {A} (e ∷ es) id a h = elim (same_or_other id e.0) [
  | inl same ↦ subst (λ (k : ReqId). Contains (keys_of (e ∷ es)) k) same (contains_here e.0 (keys_of es))
  | inr other ↦ contains_there e.0 (keys_of es) id (key_in es id a (sym (head_other e es id other) ∙ h))
]

pub key_back : {A : Type 0} (xs : List (ReqId × A)) (id : ReqId) → Contains (keys_of xs) id → (a : A) × (open_at xs id ≡ Some a)
key_back {A} [] id h = absurd (contains_nil id h)
key_back {A} (e ∷ es) id h = elim (same_or_other id e.0) [
  | inl same ↦ (e.1, subst (λ (k : ReqId). open_at (e ∷ es) k ≡ Some e.1) same (head_same e es))
  | inr other ↦ elim (contains_cases e.0 (keys_of es) id h) [
    | inl here ↦ absurd (other here)
    | inr rest ↦ let found : (a : A) × (open_at es id ≡ Some a) = key_back es id rest in (found.0, head_other e es id other ∙ found.1)
  ]
]

-- no id stands twice
abbrev pub Apart : {A : Type 0} → List (ReqId × A) → Type 0
Apart {A} [] = Unit {0}
Apart {A} (e ∷ es) = (open_at es e.0 ≡ None) × Apart es

-- ---- one is removed

remove_other_head : {A : Type 0} (b : Bool) (id : ReqId) (e : ReqId × A) (es : List (ReqId × A)) (q : ReqId) → is_at (request_cmp id) e.0 ≡ b → q ≢ id → open_at (remove_entry (is_at (request_cmp id)) es) q ≡ open_at es q
    → open_at (cond b es (e ∷ remove_entry (is_at (request_cmp id)) es)) q ≡ open_at (e ∷ es) q
remove_other_head {A} true id e es q at other rest = sym (head_other e es q (λ same. other (sym same ∙ at_true id e.0 at)))
remove_other_head {A} false id e es q at other rest = ap (λ (o : Option A). cond (is_at (request_cmp q) e.0) (Some e.1) o) rest

pub remove_other : {A : Type 0} (xs : List (ReqId × A)) (id q : ReqId) → q ≢ id → open_at (remove_entry (is_at (request_cmp id)) xs) q ≡ open_at xs q
remove_other {A} [] id q other = refl
remove_other {A} (e ∷ es) id q other = remove_other_head (is_at (request_cmp id) e.0) id e es q refl other (remove_other es id q other)

remove_same_head : {A : Type 0} (b : Bool) (id : ReqId) (e : ReqId × A) (es : List (ReqId × A)) → is_at (request_cmp id) e.0 ≡ b → open_at es e.0 ≡ None → open_at (remove_entry (is_at (request_cmp id)) es) id ≡ None
    → open_at (cond b es (e ∷ remove_entry (is_at (request_cmp id)) es)) id ≡ None
remove_same_head {A} true id e es at none rest = subst (λ (k : ReqId). open_at es k ≡ None) (at_true id e.0 at) none
remove_same_head {A} false id e es at none rest = ap (λ (b : Bool). cond b (Some e.1) (open_at (remove_entry (is_at (request_cmp id)) es) id)) at ∙ rest

pub remove_same : {A : Type 0} (xs : List (ReqId × A)) (id : ReqId) → Apart xs → open_at (remove_entry (is_at (request_cmp id)) xs) id ≡ None
remove_same {A} [] id apart = refl
remove_same {A} (e ∷ es) id apart = remove_same_head (is_at (request_cmp id) e.0) id e es refl apart.0 (remove_same es id apart.1)

none_removed : {A : Type 0} (xs : List (ReqId × A)) (id q : ReqId) → Apart xs → open_at xs q ≡ None → open_at (remove_entry (is_at (request_cmp id)) xs) q ≡ None
none_removed {A} xs id q apart none = elim (same_or_other id q) [
  | inl same ↦ subst (λ (k : ReqId). open_at (remove_entry (is_at (request_cmp id)) xs) k ≡ None) (sym same) (remove_same xs id apart)
  | inr other ↦ remove_other xs id q other ∙ none
]

remove_apart_head : {A : Type 0} (b : Bool) (id : ReqId) (e : ReqId × A) (es : List (ReqId × A)) → open_at es e.0 ≡ None → Apart es → Apart (remove_entry (is_at (request_cmp id)) es)
    → Apart (cond b es (e ∷ remove_entry (is_at (request_cmp id)) es))
remove_apart_head {A} true id e es none apart rest = apart
remove_apart_head {A} false id e es none apart rest = (none_removed es id e.0 apart none, rest)

pub remove_apart : {A : Type 0} (xs : List (ReqId × A)) (id : ReqId) → Apart xs → Apart (remove_entry (is_at (request_cmp id)) xs)
remove_apart {A} [] id apart = tt
remove_apart {A} (e ∷ es) id apart = remove_apart_head (is_at (request_cmp id) e.0) id e es apart.0 apart.1 (remove_apart es id apart.1)

-- ---- one is written

set_other_head : {A : Type 0} (b : Bool) (id : ReqId) (e : ReqId × A) (es : List (ReqId × A)) (a : A) (q : ReqId) → is_at (request_cmp id) e.0 ≡ b → q ≢ id → open_at (set_value (is_at (request_cmp id)) es a) q ≡ open_at es q
    → open_at (cond b ((e.0, a) ∷ es) (e ∷ set_value (is_at (request_cmp id)) es a)) q ≡ open_at (e ∷ es) q
set_other_head {A} true id e es a q at other rest =
    let away : e.0 ≢ q = λ same. other (sym same ∙ at_true id e.0 at) in
    head_other (e.0, a) es q away ∙ sym (head_other e es q away)
set_other_head {A} false id e es a q at other rest = ap (λ (o : Option A). cond (is_at (request_cmp q) e.0) (Some e.1) o) rest

pub set_other : {A : Type 0} (xs : List (ReqId × A)) (id : ReqId) (a : A) (q : ReqId) → q ≢ id → open_at (set_value (is_at (request_cmp id)) xs a) q ≡ open_at xs q
set_other {A} [] id a q other = refl
set_other {A} (e ∷ es) id a q other = set_other_head (is_at (request_cmp id) e.0) id e es a q refl other (set_other es id a q other)

set_same_head : {A : Type 0} (b : Bool) (id : ReqId) (e : ReqId × A) (es : List (ReqId × A)) (a : A) → is_at (request_cmp id) e.0 ≡ b → (b ≡ false → open_at (set_value (is_at (request_cmp id)) es a) id ≡ Some a)
    → open_at (cond b ((e.0, a) ∷ es) (e ∷ set_value (is_at (request_cmp id)) es a)) id ≡ Some a
set_same_head {A} true id e es a at rest = ap (λ (b : Bool). cond b (Some a) (open_at es id)) at
set_same_head {A} false id e es a at rest = ap (λ (b : Bool). cond b (Some e.1) (open_at (set_value (is_at (request_cmp id)) es a) id)) at ∙ rest refl

pub set_same : {A : Type 0} (xs : List (ReqId × A)) (id : ReqId) (a b : A) → open_at xs id ≡ Some b → open_at (set_value (is_at (request_cmp id)) xs a) id ≡ Some a
set_same {A} [] id a b h = cc
set_same {A} (e ∷ es) id a b h =
    set_same_head (is_at (request_cmp id) e.0) id e es a refl (λ away. set_same es id a b (sym (ap (λ (x : Bool). cond x (Some e.1) (open_at es id)) away) ∙ h))

none_set : {A : Type 0} (xs : List (ReqId × A)) (id : ReqId) (a : A) (q : ReqId) → open_at xs q ≡ None → open_at (set_value (is_at (request_cmp id)) xs a) q ≡ None
none_set {A} [] id a q none = refl
none_set {A} (e ∷ es) id a q none =
    let rest = none_tail e es q none in
    by_test (is_at (request_cmp id) e.0) rest.0 rest.1 (none_set es id a q rest.1)
  where
    by_test : (b : Bool) → e.0 ≢ q → open_at es q ≡ None → open_at (set_value (is_at (request_cmp id)) es a) q ≡ None → open_at (cond b ((e.0, a) ∷ es) (e ∷ set_value (is_at (request_cmp id)) es a)) q ≡ None
    by_test true other old new = none_cons (e.0, a) es q other old
    by_test false other old new = none_cons e (set_value (is_at (request_cmp id)) es a) q other new

set_apart_head : {A : Type 0} (b : Bool) (id : ReqId) (e : ReqId × A) (es : List (ReqId × A)) (a : A) → open_at es e.0 ≡ None → Apart es → Apart (set_value (is_at (request_cmp id)) es a)
    → Apart (cond b ((e.0, a) ∷ es) (e ∷ set_value (is_at (request_cmp id)) es a))
set_apart_head {A} true id e es a none apart rest = (none, apart)
set_apart_head {A} false id e es a none apart rest = (none_set es id a e.0 none, rest)

pub set_apart : {A : Type 0} (xs : List (ReqId × A)) (id : ReqId) (a : A) → Apart xs → Apart (set_value (is_at (request_cmp id)) xs a)
set_apart {A} [] id a apart = tt
set_apart {A} (e ∷ es) id a apart = set_apart_head (is_at (request_cmp id) e.0) id e es a apart.0 apart.1 (set_apart es id a apart.1)

-- ---- one is put in

equal_ids : (id k : ReqId) → Equal ≡ request_cmp id k → k ≡ id
equal_ids id k h = at_true id k (ap is_eq (sym h))

insert_other_head : {A : Type 0} (o : Ordering) (id : ReqId) (e : ReqId × A) (es : List (ReqId × A)) (a : A) (q : ReqId) → o ≡ request_cmp id e.0 → q ≢ id → open_at (insert_entry request_cmp es id a) q ≡ open_at es q
    → open_at (match_ordering o ((id, a) ∷ e ∷ es) ((e.0, a) ∷ es) (e ∷ insert_entry request_cmp es id a)) q ≡ open_at (e ∷ es) q
insert_other_head {A} Less id e es a q at other rest = head_other (id, a) (e ∷ es) q (λ same. other (sym same))
insert_other_head {A} Equal id e es a q at other rest =
    let away : e.0 ≢ q = λ same. other (sym same ∙ equal_ids id e.0 at) in
    head_other (e.0, a) es q away ∙ sym (head_other e es q away)
insert_other_head {A} Greater id e es a q at other rest = ap (λ (o : Option A). cond (is_at (request_cmp q) e.0) (Some e.1) o) rest

pub insert_other : {A : Type 0} (xs : List (ReqId × A)) (id : ReqId) (a : A) (q : ReqId) → q ≢ id → open_at (insert_entry request_cmp xs id a) q ≡ open_at xs q
insert_other {A} [] id a q other = head_other (id, a) [] q (λ same. other (sym same))
insert_other {A} (e ∷ es) id a q other = insert_other_head (request_cmp id e.0) id e es a q refl other (insert_other es id a q other)

greater_not : Greater ≡ Equal → ⊥
greater_not e = cc

insert_same_head : {A : Type 0} (o : Ordering) (id : ReqId) (e : ReqId × A) (es : List (ReqId × A)) (a : A) → o ≡ request_cmp id e.0 → open_at (insert_entry request_cmp es id a) id ≡ Some a
    → open_at (match_ordering o ((id, a) ∷ e ∷ es) ((e.0, a) ∷ es) (e ∷ insert_entry request_cmp es id a)) id ≡ Some a
insert_same_head {A} Less id e es a at rest = head_same (id, a) (e ∷ es)
insert_same_head {A} Equal id e es a at rest = subst (λ (k : ReqId). open_at ((e.0, a) ∷ es) k ≡ Some a) (equal_ids id e.0 at) (head_same (e.0, a) es)
insert_same_head {A} Greater id e es a at rest = ap (λ (o : Ordering). cond (is_eq o) (Some e.1) (open_at (insert_entry request_cmp es id a) id)) (sym at) ∙ rest

pub insert_same : {A : Type 0} (xs : List (ReqId × A)) (id : ReqId) (a : A) → open_at (insert_entry request_cmp xs id a) id ≡ Some a
insert_same {A} [] id a = head_same (id, a) []
insert_same {A} (e ∷ es) id a = insert_same_head (request_cmp id e.0) id e es a refl (insert_same es id a)

insert_apart_head : {A : Type 0} (o : Ordering) (id : ReqId) (e : ReqId × A) (es : List (ReqId × A)) (a : A) → o ≡ request_cmp id e.0 → open_at (e ∷ es) id ≡ None → open_at es e.0 ≡ None → Apart es → Apart (insert_entry request_cmp es id a)
    → Apart (match_ordering o ((id, a) ∷ e ∷ es) ((e.0, a) ∷ es) (e ∷ insert_entry request_cmp es id a))
insert_apart_head {A} Less id e es a at none first apart rest = (none, (first, apart))
insert_apart_head {A} Equal id e es a at none first apart rest = (first, apart)
insert_apart_head {A} Greater id e es a at none first apart rest = (insert_other es id a e.0 (none_tail e es id none).0 ∙ first, rest)

pub insert_apart : {A : Type 0} (xs : List (ReqId × A)) (id : ReqId) (a : A) → open_at xs id ≡ None → Apart xs → Apart (insert_entry request_cmp xs id a)
insert_apart {A} [] id a none apart = (refl, tt)
insert_apart {A} (e ∷ es) id a none apart = insert_apart_head (request_cmp id e.0) id e es a refl none apart.0 apart.1 (insert_apart es id a (none_tail e es id none).1 apart.1)
