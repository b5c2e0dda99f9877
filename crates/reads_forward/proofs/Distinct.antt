-- One read is open under an id, as reads come, change and go.
use Rattle.std.proofs.Common.{◌≡◌, ◌≢◌, inl, inr, Bool, true, false, cond, List, [], ◌∷◌, refl, sym, ap, ◌∙◌, Contains}
use Rattle.std.specs.BTreeMap.{is_at, insert_entry}
use Rattle.std.specs.Map.{set_value, remove_entry}
use Rattle.std.specs.Ordering.{match_ordering, nat_cmp, is_eq}
use Rattle.std.specs.declared.cmp.Ordering.{Ordering}
use Rattle.std.specs.declared.cmp.Ordering.TheVariants.{Less, Equal, Greater}
use Rattle.std.proofs.lemmas.Cmp.{nat_cmp_total, tied_itself}
use Rattle.cs_base.specs.declared.ids.ReqId.{ReqId}
use Rattle.cs_base.specs.Requests.{request_cmp}
use Rattle.cs_base.proofs.Members.{contains_nil, contains_cases, contains_here, contains_there}
use Rattle.changes.proofs.Orderings.{then_on}
use Rattle.node_steps.specs.State.{OpenRead}
use Rattle.node_steps.proofs.Opened.{at_request, in_left, in_inserted}
use Rattle.reads_forward.proofs.Facts.{AreDistinct}

at_itself : (id : ReqId) → is_at (request_cmp id) id ≡ true
at_itself id = ap is_eq (then_on (nat_cmp id.node id.node) (nat_cmp id.time id.time) (tied_itself nat_cmp_total id.node) ∙ tied_itself nat_cmp_total id.time)

-- ---- a read changes

abbrev HasKey : List (ReqId × OpenRead) → ReqId → Type 0
HasKey xs id = (y : ReqId × OpenRead) × Contains xs y × (y.0 ≡ id)

key_cases : (b : Bool) (e : ReqId × OpenRead) (xs rest : List (ReqId × OpenRead)) (a : OpenRead) (x : ReqId × OpenRead) → (Contains rest x → HasKey xs x.0) → Contains (cond b ((e.0, a) ∷ xs) (e ∷ rest)) x → HasKey (e ∷ xs) x.0
key_cases true e xs rest a x more h = elim (contains_cases (e.0, a) xs x h) [
  | inl here ↦ (e, contains_here e xs, ap (λ (y : ReqId × OpenRead). y.0) here)
  | inr there ↦ (x, contains_there e xs x there, refl)
]
key_cases false e xs rest a x more h = elim (contains_cases e rest x h) [
  | inl here ↦ (e, contains_here e xs, ap (λ (y : ReqId × OpenRead). y.0) here)
  | inr there ↦ let old = more there in (old.0, contains_there e xs old.0 old.1, old.2)
]

set_key : (id : ReqId) (xs : List (ReqId × OpenRead)) (a : OpenRead) (x : ReqId × OpenRead) → Contains (set_value (is_at (request_cmp id)) xs a) x → HasKey xs x.0
set_key id [] a x h = absurd (contains_nil x h)
set_key id (e ∷ xs) a x h = key_cases (is_at (request_cmp id) e.0) e xs (set_value (is_at (request_cmp id)) xs a) a x (set_key id xs a x) h

set_cases : (b : Bool) (e : ReqId × OpenRead) (xs rest : List (ReqId × OpenRead)) (a : OpenRead) → AreDistinct (e ∷ xs) → ((x : ReqId × OpenRead) → Contains rest x → HasKey xs x.0) → AreDistinct rest → AreDistinct (cond b ((e.0, a) ∷ xs) (e ∷ rest))
set_cases true e xs rest a d keys more = (λ x there. d.0 x there, d.1)
set_cases false e xs rest a d keys more = (λ x there same. let old = keys x there in d.0 old.0 old.1 (old.2 ∙ same), more)

pub distinct_set : (id : ReqId) (xs : List (ReqId × OpenRead)) (a : OpenRead) → AreDistinct xs → AreDistinct (set_value (is_at (request_cmp id)) xs a)
distinct_set id [] a d = d
distinct_set id (e ∷ xs) a d = set_cases (is_at (request_cmp id) e.0) e xs (set_value (is_at (request_cmp id)) xs a) a d (set_key id xs a) (distinct_set id xs a d.1)

one_cases : (b : Bool) (id : ReqId) (e : ReqId × OpenRead) (xs rest : List (ReqId × OpenRead)) (a u : OpenRead) → is_at (request_cmp id) e.0 ≡ b → AreDistinct (e ∷ xs) → (Contains rest (id, u) → u ≡ a) → Contains (cond b ((e.0, a) ∷ xs) (e ∷ rest)) (id, u) → u ≡ a
one_cases true id e xs rest a u test d more h = elim (contains_cases (e.0, a) xs (id, u) h) [
  | inl here ↦ ap (λ (y : ReqId × OpenRead). y.1) (sym here)
  | inr there ↦ absurd (d.0 (id, u) there (at_request id e.0 test))
]
one_cases false id e xs rest a u test d more h = elim (contains_cases e rest (id, u) h) [
  | inl here ↦
      let other : true ≡ false = sym (at_itself id) ∙ ap (is_at (request_cmp id)) (ap (λ (y : ReqId × OpenRead). y.0) (sym here)) ∙ test in
      cc
  | inr there ↦ more there
]

-- the read that is open under the id is the one that was set
pub set_one : (id : ReqId) (xs : List (ReqId × OpenRead)) (a u : OpenRead) → AreDistinct xs → Contains (set_value (is_at (request_cmp id)) xs a) (id, u) → u ≡ a
set_one id [] a u d h = absurd (contains_nil _ h)
set_one id (e ∷ xs) a u d h = one_cases (is_at (request_cmp id) e.0) id e xs (set_value (is_at (request_cmp id)) xs a) a u refl d (set_one id xs a u d.1) h

-- ---- a read goes

left_cases : (b : Bool) (e : ReqId × OpenRead) (xs rest : List (ReqId × OpenRead)) → AreDistinct (e ∷ xs) → ((x : ReqId × OpenRead) → Contains rest x → Contains xs x) → AreDistinct rest → AreDistinct (cond b xs (e ∷ rest))
left_cases true e xs rest d old more = d.1
left_cases false e xs rest d old more = (λ x there. d.0 x (old x there), more)

pub distinct_left : (test : ReqId → Bool) (xs : List (ReqId × OpenRead)) → AreDistinct xs → AreDistinct (remove_entry test xs)
distinct_left test [] d = d
distinct_left test (e ∷ xs) d = left_cases (test e.0) e xs (remove_entry test xs) d (in_left test xs) (distinct_left test xs d.1)

-- ---- a read comes, under a new id

abbrev IsNoKey : List (ReqId × OpenRead) → ReqId → Type 0
IsNoKey xs id = (x : ReqId × OpenRead) → Contains xs x → x.0 ≢ id

inserted_cases : (o : Ordering) (id : ReqId) (a : OpenRead) (e : ReqId × OpenRead) (xs rest : List (ReqId × OpenRead)) → AreDistinct (e ∷ xs) → IsNoKey (e ∷ xs) id → ((x : ReqId × OpenRead) → Contains rest x → x.0 ≢ e.0) → AreDistinct rest
    → AreDistinct (match_ordering o ((id, a) ∷ e ∷ xs) ((e.0, a) ∷ xs) (e ∷ rest))
inserted_cases Less id a e xs rest d new others more = (new, d)
inserted_cases Equal id a e xs rest d new others more = (d.0, d.1)
inserted_cases Greater id a e xs rest d new others more = (others, more)

pub distinct_inserted : (xs : List (ReqId × OpenRead)) (id : ReqId) (a : OpenRead) → AreDistinct xs → IsNoKey xs id → AreDistinct (insert_entry request_cmp xs id a)
distinct_inserted [] id a d new = (λ x there. absurd (contains_nil x there), tt)
distinct_inserted (e ∷ xs) id a d new =
    let others : IsNoKey xs id = λ x there. new x (contains_there e xs x there) in
    let rest : (x : ReqId × OpenRead) → Contains (insert_entry request_cmp xs id a) x → x.0 ≢ e.0 =
    λ x there same. elim (in_inserted xs id a x there) [
      | inl here ↦ new e (contains_here e xs) (sym same ∙ ap (λ (y : ReqId × OpenRead). y.0) here)
      | inr old ↦ d.0 x old same
    ] in
    inserted_cases (request_cmp id e.0) id a e xs (insert_entry request_cmp xs id a) d new rest (distinct_inserted xs id a d.1 others)
