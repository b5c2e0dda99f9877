-- Open requests, without those that ended: what is left, and how many wait for an answer.
use Rattle.std.proofs.Common.{◌≡◌, ◌<◌, ◌≤◌, ◌+◌, ◌-◌, inl, inr, ℕ, Bool, true, false, cond, Option, Some, None, List, [], ◌∷◌, ◌++◌, length, refl, sym, ap, subst, ◌∙◌, arith, Contains}
use Rattle.std.specs.Prelude.{◌^◌, if◌then◌else◌, not}
use Rattle.std.specs.Int.{from_bool}
use Rattle.std.specs.List.{AllByRecursion}
use Rattle.std.specs.Map.{lookup, set_value, remove_entry}
use Rattle.std.specs.BTreeMap.{BTreeMap, is_at, insert_entry, IsOrdered}
use Rattle.std.specs.Ordering.{nat_cmp, is_eq, match_ordering, ordering_then}
use Rattle.std.specs.Cmp.{nat_cmp_is}
use Rattle.std.specs.declared.cmp.Ordering.{Ordering}
use Rattle.std.specs.declared.cmp.Ordering.TheVariants.{Less, Equal, Greater}
use Rattle.cs_base.specs.declared.ids.ReqId.{ReqId}
use Rattle.cs_base.specs.Requests.{request_cmp}
use Rattle.cs_base.proofs.Members.{contains_nil, contains_cases, contains_here, contains_there}
use Rattle.node_steps.specs.State.{OpenWrite}
use Rattle.node_steps.specs.Effects.{open_at}
use Rattle.node_steps.specs.Requests.{unanswered_writes}
use Rattle.node_steps.proofs.Opened.{at_request}
use Rattle.node_core.specs.Due.{AreOwn}
use Rattle.node_core.specs.Moving.{BeganBefore}
use Rattle.node_core.specs.Working.{EndedBefore, left_open}
use Rattle.node_core.proofs.Slots.{some_not_none, gone_is_none}

-- ---- one more ends

pub left_more : {A : Type 0} (ids : List ReqId) (id : ReqId) (xs : List (ReqId × A)) → left_open (ids ++ id ∷ []) xs ≡ remove_entry (is_at (request_cmp id)) (left_open ids xs)
left_more {A} [] id xs = refl
left_more {A} (e ∷ ids) id xs = left_more ids id (remove_entry (is_at (request_cmp e)) xs)

-- ---- look-ups

-- another request is not taken out
other_cond : {A : Type 0} (b same : Bool) (id e : ReqId) (x : ReqId × A) (xs rest : List (ReqId × A)) → is_at (request_cmp e) x.0 ≡ b → is_at (request_cmp id) x.0 ≡ same → (e ≡ id → ⊥) → open_at rest id ≡ open_at xs id
    → open_at (cond b xs (x ∷ rest)) id ≡ cond same (Some x.1) (open_at xs id)
other_cond {A} true true id e x xs rest at here away more = absurd (away (at_request e x.0 at ∙ sym (at_request id x.0 here)))
other_cond {A} true false id e x xs rest at here away more = refl
other_cond {A} false same id e x xs rest at here away more = ap (λ (t : Bool). cond t (Some x.1) (open_at rest id)) here ∙ ap (λ (o : Option A). cond same (Some x.1) o) more

other_left : {A : Type 0} (id e : ReqId) (xs : List (ReqId × A)) → (e ≡ id → ⊥) → open_at (remove_entry (is_at (request_cmp e)) xs) id ≡ open_at xs id
other_left {A} id e [] away = refl
other_left {A} id e (x ∷ xs) away = other_cond (is_at (request_cmp e) x.0) (is_at (request_cmp id) x.0) id e x xs (remove_entry (is_at (request_cmp e)) xs) refl refl away (other_left id e xs away)

pub left_other : {A : Type 0} (id : ReqId) (ids : List ReqId) (xs : List (ReqId × A)) → ((e : ReqId) → Contains ids e → e ≡ id → ⊥) → open_at (left_open ids xs) id ≡ open_at xs id
left_other {A} id [] xs away = refl
left_other {A} id (e ∷ ids) xs away =
    left_other id ids (remove_entry (is_at (request_cmp e)) xs) (λ y there. away y (contains_there e ids y there)) ∙ other_left id e xs (away e (contains_here e ids))

-- where none was open, none is left
none_cond : {A : Type 0} (b same : Bool) (id : ReqId) (x : ReqId × A) (xs rest : List (ReqId × A)) → is_at (request_cmp id) x.0 ≡ same → cond same (Some x.1) (open_at xs id) ≡ None → (open_at xs id ≡ None → open_at rest id ≡ None)
    → open_at (cond b xs (x ∷ rest)) id ≡ None
none_cond {A} b true id x xs rest here none more = absurd (some_not_none x.1 none)
none_cond {A} true false id x xs rest here none more = none
none_cond {A} false false id x xs rest here none more = ap (λ (t : Bool). cond t (Some x.1) (open_at rest id)) here ∙ more none

none_still : {A : Type 0} (id : ReqId) (test : ReqId → Bool) (xs : List (ReqId × A)) → open_at xs id ≡ None → open_at (remove_entry test xs) id ≡ None
none_still {A} id test [] none = refl
none_still {A} id test (x ∷ xs) none = none_cond (test x.0) (is_at (request_cmp id) x.0) id x xs (remove_entry test xs) refl none (none_still id test xs)

pub left_none : {A : Type 0} (id : ReqId) (ids : List ReqId) (xs : List (ReqId × A)) → open_at xs id ≡ None → open_at (left_open ids xs) id ≡ None
left_none {A} id [] xs none = none
left_none {A} id (e ∷ ids) xs none = left_none id ids (remove_entry (is_at (request_cmp e)) xs) (none_still id (is_at (request_cmp e)) xs none)

-- ---- what holds of all still does

all_cond : {X : Type 0} (P : X → Type 0) (b : Bool) (x : X) (xs ys : List X) → AllByRecursion P (x ∷ xs) → AllByRecursion P ys → AllByRecursion P (cond b xs (x ∷ ys))
all_cond {X} P true x xs ys all more = all.1
all_cond {X} P false x xs ys all more = (all.0, more)

pub all_removed : {A : Type 0} (P : ReqId × A → Type 0) (test : ReqId → Bool) (xs : List (ReqId × A)) → AllByRecursion P xs → AllByRecursion P (remove_entry test xs)
all_removed {A} P test [] all = tt
all_removed {A} P test (x ∷ xs) all = all_cond P (test x.0) x xs (remove_entry test xs) all (all_removed P test xs all.1)

pub all_left : {A : Type 0} (P : ReqId × A → Type 0) (ids : List ReqId) (xs : List (ReqId × A)) → AllByRecursion P xs → AllByRecursion P (left_open ids xs)
all_left {A} P [] xs all = all
all_left {A} P (e ∷ ids) xs all = all_left P ids (remove_entry (is_at (request_cmp e)) xs) (all_removed P (is_at (request_cmp e)) xs all)

put_cond : {A : Type 0} (P : ReqId × A → Type 0) (o : Ordering) (x : ReqId × A) (xs ys : List (ReqId × A)) (id : ReqId) (a : A) → (o ≡ Equal → P (x.0, a)) → P (id, a) → AllByRecursion P (x ∷ xs) → AllByRecursion P ys
    → AllByRecursion P (match_ordering o ((id, a) ∷ x ∷ xs) ((x.0, a) ∷ xs) (x ∷ ys))
put_cond {A} P Less x xs ys id a same at all more = (at, all)
put_cond {A} P Equal x xs ys id a same at all more = (same refl, all.1)
put_cond {A} P Greater x xs ys id a same at all more = (all.0, more)

-- also of one that is put in
pub all_put : {A : Type 0} (P : ReqId × A → Type 0) (xs : List (ReqId × A)) (id : ReqId) (a : A) → ((k : ReqId) → P (k, a)) → AllByRecursion P xs → AllByRecursion P (insert_entry request_cmp xs id a)
all_put {A} P [] id a new all = (new id, tt)
all_put {A} P (x ∷ xs) id a new all = put_cond P (request_cmp id x.0) x xs (insert_entry request_cmp xs id a) id a (λ e. new x.0) (new id) all (all_put P xs id a new all.1)

set_cond : {A : Type 0} (P : ReqId × A → Type 0) (b : Bool) (x : ReqId × A) (xs ys : List (ReqId × A)) (a : A) → P (x.0, a) → AllByRecursion P (x ∷ xs) → AllByRecursion P ys → AllByRecursion P (cond b ((x.0, a) ∷ xs) (x ∷ ys))
set_cond {A} P true x xs ys a new all more = (new, all.1)
set_cond {A} P false x xs ys a new all more = (all.0, more)

pub all_set : {A : Type 0} (P : ReqId × A → Type 0) (test : ReqId → Bool) (xs : List (ReqId × A)) (a : A) → ((k : ReqId) → P (k, a)) → AllByRecursion P xs → AllByRecursion P (set_value test xs a)
all_set {A} P test [] a new all = tt
all_set {A} P test (x ∷ xs) a new all = set_cond P (test x.0) x xs (set_value test xs a) a (new x.0) all (all_set P test xs a new all.1)

at_cond : {A : Type 0} (P : ReqId × A → Type 0) (Q : A → Type 0) (b : Bool) (x : ReqId × A) (rest : Option A) (a : A) → ((k : ReqId) (y : A) → P (k, y) → Q y) → P x → (rest ≡ Some a → Q a) → cond b (Some x.1) rest ≡ Some a → Q a
at_cond {A} P Q true x rest a to here more is = subst Q (one_some x.1 a is) (to x.0 x.1 here)
  where
    one_some : (y z : A) → Some y ≡ Some z → y ≡ z
    one_some y z e = cc
at_cond {A} P Q false x rest a to here more is = more is

pub all_at : {A : Type 0} (P : ReqId × A → Type 0) (Q : A → Type 0) (xs : List (ReqId × A)) (id : ReqId) (a : A) → ((k : ReqId) (y : A) → P (k, y) → Q y) → AllByRecursion P xs → open_at xs id ≡ Some a → Q a
all_at {A} P Q [] id a to all is = absurd (some_not_none a (sym is))
all_at {A} P Q (x ∷ xs) id a to all is = at_cond P Q (is_at (request_cmp id) x.0) x (open_at xs id) a to all.0 (all_at P Q xs id a to all.1) is

-- ---- a request that begins now stands at the end

pub later_time : (a b : ℕ) → b < a → nat_cmp a b ≡ Greater
later_time a b h = sym (nat_cmp_is a b Greater h)

-- of one node's requests the later one is behind the others
node_cond : (o : Ordering) → (o ≡ Equal) → ordering_then o Greater ≡ Greater
node_cond Less e = cc
node_cond Equal e = refl
node_cond Greater e = cc

not_at : (a b : ReqId) → b.time < a.time → is_at (request_cmp b) a ≡ false
not_at a b h = not_it (is_at (request_cmp b) a) refl
  where
    not_it : (t : Bool) → is_at (request_cmp b) a ≡ t → t ≡ false
    not_it true is = let same = ap (λ (r : ReqId). r.time) (at_request b a is) in absurd (omega arith)
    not_it false is = refl

-- ---- how many wait for an answer

abbrev pub waits : OpenWrite → ℕ
waits w = if w.answered then 0 else 1

abbrev waits_at : Option OpenWrite → ℕ
waits_at None = 0
waits_at (Some w) = waits w

removed_cond : (b : Bool) (x : ReqId × OpenWrite) (xs rest : List (ReqId × OpenWrite)) (o : Option OpenWrite) → unanswered_writes rest + waits_at o ≡ unanswered_writes xs
    → unanswered_writes (cond b xs (x ∷ rest)) + waits_at (cond b (Some x.1) o) ≡ waits x.1 + unanswered_writes xs
removed_cond true x xs rest o more = omega arith
removed_cond false x xs rest o more = omega arith

-- one that is taken out does not wait
pub removed_count : (test : ReqId → Bool) (xs : List (ReqId × OpenWrite)) → unanswered_writes (remove_entry test xs) + waits_at (lookup test xs) ≡ unanswered_writes xs
removed_count test [] = refl
removed_count test (x ∷ xs) = removed_cond (test x.0) x xs (remove_entry test xs) (lookup test xs) (removed_count test xs)

set_count_cond : (b : Bool) (x : ReqId × OpenWrite) (xs rest : List (ReqId × OpenWrite)) (o : Option OpenWrite) (new : OpenWrite) (old : OpenWrite) → cond b (Some x.1) o ≡ Some old → (o ≡ Some old → unanswered_writes rest + waits old ≡ unanswered_writes xs + waits new)
    → unanswered_writes (cond b ((x.0, new) ∷ xs) (x ∷ rest)) + waits old ≡ (waits x.1 + unanswered_writes xs) + waits new
set_count_cond true x xs rest o new old is more = let same = ap waits (one_some x.1 old is) in omega arith
  where
    one_some : (y z : OpenWrite) → Some y ≡ Some z → y ≡ z
    one_some y z e = cc
set_count_cond false x xs rest o new old is more = let rest_is = more is in omega arith

pub set_count : (test : ReqId → Bool) (xs : List (ReqId × OpenWrite)) (new old : OpenWrite) → lookup test xs ≡ Some old → unanswered_writes (set_value test xs new) + waits old ≡ unanswered_writes xs + waits new
set_count test [] new old is = absurd (some_not_none old (sym is))
set_count test (x ∷ xs) new old is = set_count_cond (test x.0) x xs (set_value test xs new) (lookup test xs) new old is (set_count test xs new old)

put_count_cond : (o : Ordering) (id : ReqId) (x : ReqId × OpenWrite) (xs rest : List (ReqId × OpenWrite)) (new : OpenWrite) → request_cmp id x.0 ≡ o → cond (is_eq o) (Some x.1) (open_at xs id) ≡ None → (open_at xs id ≡ None → unanswered_writes rest ≡ unanswered_writes xs + waits new)
    → unanswered_writes (match_ordering o ((id, new) ∷ x ∷ xs) ((x.0, new) ∷ xs) (x ∷ rest)) ≡ (waits x.1 + unanswered_writes xs) + waits new
put_count_cond Less id x xs rest new is none more = omega arith
put_count_cond Equal id x xs rest new is none more = absurd (some_not_none x.1 none)
put_count_cond Greater id x xs rest new is none more = let rest_is = more none in omega arith

-- one that is put in does, if it has no answer
pub put_count : (xs : List (ReqId × OpenWrite)) (id : ReqId) (new : OpenWrite) → open_at xs id ≡ None → unanswered_writes (insert_entry request_cmp xs id new) ≡ unanswered_writes xs + waits new
put_count [] id new none = omega arith
put_count (x ∷ xs) id new none = put_count_cond (request_cmp id x.0) id x xs (insert_entry request_cmp xs id new) new refl none (put_count xs id new)

few_cond : (answered : Bool) → (if answered then 0 else 1) ≤ 1
few_cond true = omega arith
few_cond false = omega arith

pub few_wait : (xs : List (ReqId × OpenWrite)) → unanswered_writes xs ≤ length xs
few_wait [] = omega arith
few_wait (x ∷ xs) = let rest = few_wait xs in let one = few_cond x.1.answered in omega arith

-- an open write without an answer waits
pub one_waits : (xs : List (ReqId × OpenWrite)) (id : ReqId) (w : OpenWrite) → open_at xs id ≡ Some w → w.answered ≡ false → 0 < unanswered_writes xs
one_waits xs id w is unsaid =
    let all = removed_count (is_at (request_cmp id)) xs in
    let here : waits_at (open_at xs id) ≡ 1 = ap waits_at is ∙ ap (λ (b : Bool). if b then 0 else 1) unsaid in
    omega (arith, all, here)

pub left_count : (ids : List ReqId) (id : ReqId) (xs : List (ReqId × OpenWrite)) (w : OpenWrite) → open_at (left_open ids xs) id ≡ Some w → unanswered_writes (left_open (ids ++ id ∷ []) xs) ≡ unanswered_writes (left_open ids xs) - waits w
left_count ids id xs w is =
    let all = removed_count (is_at (request_cmp id)) (left_open ids xs) in
    let here : waits_at (open_at (left_open ids xs) id) ≡ waits w = ap waits_at is in
    let more = ap unanswered_writes (left_more ids id xs) in
    omega (arith, all, here, more)

length_cond : {A : Type 0} (b : Bool) (x : ReqId × A) (xs rest : List (ReqId × A)) (o : Option A) (a : A) → cond b (Some x.1) o ≡ Some a → (o ≡ Some a → length rest + 1 ≡ length xs) → length (cond b xs (x ∷ rest)) + 1 ≡ length (x ∷ xs)
length_cond {A} true x xs rest o a is more = omega arith
length_cond {A} false x xs rest o a is more = let rest_is = more is in omega arith

pub removed_length : {A : Type 0} (test : ReqId → Bool) (xs : List (ReqId × A)) (a : A) → lookup test xs ≡ Some a → length (remove_entry test xs) + 1 ≡ length xs
removed_length {A} test [] a is = absurd (some_not_none a (sym is))
removed_length {A} test (x ∷ xs) a is = length_cond (test x.0) x xs (remove_entry test xs) (lookup test xs) a is (removed_length test xs a)

pub left_length : {A : Type 0} (ids : List ReqId) (id : ReqId) (xs : List (ReqId × A)) (a : A) → open_at (left_open ids xs) id ≡ Some a → length (left_open (ids ++ id ∷ []) xs) ≡ length (left_open ids xs) - 1
left_length {A} ids id xs a is =
    let all = removed_length (is_at (request_cmp id)) (left_open ids xs) a is in
    let more = ap length (left_more ids id xs) in
    omega (arith, all, more)

-- ---- what ended, and what begins

removed_twice_cond : {A : Type 0} (p q : Bool) (id e : ReqId) (x : ReqId × A) (xs r1 r2 : List (ReqId × A)) → is_at (request_cmp id) x.0 ≡ p → is_at (request_cmp e) x.0 ≡ q
    → r1 ≡ remove_entry (is_at (request_cmp id)) xs → r2 ≡ remove_entry (is_at (request_cmp e)) xs → remove_entry (is_at (request_cmp id)) r2 ≡ remove_entry (is_at (request_cmp e)) r1
    → remove_entry (is_at (request_cmp id)) (cond q xs (x ∷ r2)) ≡ remove_entry (is_at (request_cmp e)) (cond p xs (x ∷ r1))
removed_twice_cond {A} true true id e x xs r1 r2 here there one two more = ap (λ (k : ReqId). remove_entry (is_at (request_cmp k)) xs) (at_request id x.0 here ∙ sym (at_request e x.0 there))
removed_twice_cond {A} true false id e x xs r1 r2 here there one two more = ap (λ (t : Bool). cond t r2 (x ∷ remove_entry (is_at (request_cmp id)) r2)) here ∙ two
removed_twice_cond {A} false true id e x xs r1 r2 here there one two more = sym one ∙ ap (λ (t : Bool). cond t r1 (x ∷ remove_entry (is_at (request_cmp e)) r1)) (sym there)
removed_twice_cond {A} false false id e x xs r1 r2 here there one two more =
    ap (λ (t : Bool). cond t r2 (x ∷ remove_entry (is_at (request_cmp id)) r2)) here
    ∙ ap (λ (ys : List (ReqId × A)). x ∷ ys) more
    ∙ ap (λ (t : Bool). cond t r1 (x ∷ remove_entry (is_at (request_cmp e)) r1)) (sym there)

removed_twice : {A : Type 0} (id e : ReqId) (xs : List (ReqId × A)) → remove_entry (is_at (request_cmp id)) (remove_entry (is_at (request_cmp e)) xs) ≡ remove_entry (is_at (request_cmp e)) (remove_entry (is_at (request_cmp id)) xs)
removed_twice {A} id e [] = refl
removed_twice {A} id e (x ∷ xs) =
    removed_twice_cond (is_at (request_cmp id) x.0) (is_at (request_cmp e) x.0) id e x xs (remove_entry (is_at (request_cmp id)) xs) (remove_entry (is_at (request_cmp e)) xs) refl refl refl refl (removed_twice id e xs)

gone_in : {A : Type 0} (id : ReqId) (ids : List ReqId) (xs : List (ReqId × A)) → open_at (remove_entry (is_at (request_cmp id)) xs) id ≡ None → Contains ids id → open_at (left_open ids xs) id ≡ None
gone_in {A} id [] xs none there = absurd (contains_nil id there)
gone_in {A} id (e ∷ ids) xs none there = elim (contains_cases e ids id there) [
  | inl here ↦ left_none id ids (remove_entry (is_at (request_cmp e)) xs) (subst (λ (k : ReqId). open_at (remove_entry (is_at (request_cmp k)) xs) id ≡ None) (sym here) none)
  | inr later ↦
      gone_in id ids (remove_entry (is_at (request_cmp e)) xs)
      (ap (λ (ys : List (ReqId × A)). open_at ys id) (removed_twice id e xs) ∙ none_still id (is_at (request_cmp e)) (remove_entry (is_at (request_cmp id)) xs) none) later
]

-- one that ended is not open
pub left_gone : {A : Type 0} (id : ReqId) (ids : List ReqId) (m : BTreeMap ReqId A) → IsOrdered request_cmp m → Contains ids id → open_at (left_open ids m.entries) id ≡ None
left_gone {A} id ids m ordered there = gone_in id ids m.entries (gone_is_none id m ordered) there

removed_left : {A : Type 0} (id : ReqId) (ids : List ReqId) (xs : List (ReqId × A)) → remove_entry (is_at (request_cmp id)) (left_open ids xs) ≡ left_open ids (remove_entry (is_at (request_cmp id)) xs)
removed_left {A} id [] xs = refl
removed_left {A} id (e ∷ ids) xs = removed_left id ids (remove_entry (is_at (request_cmp e)) xs) ∙ ap (λ (ys : List (ReqId × A)). left_open ids ys) (removed_twice id e xs)

-- nor is one that was taken out
pub left_removed : {A : Type 0} (id : ReqId) (ids : List ReqId) (m : BTreeMap ReqId A) → IsOrdered request_cmp m → open_at (remove_entry (is_at (request_cmp id)) (left_open ids m.entries)) id ≡ None
left_removed {A} id ids m ordered = ap (λ (ys : List (ReqId × A)). open_at ys id) (removed_left id ids m.entries) ∙ left_none id ids (remove_entry (is_at (request_cmp id)) m.entries) (gone_is_none id m ordered)

-- a request behind all others
abbrev IsBehindAll : {A : Type 0} → ReqId → List (ReqId × A) → Type 0
IsBehindAll {A} id xs = AllByRecursion (λ (x : ReqId × A). request_cmp id x.0 ≡ Greater) xs

behind_one : (id k : ReqId) → k.node ≡ id.node → k.time < id.time → request_cmp id k ≡ Greater
behind_one id k node time =
    ap (λ (o : Ordering). ordering_then (nat_cmp id.node k.node) o) (later_time id.time k.time time)
    ∙ ap (λ (n : ℕ). ordering_then (nat_cmp id.node n) Greater) node
    ∙ node_cond (nat_cmp id.node id.node) (sym (nat_cmp_is id.node id.node Equal refl))

behind_all : {A : Type 0} (id : ReqId) (xs : List (ReqId × A)) → AreOwn id.node xs → BeganBefore id.time xs → IsBehindAll id xs
behind_all {A} id [] own before = tt
behind_all {A} id (x ∷ xs) own before = (behind_one id x.0 own.0 before.0, behind_all id xs own.1 before.1)

put_behind : {A : Type 0} (o : Ordering) (id : ReqId) (a : A) (x : ReqId × A) (xs rest : List (ReqId × A)) → o ≡ Greater → match_ordering o ((id, a) ∷ x ∷ xs) ((x.0, a) ∷ xs) (x ∷ rest) ≡ x ∷ rest
put_behind {A} o id a x xs rest is = ap (λ (p : Ordering). match_ordering p ((id, a) ∷ x ∷ xs) ((x.0, a) ∷ xs) (x ∷ rest)) is

removed_put_cond : {A : Type 0} (b : Bool) (id : ReqId) (a : A) (x : ReqId × A) (xs ys zs : List (ReqId × A)) → request_cmp id x.0 ≡ Greater → ys ≡ insert_entry request_cmp zs id a
    → cond b (insert_entry request_cmp xs id a) (x ∷ ys) ≡ insert_entry request_cmp (cond b xs (x ∷ zs)) id a
removed_put_cond {A} true id a x xs ys zs behind more = refl
removed_put_cond {A} false id a x xs ys zs behind more =
    ap (λ (rest : List (ReqId × A)). x ∷ rest) more ∙ sym (put_behind (request_cmp id x.0) id a x zs (insert_entry request_cmp zs id a) behind)

removed_put : {A : Type 0} (e id : ReqId) (a : A) (xs : List (ReqId × A)) → e.time < id.time → IsBehindAll id xs
    → remove_entry (is_at (request_cmp e)) (insert_entry request_cmp xs id a) ≡ insert_entry request_cmp (remove_entry (is_at (request_cmp e)) xs) id a
removed_put {A} e id a [] early behind = ap (λ (t : Bool). cond t [] ((id, a) ∷ [])) (not_at id e early)
removed_put {A} e id a (x ∷ xs) early behind =
    ap (λ (ys : List (ReqId × A)). remove_entry (is_at (request_cmp e)) ys) (put_behind (request_cmp id x.0) id a x xs (insert_entry request_cmp xs id a) behind.0)
    ∙ removed_put_cond (is_at (request_cmp e) x.0) id a x xs (remove_entry (is_at (request_cmp e)) (insert_entry request_cmp xs id a)) (remove_entry (is_at (request_cmp e)) xs) behind.0 (removed_put e id a xs early behind.1)

left_put_all : {A : Type 0} (ids : List ReqId) (id : ReqId) (a : A) (xs : List (ReqId × A)) → EndedBefore id.time ids → IsBehindAll id xs → left_open ids (insert_entry request_cmp xs id a) ≡ insert_entry request_cmp (left_open ids xs) id a
left_put_all {A} [] id a xs early behind = refl
left_put_all {A} (e ∷ ids) id a xs early behind =
    ap (λ (ys : List (ReqId × A)). left_open ids ys) (removed_put e id a xs early.0 behind)
    ∙ left_put_all ids id a (remove_entry (is_at (request_cmp e)) xs) early.1 (all_removed (λ x. request_cmp id x.0 ≡ Greater) (is_at (request_cmp e)) xs behind)

-- what ended is taken out as well behind what began
pub left_put : {A : Type 0} (ids : List ReqId) (id : ReqId) (a : A) (xs : List (ReqId × A)) → EndedBefore id.time ids → AreOwn id.node xs → BeganBefore id.time xs → left_open ids (insert_entry request_cmp xs id a) ≡ insert_entry request_cmp (left_open ids xs) id a
left_put {A} ids id a xs early own before = left_put_all ids id a xs early (behind_all id xs own before)

-- ---- the count of writes that wait

bit_waits : (answered b : Bool) → b ≡ answered → from_bool (not b) ≡ (if answered then 0 else 1)
bit_waits answered true is = ap (λ (t : Bool). if t then 0 else 1) is
bit_waits answered false is = ap (λ (t : Bool). if t then 0 else 1) is

-- as its calls tell it
pub bit_is : (w : OpenWrite) (n : ℕ) (b : Bool) → n ≡ from_bool (not b) → b ≡ w.answered → n ≡ waits w
bit_is w n b is said = is ∙ bit_waits w.answered b said

bit_small : (w : OpenWrite) → waits w ≤ 1
bit_small w = few_cond w.answered

pub begun_fits : (ws : List (ReqId × OpenWrite)) (w : OpenWrite) (n u : ℕ) → u ≡ unanswered_writes ws → length ws < 2 ^ 63 → n ≡ waits w → u + n < 2 ^ 64
begun_fits ws w n u count small is = let few = few_wait ws in let one = bit_small w in omega arith

pub begun_count : (ws ws' : List (ReqId × OpenWrite)) (id : ReqId) (w : OpenWrite) (n u : ℕ) → u ≡ unanswered_writes ws → open_at ws id ≡ None → ws' ≡ insert_entry request_cmp ws id w → n ≡ waits w → u + n ≡ unanswered_writes ws'
begun_count ws ws' id w n u count none put is =
    let more = put_count ws id w none in
    let new = ap unanswered_writes put in
    omega arith

pub removed_waits : (ws : List (ReqId × OpenWrite)) (id : ReqId) (w : OpenWrite) (n u : ℕ) → u ≡ unanswered_writes ws → open_at ws id ≡ Some w → n ≡ waits w → n ≤ u
removed_waits ws id w n u count there is =
    let all = removed_count (is_at (request_cmp id)) ws in
    let here : waits_at (open_at ws id) ≡ waits w = ap waits_at there in
    omega arith

pub removed_unanswered : (ws ws' : List (ReqId × OpenWrite)) (id : ReqId) (w : OpenWrite) (n u : ℕ) → u ≡ unanswered_writes ws → open_at ws id ≡ Some w → ws' ≡ remove_entry (is_at (request_cmp id)) ws → n ≡ waits w → u - n ≡ unanswered_writes ws'
removed_unanswered ws ws' id w n u count there gone is =
    let all = removed_count (is_at (request_cmp id)) ws in
    let here : waits_at (open_at ws id) ≡ waits w = ap waits_at there in
    let new = ap unanswered_writes gone in
    omega arith

pub replaced_fits : (ws : List (ReqId × OpenWrite)) (w : OpenWrite) (n m u : ℕ) → u ≡ unanswered_writes ws → length ws < 2 ^ 63 → n ≡ waits w → (u - m) + n < 2 ^ 64
replaced_fits ws w n m u count small is = let few = few_wait ws in let one = bit_small w in omega arith

pub replaced_count : (ws ws' : List (ReqId × OpenWrite)) (id : ReqId) (old new : OpenWrite) (m n u : ℕ) → u ≡ unanswered_writes ws → open_at ws id ≡ Some old → ws' ≡ set_value (is_at (request_cmp id)) ws new → m ≡ waits old → n ≡ waits new → (u - m) + n ≡ unanswered_writes ws'
replaced_count ws ws' id old new m n u count there put is is' =
    let all = set_count (is_at (request_cmp id)) ws new old there in
    let most = removed_waits ws id old m u count there is in
    let after = ap unanswered_writes put in
    omega arith
