-- Answers in pieces, and the first to a request among them.
use Rattle.std.proofs.Common.{◌≡◌, ◌<◌, ◌+◌, ◌++◌, ℕ, zero, suc, inl, inr, Bool, true, false, cond, ltb, Option, Some, None, List, [], ◌∷◌, length, get_or, set, filter, find, refl, sym, ap, ◌∙◌, arith}
use Rattle.std.specs.Prelude.{not, is_some, ◌||◌, position}
use Rattle.std.specs.List.{list_any, remove, position_or_len}
use Rattle.std.proofs.lemmas.Bool.{cases_lt, le-ltb, lt-ltb}
use Rattle.std.proofs.lemmas.List.Quantifiers.{position-Some}
use Rattle.peer_messages.specs.declared.chronicle.Entry.{Entry}
use Rattle.wired_node.specs.Answers.{has_some, joined, without_first}

false_true : false ≡ true → ⊥
false_true e = cc

-- ---- of two lists, one behind the other

find_if : {A : Type 0} (b more : Bool) (x : A) (l r : Option A) → (more ≡ true → l ≡ r) → b || more ≡ true → cond b (Some x) l ≡ cond b (Some x) r
find_if {A} true more x l r same h = refl
find_if {A} false more x l r same h = same h

find_front : {A : Type 0} (p : A → Bool) (xs ys : List A) → list_any p xs ≡ true → find p (xs ++ ys) ≡ find p xs
find_front {A} p [] ys h = absurd (false_true h)
find_front {A} p (x ∷ xs) ys h = find_if (p x) (list_any p xs) x (find p (xs ++ ys)) (find p xs) (find_front p xs ys) h

none_head : (b more : Bool) → b || more ≡ false → b ≡ false
none_head true more h = absurd (false_true (sym h))
none_head false more h = refl

none_rest : (b more : Bool) → b || more ≡ false → more ≡ false
none_rest true more h = absurd (false_true (sym h))
none_rest false more h = h

find_behind : {A : Type 0} (p : A → Bool) (xs ys : List A) → list_any p xs ≡ false → find p (xs ++ ys) ≡ find p ys
find_behind {A} p [] ys h = refl
find_behind {A} p (x ∷ xs) ys h =
    ap (λ (b : Bool). cond b (Some x) (find p (xs ++ ys))) (none_head (p x) (list_any p xs) h) ∙ find_behind p xs ys (none_rest (p x) (list_any p xs) h)

without_if : {A : Type 0} (b more : Bool) (x : A) (xs ys l r : List A) → (more ≡ true → l ≡ r ++ ys) → b || more ≡ true → cond b (xs ++ ys) (x ∷ l) ≡ cond b xs (x ∷ r) ++ ys
without_if {A} true more x xs ys l r same h = refl
without_if {A} false more x xs ys l r same h = ap (λ (zs : List A). x ∷ zs) (same h)

without_front : {A : Type 0} (p : A → Bool) (xs ys : List A) → list_any p xs ≡ true → without_first p (xs ++ ys) ≡ without_first p xs ++ ys
without_front {A} p [] ys h = absurd (false_true h)
without_front {A} p (x ∷ xs) ys h = without_if (p x) (list_any p xs) x xs ys (without_first p (xs ++ ys)) (without_first p xs) (without_front p xs ys) h

without_behind : {A : Type 0} (p : A → Bool) (xs ys : List A) → list_any p xs ≡ false → without_first p (xs ++ ys) ≡ xs ++ without_first p ys
without_behind {A} p [] ys h = refl
without_behind {A} p (x ∷ xs) ys h =
    ap (λ (b : Bool). cond b (xs ++ ys) (x ∷ without_first p (xs ++ ys))) (none_head (p x) (list_any p xs) h) ∙ ap (λ (zs : List A). x ∷ zs) (without_behind p xs ys (none_rest (p x) (list_any p xs) h))

or_behind : (a b c : Bool) → (a || b) || c ≡ a || (b || c)
or_behind true b c = refl
or_behind false b c = refl

pub any_append : {A : Type 0} (p : A → Bool) (xs ys : List A) → list_any p (xs ++ ys) ≡ list_any p xs || list_any p ys
any_append {A} p [] ys = refl
any_append {A} p (x ∷ xs) ys = ap (λ (b : Bool). p x || b) (any_append p xs ys) ∙ sym (or_behind (p x) (list_any p xs) (list_any p ys))

-- ---- where none passes

pub find_none : {A : Type 0} (p : A → Bool) (xs : List A) → list_any p xs ≡ false → find p xs ≡ None
find_none {A} p [] h = refl
find_none {A} p (x ∷ xs) h = ap (λ (b : Bool). cond b (Some x) (find p xs)) (none_head (p x) (list_any p xs) h) ∙ find_none p xs (none_rest (p x) (list_any p xs) h)

pub without_none : {A : Type 0} (p : A → Bool) (xs : List A) → list_any p xs ≡ false → without_first p xs ≡ xs
without_none {A} p [] h = refl
without_none {A} p (x ∷ xs) h =
    ap (λ (b : Bool). cond b xs (x ∷ without_first p xs)) (none_head (p x) (list_any p xs) h) ∙ ap (λ (zs : List A). x ∷ zs) (without_none p xs (none_rest (p x) (list_any p xs) h))

-- ---- the first place at which it passes

place_if : (b : Bool) (n k : ℕ) → ltb (cond (not b) (1 + n) 0) (suc k) ≡ b || ltb n k
place_if true n k = lt-ltb 0 (suc k) (omega arith)
place_if false n k = elim (cases_lt n k) [ inl less ↦ lt-ltb (1 + n) (suc k) (omega arith) ∙ sym (lt-ltb n k less) | inr not_less ↦ le-ltb (1 + n) (suc k) (omega arith) ∙ sym (le-ltb n k not_less) ]

place_below : {A : Type 0} (p : A → Bool) (xs : List A) → ltb (position_or_len p xs) (length xs) ≡ list_any p xs
place_below {A} p [] = refl
place_below {A} p (x ∷ xs) = place_if (p x) (position_or_len p xs) (length xs) ∙ ap (λ (b : Bool). p x || b) (place_below p xs)

pub any_place : {A : Type 0} (p : A → Bool) (xs : List A) → is_some (position p xs) ≡ list_any p xs
any_place {A} p xs = at (ltb (position_or_len p xs) (length xs)) (position_or_len p xs) ∙ place_below p xs
  where
    at : (b : Bool) (n : ℕ) → is_some (cond b (Some n) None) ≡ b
    at true n = refl
    at false n = refl

pub none_place : {A : Type 0} (p : A → Bool) (xs : List A) → position p xs ≡ None → list_any p xs ≡ false
none_place {A} p xs h = sym (any_place p xs) ∙ ap (λ (o : Option ℕ). is_some o) h

-- the first that passes is taken out at its place
at_place : {A : Type 0} (p : A → Bool) (xs : List A) (i : ℕ) (d : A) → i < length xs → p (get_or xs i d) ≡ true → ((k : ℕ) → k < i → p (get_or xs k d) ≡ false)
    → (find p xs ≡ Some (get_or xs i d)) × (remove xs i ≡ without_first p xs)
at_place {A} p [] i d below here before = absurd (omega arith)
at_place {A} p (x ∷ xs) zero d below here before =
    (ap (λ (b : Bool). cond b (Some x) (find p xs)) here, sym (ap (λ (b : Bool). cond b xs (x ∷ without_first p xs)) here))
at_place {A} p (x ∷ xs) (suc i) d below here before =
    let later = at_place p xs i d (omega arith) here (λ k less. before (suc k) (omega arith)) in
    let first : p x ≡ false = before zero (omega arith) in (
      ap (λ (b : Bool). cond b (Some x) (find p xs)) first ∙ later.0,
      ap (λ (zs : List A). x ∷ zs) later.1 ∙ sym (ap (λ (b : Bool). cond b xs (x ∷ without_first p xs)) first),
    )

pub taken_at : {A : Type 0} (p : A → Bool) (xs : List A) (i : ℕ) (x : A) → position p xs ≡ Some i → x ≡ get_or xs i x → (Some x ≡ find p xs) × (remove xs i ≡ without_first p xs)
taken_at {A} p xs i x place is =
    let found = position-Some p xs i x place in
    let both = at_place p xs i x found.0 found.1 found.2 in
    (ap (λ (y : A). Some y) is ∙ sym both.0, both.1)

-- ---- in pieces

pub any_joined : (p : Entry → Bool) (pieces : List (List Entry)) → list_any (list_any p) pieces ≡ list_any p (joined pieces)
any_joined p [] = refl
any_joined p (x ∷ xs) = ap (λ (b : Bool). list_any p x || b) (any_joined p xs) ∙ sym (any_append p x (joined xs))

in_piece : (p : Entry → Bool) (pieces : List (List Entry)) (i : ℕ) (d : List Entry) → i < length pieces → list_any p (get_or pieces i d) ≡ true → ((k : ℕ) → k < i → list_any p (get_or pieces k d) ≡ false)
    → (find p (joined pieces) ≡ find p (get_or pieces i d)) × (joined (set pieces i (without_first p (get_or pieces i d))) ≡ without_first p (joined pieces))
in_piece p [] i d below here before = absurd (omega arith)
in_piece p (x ∷ xs) zero d below here before = (find_front p x (joined xs) here, sym (without_front p x (joined xs) here))
in_piece p (x ∷ xs) (suc i) d below here before =
    let later = in_piece p xs i d (omega arith) here (λ k less. before (suc k) (omega arith)) in
    let first : list_any p x ≡ false = before zero (omega arith) in
    (find_behind p x (joined xs) first ∙ later.0, ap (λ (zs : List Entry). x ++ zs) later.1 ∙ sym (without_behind p x (joined xs) first))

pub taken_in : (p : Entry → Bool) (pieces : List (List Entry)) (i : ℕ) (d : List Entry) → position (list_any p) pieces ≡ Some i
    → (find p (joined pieces) ≡ find p (get_or pieces i d)) × (joined (set pieces i (without_first p (get_or pieces i d))) ≡ without_first p (joined pieces))
taken_in p pieces i d place = let found = position-Some (list_any p) pieces i d place in in_piece p pieces i d found.0 found.1 found.2

-- pieces of which nothing is left count for nothing
pub joined_some : (pieces : List (List Entry)) → joined (filter has_some pieces) ≡ joined pieces
joined_some [] = refl
joined_some ([] ∷ xs) = joined_some xs
joined_some ((y ∷ ys) ∷ xs) = ap (λ (zs : List Entry). y ∷ (ys ++ zs)) (joined_some xs)
