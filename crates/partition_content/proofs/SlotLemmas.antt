-- What the tree holds, as the list of its changes.
use Rattle.std.proofs.Common.{◌≡◌, ℕ, ◌+◌, ◌⊎◌, inl, inr, List, [], ◌∷◌, Option, Some, None, Contains, sym, ◌∙◌, ap, subst, arith}
use Rattle.std.specs.Option.{option_to_list}
use Rattle.std.specs.List.{sum_by}
use Rattle.std.specs.Map.{keys_of}
use Rattle.std.proofs.lemmas.List.Elements.{Contains-append_cases, Contains-append_left, Contains-append_right}
use Rattle.std.proofs.lemmas.List.Sums.{sum_by-append, sum_by-cons}
use Rattle.changes.specs.declared.Held.{Held}
use Rattle.changes.specs.Lengths.{held_length}
use Rattle.changes.specs.Order.{Outranks}
use Rattle.cs_base.proofs.Members.{contains_nil, contains_here, contains_there, contains_cases}
use Rattle.partition_content.specs.declared.spots.Spot.{Spot}
use Rattle.partition_content.specs.declared.spots.Spot.TheVariants.{At}
use Rattle.partition_content.specs.Slots.{changes_of, AreFiled, IsCleared, AreCleared, IsCountedWith, IsLengthOf}

abbrev Entry : Type 0
Entry = Spot × Option Held

-- the change in a slot is lost if x outranks it
abbrev pub IsLostWith : Held → Option Held → ℕ → ℕ → Type 0
IsLostWith x o rest all = IsCountedWith (λ y. Outranks x y) o rest all

-- the changes that x outranks have this length
abbrev pub AreLost : Held → List (Spot × Option Held) → ℕ → Type 0
AreLost x es all = IsLengthOf (λ y. Outranks x y) es all

-- ---- the list of changes

one_of : (o : Option Held) (x : Held) → Contains (option_to_list o) x → o ≡ Some x
one_of None x h = absurd (contains_nil x h)
one_of (Some y) x h = elim (contains_cases y [] x h) [ inl e ↦ ap (λ (v : Held). Some v) e | inr none ↦ absurd (contains_nil x none) ]

of_one : (o : Option Held) (x : Held) → o ≡ Some x → Contains (option_to_list o) x
of_one o x e = subst (λ (v : Option Held). Contains (option_to_list v) x) (sym e) (contains_here x [])

pub from_changes : (es : List (Spot × Option Held)) (x : Held) → Contains (changes_of es) x → (s : Spot) × Contains es (s, Some x)
from_changes [] x h = absurd (contains_nil x h)
from_changes (e ∷ es) x h =
    elim (Contains-append_cases (option_to_list e.1) (changes_of es) x h) [
      | inl here ↦ (e.0, subst (λ (v : Option Held). Contains {X = Spot × Option Held} (e ∷ es) (e.0, v)) (one_of e.1 x here) (contains_here {X = Spot × Option Held} e es))
      | inr later ↦ let r : (s : Spot) × Contains es (s, Some x) = from_changes es x later in (r.0, contains_there {X = Spot × Option Held} e es (r.0, Some x) r.1)
    ]

pub to_changes : (es : List (Spot × Option Held)) (s : Spot) (x : Held) → Contains es (s, Some x) → Contains (changes_of es) x
to_changes [] s x h = absurd (contains_nil {X = Spot × Option Held} (s, Some x) h)
to_changes (e ∷ es) s x h =
    elim (contains_cases {X = Spot × Option Held} e es (s, Some x) h) [
      | inl same ↦ Contains-append_left (option_to_list e.1) (changes_of es) x (of_one e.1 x (ap (λ (p : Spot × Option Held). p.1) same))
      | inr later ↦ Contains-append_right (option_to_list e.1) (changes_of es) x (to_changes es s x later)
    ]

-- a change that is there stands at its place
pub at_place : (es : List (Spot × Option Held)) → AreFiled es → (x : Held) → Contains (changes_of es) x → Contains es (At x.place, Some x)
at_place es filed x h =
    let f = from_changes es x h in
    subst (λ (s : Spot). Contains {X = Spot × Option Held} es (s, Some x)) (filed f.0 x f.1) f.1

-- ---- clearing

pub cleared_keys : (x : Held) (es fs : List (Spot × Option Held)) → AreCleared x es fs → keys_of fs ≡ keys_of es
cleared_keys x [] fs h = ap keys_of h
cleared_keys x (e ∷ es) fs (slot, rest, one, more, split) = ap keys_of split ∙ ap (λ (l : List Spot). e.0 ∷ l) (cleared_keys x es rest more)

pub left_in : (x : Held) (old new : Option Held) (y : Held) → IsCleared x old new → new ≡ Some y → (old ≡ Some y) × (Outranks x y → ⊥)
left_in x None new y none e = cc
left_in x (Some z) new y (inl (over, none)) e = cc
left_in x (Some z) new y (inr (free, same)) e = let is : z ≡ y = cc in (ap (λ (v : Held). Some v) is, subst (λ (v : Held). Outranks x v → ⊥) is free)

kept_in : (x : Held) (old new : Option Held) (y : Held) → IsCleared x old new → old ≡ Some y → (new ≡ Some y) ⊎ Outranks x y
kept_in x None new y none e = cc
kept_in x (Some z) new y (inl (over, none)) e = let is : z ≡ y = cc in inr (subst (Outranks x) is over)
kept_in x (Some z) new y (inr (free, same)) e = inl (same ∙ e)

pub cleared_from : (x : Held) (es fs : List (Spot × Option Held)) → AreCleared x es fs → (s : Spot) (y : Held) → Contains fs (s, Some y) → Contains es (s, Some y) × (Outranks x y → ⊥)
cleared_from x [] fs h s y k = absurd (contains_nil {X = Spot × Option Held} (s, Some y) (subst (λ (l : List (Spot × Option Held)). Contains l (s, Some y)) h k))
cleared_from x (e ∷ es) fs (slot, rest, one, more, split) s y k =
    elim (contains_cases {X = Spot × Option Held} (e.0, slot) rest (s, Some y) (subst (λ (l : List (Spot × Option Held)). Contains l (s, Some y)) split k)) [
      | inl same ↦
          let was = left_in x e.1 slot y one (ap (λ (p : Spot × Option Held). p.1) same) in
          let key : e.0 ≡ s = ap (λ (p : Spot × Option Held). p.0) same in (
            subst (λ (q : Spot). Contains {X = Spot × Option Held} (e ∷ es) (q, Some y)) key (subst (λ (v : Option Held). Contains {X = Spot × Option Held} (e ∷ es) (e.0, v)) was.0 (contains_here {X = Spot × Option Held} e es)),
            was.1,
          )
      | inr later ↦ let r = cleared_from x es rest more s y later in (contains_there {X = Spot × Option Held} e es (s, Some y) r.0, r.1)
    ]

pub cleared_to : (x : Held) (es fs : List (Spot × Option Held)) → AreCleared x es fs → (s : Spot) (y : Held) → Contains es (s, Some y) → Contains fs (s, Some y) ⊎ Outranks x y
cleared_to x [] fs h s y k = absurd (contains_nil {X = Spot × Option Held} (s, Some y) k)
cleared_to x (e ∷ es) fs (slot, rest, one, more, split) s y k =
    elim (contains_cases {X = Spot × Option Held} e es (s, Some y) k) [
      | inl same ↦
          let key : e.0 ≡ s = ap (λ (p : Spot × Option Held). p.0) same in
          elim (kept_in x e.1 slot y one (ap (λ (p : Spot × Option Held). p.1) same)) [
            | inl is ↦ inl (subst (λ (l : List (Spot × Option Held)). Contains l (s, Some y)) (sym split)
                (subst (λ (q : Spot). Contains {X = Spot × Option Held} ((e.0, slot) ∷ rest) (q, Some y)) key
                (subst (λ (v : Option Held). Contains {X = Spot × Option Held} ((e.0, slot) ∷ rest) (e.0, v)) is (contains_here {X = Spot × Option Held} (e.0, slot) rest))))
            | inr over ↦ inr over
          ]
      | inr later ↦ elim (cleared_to x es rest more s y later) [
        | inl still ↦ inl (subst (λ (l : List (Spot × Option Held)). Contains l (s, Some y)) (sym split) (contains_there {X = Spot × Option Held} (e.0, slot) rest (s, Some y) still))
        | inr over ↦ inr over
      ]
    ]

-- ---- lengths

length_of : List Held → ℕ
length_of xs = sum_by held_length xs

pub sum_changes : (e : Spot × Option Held) (es : List (Spot × Option Held)) → sum_by held_length (changes_of (e ∷ es)) ≡ sum_by held_length (option_to_list e.1) + sum_by held_length (changes_of es)
sum_changes e es = sum_by-append held_length (option_to_list e.1) (changes_of es)

cleared_length : (x : Held) (old new : Option Held) (a b m n : ℕ) → IsCleared x old new → IsLostWith x old m n → a + m ≡ b → sum_by held_length (option_to_list new) + a + n ≡ sum_by held_length (option_to_list old) + b
cleared_length x None new a b m n none lost sum = let e = ap (λ (o : Option Held). sum_by held_length (option_to_list o)) none in omega (arith, e, lost, sum)
cleared_length x (Some y) new a b m n (inl (over, none)) (inl (_, lost)) sum =
    let e = ap (λ (o : Option Held). sum_by held_length (option_to_list o)) none in
    let f = sum_by-cons held_length y [] in omega (arith, e, f, lost, sum)
cleared_length x (Some y) new a b m n (inl (over, none)) (inr (free, _)) sum = absurd (free over)
cleared_length x (Some y) new a b m n (inr (free, same)) (inl (over, _)) sum = absurd (free over)
cleared_length x (Some y) new a b m n (inr (free, same)) (inr (_, lost)) sum =
    let e = ap (λ (o : Option Held). sum_by held_length (option_to_list o)) same in omega (arith, e, lost, sum)

-- what is left and what is lost are what was there
pub lost_length : (x : Held) (es fs : List (Spot × Option Held)) (n : ℕ) → AreCleared x es fs → AreLost x es n → sum_by held_length (changes_of fs) + n ≡ sum_by held_length (changes_of es)
lost_length x [] fs n h lost = let e = ap (λ (l : List (Spot × Option Held)). sum_by held_length (changes_of l)) h in omega (arith, e, lost)
lost_length x (e ∷ es) fs n (slot, rest, one, more, split) (m, fewer, lost) =
    let ih = lost_length x es rest m more fewer in
    let here = cleared_length x e.1 slot (sum_by held_length (changes_of rest)) (sum_by held_length (changes_of es)) m n one lost ih in
    let new : sum_by held_length (changes_of fs) ≡ sum_by held_length (option_to_list slot) + sum_by held_length (changes_of rest) =
    ap (λ (l : List (Spot × Option Held)). sum_by held_length (changes_of l)) split ∙ sum_changes (e.0, slot) rest in
    let old = sum_changes e es in omega (arith, here, new, old)
