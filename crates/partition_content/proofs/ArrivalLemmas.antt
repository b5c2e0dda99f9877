-- What is stored keeps its arrival, and what comes has that of now.
use Rattle.std.proofs.Common.{◌≡◌, ℕ, ◌⊎◌, inl, inr, Bool, true, false, cond, List, [], ◌∷◌, ◌++◌, Option, Some, None, Contains, sym, ◌∙◌, ap, subst}
use Rattle.std.specs.Option.{option_to_list}
use Rattle.std.specs.Map.{lookup, set_value}
use Rattle.std.proofs.lemmas.List.Elements.{Contains-append_cases, Contains-append_left, Contains-append_right}
use Rattle.changes.specs.declared.Held.{Held}
use Rattle.changes.specs.Contents.{Either, IsContent, IsReachedBy}
use Rattle.cs_base.proofs.Members.{contains_nil, contains_here, contains_cases}
use Rattle.partition_content.specs.declared.Arrived.{Arrived}
use Rattle.partition_content.specs.declared.spots.Spot.{Spot}
use Rattle.partition_content.specs.Arrivals.{ComeAt}
use Rattle.partition_content.specs.Slots.{stored_of, stored_in, held_in, helds_in, changes_of, AreLeft, ComesIn, ComesAlone, IsReachedAt}
use Rattle.partition_content.proofs.HeldLemmas.{stored_changes}

one_of : (o : Option Arrived) (a : Arrived) → Contains (option_to_list o) a → o ≡ Some a
one_of None a h = absurd (contains_nil a h)
one_of (Some b) a h = elim (contains_cases b [] a h) [ inl e ↦ ap (λ (v : Arrived). Some v) e | inr none ↦ absurd (contains_nil a none) ]

of_one : (o : Option Arrived) (a : Arrived) → o ≡ Some a → Contains (option_to_list o) a
of_one o a e = subst (λ (v : Option Arrived). Contains (option_to_list v) a) (sym e) (contains_here a [])

-- what stands behind the first entry
behind : (o : Option Arrived) (xs ys : List Arrived) (a : Arrived) → Contains (option_to_list o ++ xs) a → (Contains xs a → Contains ys a) → Contains (option_to_list o ++ ys) a
behind o xs ys a h later =
    elim (Contains-append_cases (option_to_list o) xs a h) [
      | inl here ↦ Contains-append_left (option_to_list o) ys a here
      | inr more ↦ Contains-append_right (option_to_list o) ys a (later more)
    ]

-- ---- a value set at a key

set_cases : (b : Bool) (e : Spot × Option Arrived) (es more : List (Spot × Option Arrived)) (w : Option Arrived) (a : Arrived) → (Contains (stored_of more) a → Contains (stored_of es) a ⊎ (w ≡ Some a)) → Contains (stored_of (cond b ((e.0, w) ∷ es) (e ∷ more))) a → Contains (stored_of (e ∷ es)) a ⊎ (w ≡ Some a)
set_cases true e es more w a later h =
    elim (Contains-append_cases (option_to_list w) (stored_of es) a h) [
      | inl here ↦ inr (one_of w a here)
      | inr old ↦ inl (Contains-append_right (option_to_list e.1) (stored_of es) a old)
    ]
set_cases false e es more w a later h =
    elim (Contains-append_cases (option_to_list e.1) (stored_of more) a h) [
      | inl here ↦ inl (Contains-append_left (option_to_list e.1) (stored_of es) a here)
      | inr rest ↦ elim (later rest) [ inl old ↦ inl (Contains-append_right (option_to_list e.1) (stored_of es) a old) | inr is ↦ inr is ]
    ]

-- what is stored then was stored, or is the new value
pub set_stored : (t : Spot → Bool) (es : List (Spot × Option Arrived)) (w : Option Arrived) (a : Arrived) → Contains (stored_of (set_value t es w)) a → Contains (stored_of es) a ⊎ (w ≡ Some a)
set_stored t [] w a h = inl h
set_stored t (e ∷ es) w a h = set_cases (t e.0) e es (set_value t es w) w a (λ k. set_stored t es w a k) h

found_stored : (b : Bool) (e : Spot × Option Arrived) (es : List (Spot × Option Arrived)) (o : Option (Option Arrived)) (a : Arrived) → (stored_in o ≡ Some a → Contains (stored_of es) a) → stored_in (cond b (Some e.1) o) ≡ Some a → Contains (stored_of (e ∷ es)) a
found_stored true e es o a later is = Contains-append_left (option_to_list e.1) (stored_of es) a (of_one e.1 a is)
found_stored false e es o a later is = Contains-append_right (option_to_list e.1) (stored_of es) a (later is)

-- what a look-up finds is stored
pub stored_found : (t : Spot → Bool) (es : List (Spot × Option Arrived)) (a : Arrived) → stored_in (lookup t es) ≡ Some a → Contains (stored_of es) a
stored_found t [] a is = cc
stored_found t (e ∷ es) a is = found_stored (t e.0) e es (lookup t es) a (λ k. stored_found t es a k) is

-- ---- a change that comes

-- x comes where what it outranks has gone
pub comes_after : (time : ℕ) (x : Held) (t : Spot → Bool) (old middle new : List (Spot × Option Arrived)) → (IsReachedBy (changes_of (helds_in old)) x → ⊥) → AreLeft old middle → new ≡ set_value t middle (Some (record { held = x; arrival = time })) → ComesAlone time x old new
comes_after time x t old middle new free left e a h =
    elim (set_stored t middle (Some (record { held = x; arrival = time })) a (subst (λ (l : List (Spot × Option Arrived)). Contains (stored_of l) a) e h)) [
      | inl k ↦ inl (left a k)
      | inr is ↦ let same : a ≡ record { held = x; arrival = time } = cc in inr (free, same)
    ]

-- x comes to its own place, where no other change can reach it
pub comes_own : (time : ℕ) (x : Held) (t : Spot → Bool) (old new : List (Spot × Option Arrived)) (was left : Option Arrived) → lookup t old ≡ Some was → (IsReachedBy (changes_of (helds_in old)) x → IsReachedAt (held_in was) x) → ComesIn time x was left → new ≡ set_value t old left → ComesAlone time x old new
comes_own time x t old new was left found own (inl same) e a h =
    elim (set_stored t old left a (subst (λ (l : List (Spot × Option Arrived)). Contains (stored_of l) a) e h)) [
      | inl k ↦ inl k
      | inr is ↦ inl (stored_found t old a (ap stored_in found ∙ sym same ∙ is))
    ]
comes_own time x t old new was left found own (inr (free, is)) e a h =
    elim (set_stored t old left a (subst (λ (l : List (Spot × Option Arrived)). Contains (stored_of l) a) e h)) [
      | inl k ↦ inl k
      | inr now ↦
          let both : Some a ≡ Some (record { held = x; arrival = time }) = sym now ∙ is in
          let same : a ≡ record { held = x; arrival = time } = cc in inr (λ r. free (own r), same)
    ]

-- ---- one after another

-- all that has come so far came at this time, to where it was not
abbrev pub HaveCome : ℕ → List (Spot × Option Arrived) → List (Spot × Option Arrived) → Type 0
HaveCome time start now =
    (a : Arrived) → Contains (stored_of now) a → Contains (stored_of start) a ⊎ ((Contains (changes_of (helds_in start)) a.held → ⊥) × (a.arrival ≡ time))

pub come_more : (time : ℕ) (start before now : List (Spot × Option Arrived)) (front : List Held) (x : Held) → IsContent (changes_of (helds_in before)) (Either (Contains (changes_of (helds_in start))) (Contains front)) → HaveCome time start before → ComesAlone time x before now → HaveCome time start now
come_more time start before now front x content so_far one a h =
    elim (one a h) [
      | inl k ↦ so_far a k
      | inr (free, is) ↦ inr (
        λ there. free (content.reached x (inl (subst (λ (v : Arrived). Contains (changes_of (helds_in start)) v.held) is there))),
        ap (λ (v : Arrived). v.arrival) is,
      )
    ]

pub come_at : (time : ℕ) (old new : List (Spot × Option Arrived)) → HaveCome time old new → ComeAt time (stored_of old) (stored_of new)
come_at time old new come a h =
    elim (come a h) [
      | inl k ↦ inl k
      | inr (free, is) ↦ inr (λ there. free (subst (λ (l : List Held). Contains l a.held) (stored_changes old) there), is)
    ]
