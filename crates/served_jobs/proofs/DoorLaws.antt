-- A door's clients, one after another.
use Rattle.std.proofs.Common.{◌≡◌, ℕ, ◌+◌, ◌≤◌, inl, inr, Bool, true, false, List, [], ◌∷◌, ◌++◌, length, map, Option, Some, None, MatchOption, refl, sym, ◌∙◌, ap, subst, arith, append_assoc, append-nil, length-append}
use Rattle.std.specs.Option.{option_map}
use Rattle.std.proofs.lemmas.Bool.{cases_lt}
use Rattle.std.proofs.lemmas.List.{map-append}
use Rattle.cs_base.specs.Faults.{HasRisen}
use Rattle.node_lock.specs.Views.{PassView}
use Rattle.node_lock.specs.Stepped.{IsSamePass}
use Rattle.served_jobs.specs.Doorways.{AreVisits, none, more, link_back, ServesDoor, ServesUntil}
use Rattle.served_jobs.specs.Visits.{Visit}

-- ---- passes and counts

pub pass_stays : {E : Type 0} → (v : PassView E) → IsSamePass v v
pass_stays v = record { number = refl; owned = refl; seats = refl }

pub same_pass_then : {E : Type 0} → (u v w : PassView E) → IsSamePass u v → IsSamePass v w → IsSamePass u w
same_pass_then u v w h k = record { number = k.number ∙ h.number; owned = k.owned ∙ h.owned; seats = k.seats ∙ h.seats }

risen_later : (before mid now : ℕ) → before ≤ mid → mid ≤ now → HasRisen mid now → HasRisen before now
risen_later before mid now p q (inl r) = inl (omega arith)
risen_later before mid now p q (inr r) = elim (cases_lt before now) [ inl less ↦ inl less | inr not_less ↦ inr (omega arith) ]

given_still : (o : Option ℕ) → o ≡ option_map (λ (n : ℕ). n + 0) o
given_still None = refl
given_still (Some n) = ap (λ (k : ℕ). Some k) (omega arith)

given_twice : (o : Option ℕ) (a b c : ℕ) → c ≡ a + b → option_map (λ (n : ℕ). n + b) (option_map (λ (n : ℕ). n + a) o) ≡ option_map (λ (n : ℕ). n + c) o
given_twice None a b c e = refl
given_twice (Some n) a b c e = ap (λ (k : ℕ). Some k) (omega (arith, e))

back_still : {L : Type 0} → (o : Option (List L)) → o ≡ option_map (λ (links : List L). links ++ []) o
back_still None = refl
back_still {L} (Some links) = ap (λ (ls : List L). Some ls) (sym (append-nil links))

back_twice : {L : Type 0} → (o : Option (List L)) (a b c : List L) → c ≡ a ++ b
    → option_map (λ (links : List L). links ++ b) (option_map (λ (links : List L). links ++ a) o) ≡ option_map (λ (links : List L). links ++ c) o
back_twice None a b c e = refl
back_twice {L} (Some links) a b c e = ap (λ (ls : List L). Some ls) (append_assoc links a b ∙ ap (λ (ls : List L). links ++ ls) (sym e))

-- ---- visits

module _ {E L : Type 0} (IsVisit : PassView E → Visit L → PassView E → Type 0) where
  visits_then : (u v w : PassView E) (xs ys : List (Visit L)) → AreVisits IsVisit u xs v → AreVisits IsVisit v ys w → AreVisits IsVisit u (xs ++ ys) w
  visits_then u v _ xs _ h none = subst (λ (zs : List (Visit L)). AreVisits IsVisit u zs v) (sym (append-nil xs)) h
  visits_then u v _ xs _ h (more ys x w y k is) =
      subst (λ (zs : List (Visit L)). AreVisits IsVisit u zs y) (append_assoc xs ys (x ∷ [])) (more (xs ++ ys) x w y (visits_then u v w xs ys h k) is)

module _ {E L D : Type 0} (IsVisit : PassView E → Visit L → PassView E → Type 0) (given : D → Option ℕ) (returned : D → Option (List L)) (faults : D → ℕ) where
  pub serves_none : (door door' : D) (v : PassView E) → given door' ≡ given door → returned door' ≡ returned door → faults door ≤ faults door'
      → ServesDoor IsVisit given returned faults door v door' v
  serves_none door door' v same_given same_back counted = record {
    visits = [];
    are_visits = none;
    all_given = same_given ∙ given_still (given door);
    all_back = same_back ∙ back_still (returned door);
    counted = counted;
  }

  pub serves_then : (door mid door' : D) (u v w : PassView E) → ServesDoor IsVisit given returned faults door u mid v → ServesDoor IsVisit given returned faults mid v door' w
      → ServesDoor IsVisit given returned faults door u door' w
  serves_then door mid door' u v w h k = record {
    visits = h.visits ++ k.visits;
    are_visits = visits_then IsVisit u v w h.visits k.visits h.are_visits k.are_visits;
    all_given =
        k.all_given ∙ ap (λ (o : Option ℕ). option_map (λ (n : ℕ). n + length k.visits) o) h.all_given
        ∙ given_twice (given door) (length h.visits) (length k.visits) (length (h.visits ++ k.visits)) (length-append h.visits k.visits);
    all_back =
        k.all_back ∙ ap (λ (o : Option (List L)). option_map (λ (links : List L). links ++ map link_back k.visits) o) h.all_back
        ∙ back_twice (returned door) (map link_back h.visits) (map link_back k.visits) (map link_back (h.visits ++ k.visits)) (map-append link_back h.visits k.visits);
    counted = omega (arith, h.counted, k.counted);
  }

  -- while the door has not failed
  pub serves_well : (door door' : D) (v w : PassView E) → ServesDoor IsVisit given returned faults door v door' w → ServesUntil IsVisit given returned faults door v door' w false
  serves_well door door' v w h = record { serves = h; failed = λ e. cc }

  pub serves_until : (door mid door' : D) (u v w : PassView E) (failed : Bool) → ServesDoor IsVisit given returned faults door u mid v → ServesUntil IsVisit given returned faults mid v door' w failed
      → ServesUntil IsVisit given returned faults door u door' w failed
  serves_until door mid door' u v w failed h k = record {
    serves = serves_then door mid door' u v w h k.serves;
    failed = λ e. risen_later (faults door) (faults mid) (faults door') h.counted k.serves.counted (k.failed e);
  }

  -- the door failed at last
  pub serves_failed : (door mid door' : D) (u v w : PassView E) (failed : Bool) → failed ≡ true → ServesDoor IsVisit given returned faults door u mid v → ServesUntil IsVisit given returned faults mid v door' w failed
      → ServesUntil IsVisit given returned faults door u door' w true
  serves_failed door mid door' u v w failed is h k =
      let P : Bool → Type 0 = λ b. ServesUntil IsVisit given returned faults door u door' w b in subst P is (serves_until door mid door' u v w failed h k)

  -- ---- what the door found

  -- the count of links that were given, behind a call that found this
  abbrev Counts : Option L → D → D → Type 0
  Counts found door door' = MatchOption found (given door' ≡ given door) (λ _. given door' ≡ option_map (λ (n : ℕ). n + 1) (given door))

  pub nobody_came : (found : Option L) (door door' : D) (v : PassView E) → found ≡ None → Counts found door door' → returned door' ≡ returned door → faults door ≤ faults door'
      → ServesUntil IsVisit given returned faults door v door' v false
  nobody_came found door door' v is counts same_back counted =
      let P : Option L → Type 0 = λ o. Counts o door door' in
      serves_well door door' v v (serves_none door door' v (subst P is counts) same_back counted)

  pub door_failed : (door door' : D) (v : PassView E) → given door' ≡ given door → returned door' ≡ returned door → faults door ≤ faults door' → HasRisen (faults door) (faults door')
      → ServesUntil IsVisit given returned faults door v door' v true
  door_failed door door' v same_given same_back counted risen = record { serves = serves_none door door' v same_given same_back counted; failed = λ e. risen }

  pub one_came : (found : Option L) (link : L) (door mid door' : D) (v w : PassView E) (x : Visit L) → found ≡ Some link → Counts found door mid → returned mid ≡ returned door → faults door ≤ faults mid
      → IsVisit v x w → returned door' ≡ option_map (λ (links : List L). links ++ x.went ∷ []) (returned mid) → given door' ≡ given mid → faults door' ≡ faults mid
      → ServesUntil IsVisit given returned faults door v door' w false
  one_came found link door mid door' v w x is counts same_back counted visit back same_given same_faults =
      let P : Option L → Type 0 = λ o. Counts o door mid in
      serves_well door door' v w (record {
        visits = x ∷ [];
        are_visits = more [] x v w none visit;
        all_given = same_given ∙ subst P is counts;
        all_back = back ∙ ap (λ (o : Option (List L)). option_map (λ (links : List L). links ++ x.went ∷ []) o) same_back;
        counted = omega (arith, counted, same_faults);
      })
