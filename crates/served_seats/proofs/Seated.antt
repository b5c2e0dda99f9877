-- What holds of passes that have kept their numbers and seats.
use Rattle.std.proofs.Common.{◌≡◌, ◌≢◌, ℕ, zero, suc, ◌+◌, ◌<◌, List, [], ◌∷◌, ◌++◌, Result, Ok, Err, IfOk, refl, sym, ◌∙◌, subst, arith, append-nil}
use Rattle.std.specs.Prelude.{IfErr}
use Rattle.std.specs.List.{All, AllByRecursion, AllZip}
use Rattle.node_lock.specs.Stepped.{IsSamePass, Finds, Steps}
use Rattle.node_lock.specs.Views.{PassView}
use Rattle.node_lock.specs.declared.answers.Receipt.{Receipt}
use Rattle.served_seats.specs.Seats.{fresh, fresh_from, IsOwn, seats_in, AreApart, SamePassesHaveAllSeats}

module _ {A : Type 0} (P : A → Type 0) where
  pub all_in_order : (xs : List A) → All P xs → AllByRecursion P xs
  all_in_order [] all = tt
  all_in_order (x ∷ xs) all = (all 0 x (omega arith), all_in_order xs (λ k d lt. all (suc k) d (omega arith)))

  pub all_more : (xs ys : List A) → AllByRecursion P xs → AllByRecursion P ys → AllByRecursion P (xs ++ ys)
  all_more [] ys a b = b
  all_more (x ∷ xs) ys a b = (a.0, all_more xs ys a.1 b)

-- ---- the seats and the numbers of fresh passes

pub seats_fresh : (E : Type 0) (number count : ℕ) → seats_in {E = E} (fresh_from number count) ≡ count
seats_fresh E number zero = refl
seats_fresh E number (suc count) = omega (arith, seats_fresh E (suc number) count)

not_among : (E : Type 0) (n number count : ℕ) → n < number → AllByRecursion (λ (v : PassView E). v.number ≢ n) (fresh_from number count)
not_among E n number zero below = tt
not_among E n number (suc count) below = ((λ e. absurd (omega arith)), not_among E n (suc number) count (omega arith))

pub apart_fresh : (E : Type 0) (number count : ℕ) → AreApart {E = E} (fresh_from number count)
apart_fresh E number zero = tt
apart_fresh E number (suc count) = (not_among E number (suc number) count (omega arith), apart_fresh E (suc number) count)

pub own_fresh : (E : Type 0) (number count : ℕ) → AllByRecursion IsOwn (fresh_from {E = E} number count)
own_fresh E number zero = tt
own_fresh E number (suc count) = (tt, own_fresh E (suc number) count)

module _ {E : Type 0} where
  -- ---- those that passes keep

  pub seats_same : (vs ws : List (PassView E)) → AllZip IsSamePass vs ws → seats_in ws ≡ seats_in vs
  seats_same [] [] same = refl
  seats_same [] (w ∷ ws) same = absurd same
  seats_same (v ∷ vs) [] same = absurd same
  seats_same (v ∷ vs) (w ∷ ws) same = λ i. same.0.seats i + seats_same vs ws same.1 i

  others_same : (n : ℕ) (vs ws : List (PassView E)) → AllZip IsSamePass vs ws → AllByRecursion (λ (v : PassView E). v.number ≢ n) vs → AllByRecursion (λ (w : PassView E). w.number ≢ n) ws
  others_same n [] [] same all = tt
  others_same n [] (w ∷ ws) same all = absurd same
  others_same n (v ∷ vs) [] same all = absurd same
  others_same n (v ∷ vs) (w ∷ ws) same all = ((λ e. all.0 (sym same.0.number ∙ e)), others_same n vs ws same.1 all.1)

  pub apart_same : (vs ws : List (PassView E)) → AllZip IsSamePass vs ws → AreApart vs → AreApart ws
  apart_same [] [] same apart = tt
  apart_same [] (w ∷ ws) same apart = absurd same
  apart_same (v ∷ vs) [] same apart = absurd same
  apart_same (v ∷ vs) (w ∷ ws) same apart =
      (subst (λ (n : ℕ). AllByRecursion (λ (u : PassView E). u.number ≢ n) ws) (sym same.0.number) (others_same v.number vs ws same.1 apart.0), apart_same vs ws same.1 apart.1)

  pub same_chain : (v w x : PassView E) → IsSamePass v w → IsSamePass w x → IsSamePass v x
  same_chain v w x a b = record { number = b.number ∙ a.number; owned = b.owned ∙ a.owned; seats = b.seats ∙ a.seats }

  -- what passes keep for a while and then for another, they keep
  pub all_same_chain : (vs ws xs : List (PassView E)) → AllZip IsSamePass vs ws → AllZip IsSamePass ws xs → AllZip IsSamePass vs xs
  all_same_chain [] [] [] a b = tt
  all_same_chain [] [] (x ∷ xs) a b = absurd b
  all_same_chain [] (w ∷ ws) xs a b = absurd a
  all_same_chain (v ∷ vs) [] xs a b = absurd a
  all_same_chain (v ∷ vs) (w ∷ ws) [] a b = absurd b
  all_same_chain (v ∷ vs) (w ∷ ws) (x ∷ xs) a b = (same_chain v w x a.0 b.0, all_same_chain vs ws xs a.1 b.1)

  -- ---- what a pass made stays its own, where it makes entries under its number

  pub own_more : (v w : PassView E) (made : List (ℕ × E)) → IsSamePass v w → w.mine ≡ v.mine ++ made → AllByRecursion (λ (x : ℕ × E). x.0 ≡ v.number) made → IsOwn v → IsOwn w
  own_more v w made same mine under own =
      subst (λ (n : ℕ). AllByRecursion (λ (x : ℕ × E). x.0 ≡ n) w.mine) (sym same.number)
      (subst (λ (xs : List (ℕ × E)). AllByRecursion (λ (x : ℕ × E). x.0 ≡ v.number) xs) (sym mine) (all_more (λ (x : ℕ × E). x.0 ≡ v.number) v.mine made own under))

module _ {S E Event Reply Refused : Type 0} (steps : S → E → S → Type 0) (event_of : E → Event) (reply_of : E → Reply) where
  -- a step makes an entry under the number of its pass, or none
  pub own_step : (start : S) (v w : PassView E) (event : Event) (result : Result (Receipt Reply) Refused)
      → IfOk result (λ r. Steps steps event_of reply_of start v event r w) → IfErr result (λ _. Finds v w) → IsSamePass v w → IsOwn v → IsOwn w
  own_step start v w event (Ok r) makes finds same own = own_more v w ((v.number, makes.entry) ∷ []) same makes.mine (refl, tt) own
  own_step start v w event (Err refused) makes finds same own = own_more v w [] same (finds.mine ∙ sym (append-nil v.mine)) tt own

-- Fresh passes, at a later time, meet what `close` asks of all seats and of their numbers.
pub same_passes_have_all_seats : (E : Type 0) → SamePassesHaveAllSeats E
same_passes_have_all_seats E others vs same =
    let all : seats_in vs ≡ seats_in (fresh_from {E = E} 0 (suc others)) = seats_same (fresh 0 ∷ fresh_from 1 others) vs same in
    let some = seats_fresh E 0 (suc others) in
    (omega arith, apart_same (fresh 0 ∷ fresh_from 1 others) vs same (apart_fresh E 0 (suc others)))

-- the same, of the passes that `open` gave and what has become of them
pub seated_since_open : {E : Type 0} (others : ℕ) (first first' : PassView E) (rest rest' : List (PassView E))
    → first ≡ fresh 0 → rest ≡ fresh_from 1 others → IsSamePass first first' → AllZip IsSamePass rest rest' → (seats_in (first' ∷ rest') ≡ others + 1) × AreApart (first' ∷ rest')
seated_since_open {E} others first first' rest rest' is_first are_rest same all_same =
    same_passes_have_all_seats E others (first' ∷ rest')
    (subst (λ (v : PassView E). IsSamePass v first') is_first same, subst (λ (vs : List (PassView E)). AllZip IsSamePass vs rest') are_rest all_same)
