-- Whose entries a history has, and what was taken from which link.
use Rattle.std.proofs.Common.{◌≡◌, ◌≢◌, ◌⊎◌, ℕ, zero, suc, ◌+◌, ◌<◌, inl, inr, Bool, true, false, Some, List, [], ◌∷◌, Contains, length, refl, sym, subst, arith, eq-eqb}
use Rattle.std.specs.Prelude.{◌==◌, if◌then◌else◌, slice_get}
use Rattle.std.specs.List.{AllByRecursion}
use Rattle.std.proofs.lemmas.List.Elements.{Contains-append_right}
use mathlib.Core.Logic.{dite}
use native.Mathlib.Decide.{ℕ_discrete}
use Rattle.cs_base.proofs.Members.{contains_cases, contains_from_map, contains_here, contains_nil, contains_there}
use Rattle.node_links.specs.Ends.{taken_by}
use Rattle.node_links.specs.declared.ends.Receiver.{Receiver}
use Rattle.node_lock.specs.Histories.{entries_by}
use Rattle.node_lock.specs.Views.{PassView}
use Rattle.node_workers.specs.Taking.{from_place, TakeFrom}
use Rattle.served_seats.specs.Seats.{made_by}

pub all_of : {X : Type 0} (P : X → Type 0) (xs : List X) (x : X) → AllByRecursion P xs → Contains xs x → P x
all_of P [] x all h = absurd (contains_nil x h)
all_of P (y ∷ xs) x all h = elim (contains_cases y xs x h) [ inl same ↦ subst P same all.0 | inr rest ↦ all_of P xs x all.1 rest ]

-- ---- entries by number

module _ {E : Type 0} where
  there_too : (x : ℕ × E) (found : List E) (n : ℕ) (e : E) (b : Bool) → Contains found e → Contains (if b then x.1 ∷ found else found) e
  there_too x found n e true h = contains_there x.1 found e h
  there_too x found n e false h = h

  pub in_entries : (history : List (ℕ × E)) (x : ℕ × E) → Contains history x → Contains (entries_by x.0 history) x.1
  in_entries [] x h = absurd (contains_nil x h)
  in_entries (y ∷ ys) x h = elim (contains_cases y ys x h) [
    | inl same ↦ subst (λ (z : ℕ × E). Contains (entries_by z.0 (y ∷ ys)) z.1) same
        (subst (λ (b : Bool). Contains (if b then y.1 ∷ entries_by y.0 ys else entries_by y.0 ys) y.1) (sym (eq-eqb y.0 y.0 refl)) (contains_here y.1 (entries_by y.0 ys)))
    | inr rest ↦ there_too y (entries_by x.0 ys) x.0 x.1 (y.0 == x.0) (in_entries ys x rest)
  ]

  found_by : (vs : List (PassView E)) (n : ℕ) → ((v : PassView E) × Contains vs v × (v.number ≡ n)) ⊎ AllByRecursion (λ (v : PassView E). v.number ≢ n) vs
  found_by [] n = inr tt
  found_by (v ∷ vs) n = dite (ℕ_discrete v.number n)
      (λ same. inl (v, contains_here v vs, same))
      (λ other. elim (found_by vs n) [
        | inl h ↦ inl (h.0, contains_there v vs h.0 h.1, h.2)
        | inr none ↦ inr (other, none)
      ])

  -- what holds of all that the passes have made holds of each entry
  pub each_entry : (history : List (ℕ × E)) (vs : List (PassView E)) → AllByRecursion (λ (v : PassView E). entries_by v.number history ≡ made_by v) vs
      → ((n : ℕ) → AllByRecursion (λ (v : PassView E). v.number ≢ n) vs → entries_by n history ≡ [])
      → (Q : E → Type 0) → ((v : PassView E) → Contains vs v → (y : ℕ × E) → Contains v.mine y → Q y.1) → (x : ℕ × E) → Contains history x → Q x.1
  each_entry history vs each none_else Q made x h = elim (found_by vs x.0) [
    | inl (v, is_one, number) ↦
        let mine : Contains (made_by v) x.1 =
        subst (λ (es : List E). Contains es x.1) (all_of (λ (w : PassView E). entries_by w.number history ≡ made_by w) vs v each is_one)
        (subst (λ (n : ℕ). Contains (entries_by n history) x.1) (sym number) (in_entries history x h)) in
        let from = contains_from_map (λ (y : ℕ × E). y.1) v.mine x.1 mine in
        subst Q from.2 (made v is_one from.0 from.1)
    | inr none ↦ absurd (contains_nil x.1 (subst (λ (es : List E). Contains es x.1) (none_else x.0 none) (in_entries history x h)))
  ]

-- ---- what was taken

module _ {M : Type 0} where
  placed_too : (x : ℕ × M) (found : List M) (m : M) (b : Bool) → Contains found m → Contains (if b then x.1 ∷ found else found) m
  placed_too x found m true h = contains_there x.1 found m h
  placed_too x found m false h = h

  in_place : (taken : List (ℕ × M)) (x : ℕ × M) → Contains taken x → Contains (from_place x.0 taken) x.1
  in_place [] x h = absurd (contains_nil x h)
  in_place (y ∷ ys) x h = elim (contains_cases y ys x h) [
    | inl same ↦ subst (λ (z : ℕ × M). Contains (from_place z.0 (y ∷ ys)) z.1) same
        (subst (λ (b : Bool). Contains (if b then y.1 ∷ from_place y.0 ys else from_place y.0 ys) y.1) (sym (eq-eqb y.0 y.0 refl)) (contains_here y.1 (from_place y.0 ys)))
    | inr rest ↦ placed_too y (from_place x.0 ys) x.1 (y.0 == x.0) (in_place ys x rest)
  ]

  -- what was taken at a place was taken by the receiver there
  pub take_has : (rs : List (Receiver M)) (first : ℕ) (taken : List (ℕ × M)) (rs' : List (Receiver M)) → TakeFrom first rs taken rs' → (j : ℕ) (x : ℕ × M) → j < length rs → x.0 ≡ first + j → Contains taken x
      → (r : Receiver M) × (slice_get rs' j ≡ Some r) × Contains (taken_by r) x.1
  take_has [] first taken rs' take j x below is h = absurd (omega (arith, below))
  take_has (r ∷ rs) first taken [] take j x below is h = absurd take
  take_has (r ∷ rs) first taken (r' ∷ rs') take zero x below is h =
      let same : x.0 ≡ first = omega (arith, is) in (
        r',
        refl,
        subst (λ (ms : List M). Contains ms x.1) (sym take.1)
            (Contains-append_right (taken_by r) (from_place first taken) x.1 (subst (λ (n : ℕ). Contains (from_place n taken) x.1) same (in_place taken x h))),
      )
  take_has (r ∷ rs) first taken (r' ∷ rs') take (suc j) x below is h = take_has rs (suc first) taken rs' take.2 j x (omega (arith, below)) (omega (arith, is)) h
