-- Copies of what meets two bounds.
use Rattle.std.proofs.Common.{Bor, ◌≡◌, ◌≢◌, ℕ, ◌⊎◌, ◌↔◌, inl, inr, Bool, true, false, not, List, [], ◌∷◌, ◌++◌, Option, Some, None, Contains, refl, sym, ◌∙◌, ap, subst, append-nil, arith, filter, ◌&&◌, cond, ◌==◌, IsTrue, eqb-true, eq-eqb}
use Rattle.std.specs.Option.{option_to_list, option_copied}
use Rattle.std.specs.Prelude.{IfSome, IfNone}
use Rattle.std.specs.BTreeMap.{get, is_at}
use Rattle.std.specs.BTreeMap.Range.{range_contains}
use Rattle.std.specs.Ordering.{is_le, is_lt, ordering_reverse}
use Rattle.std.specs.declared.cmp.Ordering.{Ordering}
use Rattle.std.specs.declared.cmp.Ordering.TheVariants.{Less, Equal, Greater}
use Rattle.std.specs.declared.ops.Bound.TheVariants.{Excluded, Unbounded}
use Rattle.std.proofs.lemmas.List.Elements.{Contains-append_cases, Contains-append_left, Contains-append_right, Contains-push, Contains-push_cases}
use Rattle.std.proofs.lemmas.List.Sums.{sum_by-cons}
use Rattle.changes.specs.declared.Bound.{Bound}
use Rattle.changes.specs.declared.Held.{Held}
use Rattle.changes.specs.declared.Place.{Place}
use Rattle.changes.specs.declared.Place.TheVariants.{Cell, Marker, RowGone, RangeGone, PartGone}
use Rattle.changes.specs.Contents.{AreApart, IsContent}
use Rattle.changes.specs.Lengths.{held_length, changes_length}
use Rattle.changes.specs.Order.{row_of, bound_signs, end_of, row_signs, signs, signs_cmp, IsBetween, NotAbove}
use Rattle.changes.specs.Queries.{MeetsBounds, IsSlice}
use Rattle.changes.specs.Places.{AreInOrder}
use Rattle.change_laws.proofs.Contents.{IsContent-itself, content_in_order_is_one}
use Rattle.cs_base.proofs.Members.{contains_nil, contains_here, contains_cases, contains_map}
use Rattle.partition_content.specs.declared.Arrived.{Arrived}
use Rattle.partition_content.specs.Arrivals.{held_of, IsVacant}
use Rattle.partition_content.specs.declared.spots.Spot.{Spot}
use Rattle.partition_content.specs.declared.spots.Spot.TheVariants.{At, Edge}
use Rattle.partition_content.specs.Spots.{spot_cmp}
use Rattle.partition_content.specs.SpotLaws.{spot_total}
use Rattle.partition_content.specs.Slots.{SlotTree, stored_of, stored_in, held_in, helds_in, helds_of, slot_at, change_in, changes_of, AreFiled, IsGood}
use Rattle.partition_content.specs.Reading.{first_row, wide_of, rows_of}
use Rattle.partition_content.proofs.SpotLemmas.{edge_stands, signs_total, place_kept}
use Rattle.partition_content.proofs.HeldLemmas.{change-at, stored_changes}
use Rattle.partition_content.proofs.ArrivalLemmas.{stored_found}
use Rattle.partition_content.proofs.PutLemmas.{held_found, found_held}
use Rattle.partition_content.proofs.SlotLemmas.{from_changes, to_changes, at_place}
use Rattle.partition_content.proofs.OrderLemmas.{from_filter, to_filter}
use Rattle.partition_content.proofs.ReachLemmas.{before_rows}

-- new has what old has, and what P tells
abbrev pub Adds : List Held → List Held → (Held → Type 0) → Type 0
Adds old new P = (x : Held) → Contains new x ↔ (Contains old x ⊎ P x)

pub adds_nothing : (old : List Held) (P : Held → Type 0) → ((x : Held) → P x → ⊥) → Adds old old P
adds_nothing old P none x = (λ h. inl h, λ u. elim u [ inl h ↦ h | inr p ↦ absurd (none x p) ])

pub adds_one : (old new : List Held) (y : Held) (P : Held → Type 0) → new ≡ old ++ y ∷ [] → ((x : Held) → P x → y ≡ x) → P y → Adds old new P
adds_one old new y P e only here x = (
  λ h. elim (Contains-push_cases old y x (subst (λ (l : List Held). Contains l x) e h)) [ inl k ↦ inl k | inr is ↦ inr (subst P is here) ],
  λ u. subst (λ (l : List Held). Contains l x) (sym e) (elim u [ inl k ↦ Contains-append_left old (y ∷ []) x k | inr p ↦ subst (Contains (old ++ y ∷ [])) (only x p) (Contains-push old y) ]),
)

-- what a walk has copied so far, and what is left of it
abbrev pub Copies : List Held → List Held → List (Spot × Option Held) → List (Spot × Option Held) → Bound → Bound → Type 0
Copies old now all rest from upto = (x : Held) → (Contains now x ⊎ (Contains (changes_of rest) x × MeetsBounds from upto x.place)) ↔ (Contains old x ⊎ (Contains (changes_of all) x × MeetsBounds from upto x.place))

pub copies_start : (old : List Held) (all it : List (Spot × Option Held)) (from upto : Bound) → it ≡ all → Copies old old all it from upto
copies_start old all it from upto e x = (
  λ u. elim u [ inl k ↦ inl k | inr p ↦ inr (subst (λ (l : List (Spot × Option Held)). Contains (changes_of l) x) e p.0, p.1) ],
  λ u. elim u [ inl k ↦ inl k | inr p ↦ inr (subst (λ (l : List (Spot × Option Held)). Contains (changes_of l) x) (sym e) p.0, p.1) ],
)

in_slot : (o : Option Held) (x : Held) → Contains (option_to_list o) x → o ≡ Some x
in_slot None x h = absurd (contains_nil x h)
in_slot (Some y) x h = elim (contains_cases y [] x h) [ inl e ↦ ap (λ (v : Held). Some v) e | inr none ↦ absurd (contains_nil x none) ]

of_slot : (o : Option Held) (x : Held) → o ≡ Some x → Contains (option_to_list o) x
of_slot o x e = subst (λ (v : Option Held). Contains (option_to_list v) x) (sym e) (contains_here x [])

pub copies_more : (old now new : List Held) (all it rest : List (Spot × Option Held)) (k : Spot) (v : Option Held) (from upto : Bound) → it ≡ (k, v) ∷ rest → Copies old now all it from upto → Adds now new (λ x. (v ≡ Some x) × MeetsBounds from upto x.place) → Copies old new all rest from upto
copies_more old now new all it rest k v from upto split so_far adds x =
    let i = so_far x in
    let here : Contains (changes_of it) x → Contains (option_to_list v ++ changes_of rest) x = λ h. subst (λ (l : List (Spot × Option Held)). Contains (changes_of l) x) split h in
    let back : Contains (option_to_list v ++ changes_of rest) x → Contains (changes_of it) x = λ h. subst (λ (l : List (Spot × Option Held)). Contains (changes_of l) x) (sym split) h in (
      λ u. elim u [
        | inl n ↦ elim ((adds x).0 n) [ inl k ↦ i.0 (inl k) | inr p ↦ i.0 (inr (back (Contains-append_left (option_to_list v) (changes_of rest) x (of_slot v x p.0)), p.1)) ]
        | inr p ↦ i.0 (inr (back (Contains-append_right (option_to_list v) (changes_of rest) x p.0), p.1))
      ],
      λ u. elim (i.1 u) [
        | inl k ↦ inl ((adds x).1 (inl k))
        | inr p ↦ elim (Contains-append_cases (option_to_list v) (changes_of rest) x (here p.0)) [
          | inl one ↦ inl ((adds x).1 (inr (in_slot v x one, p.1)))
          | inr later ↦ inr (later, p.1)
        ]
      ],
    )

pub copies_end : (old now : List Held) (all it : List (Spot × Option Held)) (from upto : Bound) → it ≡ [] → Copies old now all it from upto → Adds old now (λ x. Contains (changes_of all) x × MeetsBounds from upto x.place)
copies_end old now all it from upto none h x = (
  λ k. (h x).0 (inl k),
  λ u. elim ((h x).1 u) [ inl k ↦ k | inr p ↦ absurd (contains_nil x (subst (λ (l : List (Spot × Option Held)). Contains (changes_of l) x) none p.0)) ],
)

-- ---- the rows between two bounds

between_passes : (low high : Ordering) → low ≡ Less → high ≡ Greater → (is_lt low && not (is_le high)) ≡ true
between_passes low high l h = ap (λ (o : Ordering). is_lt o && not (is_le high)) l ∙ ap (λ (o : Ordering). not (is_le o)) h

pub row_passes : (from upto : Bound) (p : Place) (row : List ℕ) → row_of p ≡ Some row → IsBetween from upto row → range_contains spot_cmp (Excluded (Edge from)) (Excluded (Edge upto)) (At p) ≡ true
row_passes from upto p row e h =
    between_passes (spot_cmp (Edge from) (At p)) (spot_cmp (Edge upto) (At p)) (edge_stands from p row e ∙ h.0)
    (edge_stands upto p row e ∙ signs_total.antisymm (bound_signs upto) (row_signs row) ∙ ap ordering_reverse h.1)

-- rows stand between two bounds only where the first is below the second
pub between_forward : (from upto : Bound) (row : List ℕ) → IsBetween from upto row → signs_cmp (bound_signs from) (bound_signs upto) ≡ Less
between_forward from upto row h = signs_total.trans (bound_signs from) (row_signs row) (bound_signs upto) h.0 h.1

row_between : (from upto : Bound) (p : Place) (row : List ℕ) → row_of p ≡ Some row → MeetsBounds from upto p → IsBetween from upto row
row_between from upto (Cell r c) row e h = let same : r ≡ row = cc in subst (IsBetween from upto) same h
row_between from upto (Marker r) row e h = let same : r ≡ row = cc in subst (IsBetween from upto) same h
row_between from upto (RowGone r) row e h = let same : r ≡ row = cc in subst (IsBetween from upto) same h
row_between from upto (RangeGone f u) row e h = cc
row_between from upto PartGone row e h = cc

pub between_meets : (from upto : Bound) (p : Place) (row : List ℕ) → row_of p ≡ Some row → IsBetween from upto row → MeetsBounds from upto p
between_meets from upto (Cell r c) row e h = let same : r ≡ row = cc in subst (IsBetween from upto) (sym same) h
between_meets from upto (Marker r) row e h = let same : r ≡ row = cc in subst (IsBetween from upto) (sym same) h
between_meets from upto (RowGone r) row e h = let same : r ≡ row = cc in subst (IsBetween from upto) (sym same) h
between_meets from upto (RangeGone f u) row e h = cc
between_meets from upto PartGone row e h = cc

-- in bounds that aren't forward no entry is
backward_entry : (from upto : Bound) (s : Spot) → spot_cmp (Edge from) s ≡ Less → spot_cmp (Edge upto) s ≡ Greater → spot_cmp (Edge from) (Edge upto) ≡ Less
backward_entry from upto s low high = spot_total.trans (Edge from) s (Edge upto) low (spot_total.antisymm s (Edge upto) ∙ ap ordering_reverse high)

pub both_pass : (low high : Ordering) → (is_lt low && not (is_le high)) ≡ true → (low ≡ Less) × (high ≡ Greater)
both_pass Less Less h = cc
both_pass Less Equal h = cc
both_pass Less Greater h = (refl, refl)
both_pass Equal o h = cc
both_pass Greater o h = cc

passed_at : (p : Spot × Option Held → Bool) (b : Bool) (e d : Spot × Option Held) (more : List (Spot × Option Held)) → p e ≡ b → (Contains more d → p d ≡ true) → Contains (cond b (e ∷ more) more) d → p d ≡ true
passed_at p false e d more is rest h = rest h
passed_at p true e d more is rest h = elim (contains_cases {X = Spot × Option Held} e more d h) [ inl same ↦ ap p (sym same) ∙ is | inr later ↦ rest later ]

pub passes : (p : Spot × Option Held → Bool) (es : List (Spot × Option Held)) (d : Spot × Option Held) → Contains (filter p es) d → p d ≡ true
passes p [] d h = absurd (contains_nil d h)
passes p (e ∷ es) d h = passed_at p (p e) e d (filter p es) refl (λ k. passes p es d k) h

backward_none : (from upto : Bound) (es : List (Spot × Option Held)) (o : Ordering) → o ≡ signs_cmp (bound_signs from) (bound_signs upto) → o ≢ Less → (x : Held) → Contains (changes_of (rows_of from upto es)) x → ⊥
backward_none from upto es o e other x h =
    let f = from_changes (rows_of from upto es) x h in
    let t = passes (λ (d : Spot × Option Held). range_contains spot_cmp (Excluded (Edge from)) (Excluded (Edge upto)) d.0) es (f.0, Some x) f.1 in
    let b = both_pass (spot_cmp (Edge from) f.0) (spot_cmp (Edge upto) f.0) t in
    other (e ∙ backward_entry from upto f.0 b.0 b.1)

no_items : (xs : List Held) → ((x : Held) → Contains xs x → ⊥) → xs ≡ []
no_items [] none = refl
no_items (x ∷ xs) none = absurd (none x (contains_here x xs))

pub adds_no_rows : (from upto : Bound) (es : List (Spot × Option Held)) (o : Ordering) (old : List Held) → o ≡ signs_cmp (bound_signs from) (bound_signs upto) → o ≢ Less → old ≡ old ++ changes_of (rows_of from upto es)
adds_no_rows from upto es o old e other =
    sym (append-nil old) ∙ ap (λ (l : List Held). old ++ l) (sym (no_items (changes_of (rows_of from upto es)) (backward_none from upto es o e other)))

part_of : (from upto : Bound) (es : List (Spot × Option Held)) → AreFiled es → (x : Held) → Contains (changes_of es) x → MeetsBounds from upto x.place → Contains (changes_of (wide_of es)) x ⊎ Contains (changes_of (rows_of from upto es)) x
part_of from upto es filed x h meets =
    let entry = at_place es filed x h in by (row_of x.place) refl entry
  where
    by : (o : Option (List ℕ)) → row_of x.place ≡ o → Contains es (At x.place, Some x) → Contains (changes_of (wide_of es)) x ⊎ Contains (changes_of (rows_of from upto es)) x
    by None e entry = inl (to_changes (wide_of es) (At x.place) x (to_filter (λ (d : Spot × Option Held). range_contains spot_cmp Unbounded (Excluded first_row) d.0) es (At x.place, Some x) entry (before_rows x.place e)))
    by (Some row) e entry =
        inr (to_changes (rows_of from upto es) (At x.place) x
        (to_filter (λ (d : Spot × Option Held). range_contains spot_cmp (Excluded (Edge from)) (Excluded (Edge upto)) d.0) es (At x.place, Some x) entry (row_passes from upto x.place row e (row_between from upto x.place row e meets))))

pub filtered_changes : (p : Spot × Option Held → Bool) (es : List (Spot × Option Held)) (x : Held) → Contains (changes_of (filter p es)) x → Contains (changes_of es) x
filtered_changes p es x h = let f = from_changes (filter p es) x h in to_changes es f.0 x (from_filter p es (f.0, Some x) f.1)

pub slice_copied : (from upto : Bound) (es : List (Spot × Option Held)) (wide part : List Held) → AreFiled es → Adds [] wide (λ x. Contains (changes_of (wide_of es)) x × MeetsBounds from upto x.place) → Adds wide part (λ x. Contains (changes_of (rows_of from upto es)) x × MeetsBounds from upto x.place) → (x : Held) → Contains part x ↔ (Contains (changes_of es) x × MeetsBounds from upto x.place)
slice_copied from upto es wide part filed first next x = (
  λ h. elim ((next x).0 h) [
    | inl w ↦ elim ((first x).0 w) [
      | inl none ↦ absurd (contains_nil x none)
      | inr p ↦ (filtered_changes (λ (d : Spot × Option Held). range_contains spot_cmp Unbounded (Excluded first_row) d.0) es x p.0, p.1)
    ]
    | inr p ↦ (filtered_changes (λ (d : Spot × Option Held). range_contains spot_cmp (Excluded (Edge from)) (Excluded (Edge upto)) d.0) es x p.0, p.1)
  ],
  λ h. elim (part_of from upto es filed x h.0 h.1) [
    | inl w ↦ (next x).1 (inl ((first x).1 (inr (w, h.1))))
    | inr r ↦ (next x).1 (inr (r, h.1))
  ],
)

-- ---- the bounds before all rows and behind them

below_rows : (row : List ℕ) → signs_cmp (signs [] 0) (row_signs row) ≡ Less
below_rows [] = refl
below_rows (b ∷ row) = refl

above_rows : (row : List ℕ) → signs_cmp (row_signs row) (signs [] 3) ≡ Less
above_rows [] = refl
above_rows (b ∷ row) = refl

below_ends : (at : List ℕ) (after : Bool) → NotAbove (signs [] 0) (signs at (end_of after))
below_ends [] false e = cc
below_ends [] true e = cc
below_ends (b ∷ at) after e = cc

above_ends : (at : List ℕ) (after : Bool) → NotAbove (signs at (end_of after)) (signs [] 3)
above_ends [] false e = cc
above_ends [] true e = cc
above_ends (b ∷ at) after e = cc

meet_at : (p : Place) → MeetsBounds (record { at = []; after = false }) (record { at = []; after = true }) p
meet_at (Cell r c) = (below_rows r, above_rows r)
meet_at (Marker r) = (below_rows r, above_rows r)
meet_at (RowGone r) = (below_rows r, above_rows r)
meet_at (RangeGone f u) = (above_ends f.at f.after, below_ends u.at u.after)
meet_at PartGone = tt

pub outermost_meet : (from upto : Bound) → from ≡ record { at = []; after = false } → upto ≡ record { at = []; after = true } → (p : Place) → MeetsBounds from upto p
outermost_meet from upto low high p =
    subst (λ (u : Bound). MeetsBounds from u p) (sym high) (subst (λ (f : Bound). MeetsBounds f (record { at = []; after = true }) p) (sym low) (meet_at p))

-- ---- contents made of copies

pub of_apart : (kept xs : List Held) → IsContent kept (Contains xs) → AreApart xs → (x : Held) → Contains kept x ↔ Contains xs x
of_apart kept xs c apart x = (
  λ h. c.within x h,
  λ h. elim (c.reached x h) [ inl k ↦ k | inr (y, k, over) ↦ absurd (apart y x (c.within y k) h over) ],
)

pub slice_of : (from upto : Bound) (all items part : List Held) → AreApart all → ((x : Held) → Contains items x ↔ (Contains all x × MeetsBounds from upto x.place)) → IsContent part (Contains items) → IsSlice from upto all part
slice_of from upto all items part apart copied c x =
    let only : AreApart items = λ y z hy hz. apart y z ((copied y).0 hy).0 ((copied z).0 hz).0 in
    let i = of_apart part items c only x in (λ h. (copied x).0 (i.0 h), λ h. i.1 ((copied x).1 h))

-- ---- lengths

pub no_length : (xs : List Held) → changes_length xs ≡ 4 → xs ≡ []
no_length [] e = refl
no_length (x ∷ xs) e = let f = sum_by-cons held_length x xs in absurd (omega (arith, e, f))

pub empty_iff : (n m : ℕ) (xs : List Held) → n ≡ changes_length xs → m ≡ 4 → IsTrue (n == m) ↔ (xs ≡ [])
empty_iff n m xs long four = (
  λ t. no_length xs (sym long ∙ eqb-true n m t ∙ four),
  λ e. eq-eqb n m (long ∙ ap changes_length e ∙ sym four),
)

pub whole_of : (kept items changes : List Held) → items ≡ changes → AreInOrder changes → AreApart changes → IsContent kept (Contains items) → AreInOrder kept → kept ≡ changes
whole_of kept items changes e ordered apart c sorted =
    content_in_order_is_one (Contains changes) kept changes (subst (λ (l : List Held). IsContent kept (Contains l)) e c) (IsContent-itself changes apart) sorted ordered

-- ---- the look-up of a place

stored_place : (p : Place) (tree : SlotTree) (a : Arrived) → AreFiled (helds_in tree.entries) → stored_in (get spot_cmp tree (At p)) ≡ Some a → a.held.place ≡ p
stored_place p tree a filed is =
    let change : change_in (slot_at (helds_of tree) (At p)) ≡ Some a.held = change-at (is_at (spot_cmp (At p))) tree.entries ∙ ap held_in is in
    sym (place_kept p a.held.place (filed (At p) a.held (held_found p (helds_of tree) a.held change)))

pub found_there : (p : Place) (tree : SlotTree) (found : Option (Bor Arrived)) → AreFiled (helds_in tree.entries) → option_copied found ≡ stored_in (get spot_cmp tree (At p)) → IfSome found (λ x. Contains (stored_of tree.entries) x.now × (x.now.held.place ≡ p))
found_there p tree None filed e = tt
found_there p tree (Some x) filed e = (stored_found (is_at (spot_cmp (At p))) tree.entries x.now (sym e), stored_place p tree x.now filed (sym e))

pub found_none : (p : Place) (tree : SlotTree) (found : Option (Bor Arrived)) → IsGood (helds_of tree) → option_copied found ≡ stored_in (get spot_cmp tree (At p)) → IfNone found (IsVacant (stored_of tree.entries) p)
found_none p tree (Some x) good e = tt
found_none p tree None good e =
    λ x here same.
    let there : Contains (changes_of (helds_in tree.entries)) x.held = subst (λ (l : List Held). Contains l x.held) (stored_changes tree.entries) (contains_map held_of (stored_of tree.entries) x here) in
    let entry = subst (λ (q : Place). Contains {X = Spot × Option Held} (helds_in tree.entries) (At q, Some x.held)) same (at_place (helds_in tree.entries) good.filed x.held there) in
    let change : change_in (slot_at (helds_of tree) (At p)) ≡ Some x.held = found_held p (helds_of tree) x.held good.sorted entry in
    let none : change_in (slot_at (helds_of tree) (At p)) ≡ None = change-at (is_at (spot_cmp (At p))) tree.entries ∙ ap held_in (sym e) in cc
