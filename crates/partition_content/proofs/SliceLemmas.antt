-- Copies of what meets two bounds are in the order of the places, as the keys are.
use Rattle.std.proofs.Common.{◌≡◌, ℕ, inl, inr, Bool, true, false, cond, not, List, [], ◌∷◌, ◌++◌, take, drop, Option, Some, None, Contains, filter, refl, sym, ◌∙◌, ap, subst, append-nil, append_assoc}
use Rattle.std.specs.Option.{option_to_list}
use Rattle.std.specs.BTreeMap.Range.{range_contains}
use Rattle.std.specs.List.Sorted.{IsStrictlySortedBy}
use Rattle.std.specs.Map.{keys_of}
use Rattle.std.specs.Ordering.{is_le, ordering_reverse}
use Rattle.std.specs.declared.cmp.Ordering.{Ordering}
use Rattle.std.specs.declared.cmp.Ordering.TheVariants.{Less, Greater}
use Rattle.std.specs.declared.ops.Bound.TheVariants.{Excluded, Unbounded}
use Rattle.std.proofs.lemmas.Bool.{both_ways}
use Rattle.std.proofs.lemmas.List.{take-append-drop}
use Rattle.std.proofs.lemmas.List.Elements.{Contains-append_cases, Contains-append_left, Contains-append_right}
use Rattle.std.proofs.lemmas.List.Kept.{IsStrictlySortedBy-filter}
use Rattle.std.proofs.lemmas.Map.Keys.{sorted_tail}
use Rattle.changes.specs.declared.Bound.{Bound}
use Rattle.changes.specs.declared.Held.{Held}
use Rattle.changes.specs.declared.Place.{Place}
use Rattle.changes.specs.Contents.{AreApart}
use Rattle.changes.specs.Order.{row_of, row_signs, bound_signs, signs_cmp}
use Rattle.changes.specs.Places.{AreInOrder, stored_cmp}
use Rattle.changes.specs.Queries.{MeetsBounds}
use Rattle.cell_merge.proofs.InOrder.{sorted_front, sorted_back, sorted_across, sorted_both}
use Rattle.cs_base.proofs.Members.{contains_map, contains_nil, contains_there}
use Rattle.partition_content.specs.declared.spots.Spot.{Spot}
use Rattle.partition_content.specs.declared.spots.Spot.TheVariants.{At, Edge}
use Rattle.partition_content.specs.Spots.{spot_cmp}
use Rattle.partition_content.specs.SpotLaws.{spot_total}
use Rattle.partition_content.specs.Slots.{SlotMap, changes_of, is_wide_spot, spots_in, AreFiled}
use Rattle.partition_content.specs.Reading.{first_row, wide_of, rows_of, IsAdded}
use Rattle.partition_content.proofs.SpotLemmas.{edge_above, edge_stands, signs_total}
use Rattle.partition_content.proofs.SlotLemmas.{at_place, from_changes}
use Rattle.partition_content.proofs.OrderLemmas.{changes_in_order, from_filter}
use Rattle.partition_content.proofs.ReachLemmas.{wide_place}
use Rattle.partition_content.proofs.ReadLemmas.{Adds, between_meets, both_pass, filtered_changes, passes}

pub front_in_order : (xs : List Held) (n : ℕ) → AreInOrder xs → AreInOrder (take n xs)
front_in_order xs n h = sorted_front stored_cmp (take n xs) (drop n xs) (subst AreInOrder (sym (take-append-drop n xs)) h)

without_one : (xs ys : List Held) (x : Held) → AreInOrder (xs ++ x ∷ ys) → AreInOrder (xs ++ ys)
without_one xs ys x h =
    sorted_both stored_cmp xs ys (sorted_front stored_cmp xs (x ∷ ys) h) (sorted_tail stored_cmp x ys (sorted_back stored_cmp xs (x ∷ ys) h))
    (λ a b ha hb. sorted_across stored_cmp xs (x ∷ ys) h a b ha (contains_there x ys b hb))

-- ---- a walk

-- where what was there is in order with all of the walk, what is there now is with what is left of it
abbrev pub StaysInOrder : List Held → List Held → List (Spot × Option Held) → List (Spot × Option Held) → Type 0
StaysInOrder old now all rest = AreInOrder (old ++ changes_of all) → AreInOrder (now ++ changes_of rest)

pub order_start : (old : List Held) (all it : List (Spot × Option Held)) → it ≡ all → StaysInOrder old old all it
order_start old all it e h = subst (λ (l : List (Spot × Option Held)). AreInOrder (old ++ changes_of l)) (sym e) h

order_added : (o : Option Held) (now new rest : List Held) → IsAdded o now new → AreInOrder (now ++ (option_to_list o ++ rest)) → AreInOrder (new ++ rest)
order_added None now new rest (inl e) h = subst (λ (l : List Held). AreInOrder (l ++ rest)) (sym e) h
order_added None now new rest (inr e) h = subst (λ (l : List Held). AreInOrder (l ++ rest)) (sym (append-nil now) ∙ sym e) h
order_added (Some x) now new rest (inl e) h = subst (λ (l : List Held). AreInOrder (l ++ rest)) (sym e) (without_one now rest x h)
order_added (Some x) now new rest (inr e) h = subst (λ (l : List Held). AreInOrder (l ++ rest)) (sym e) (subst AreInOrder (sym (append_assoc now (x ∷ []) rest)) h)

pub order_more : (old now new : List Held) (all it rest : List (Spot × Option Held)) (k : Spot) (v : Option Held) → it ≡ (k, v) ∷ rest → StaysInOrder old now all it → IsAdded v now new → StaysInOrder old new all rest
order_more old now new all it rest k v split so_far added h =
    order_added v now new (changes_of rest) added (subst (λ (l : List (Spot × Option Held)). AreInOrder (now ++ changes_of l)) split (so_far h))

pub order_end : (old now : List Held) (all it : List (Spot × Option Held)) → it ≡ [] → StaysInOrder old now all it → AreInOrder (old ++ changes_of all) → AreInOrder now
order_end old now all it none so_far h =
    subst AreInOrder (append-nil now) (subst (λ (l : List (Spot × Option Held)). AreInOrder (now ++ changes_of l)) none (so_far h))

pub order_nothing : (old more : List Held) → AreInOrder (old ++ more) → AreInOrder old
order_nothing old more h = sorted_front stored_cmp old more h

-- ---- what is before the rows, and the rows between two bounds

keys_passed_at : (q : Spot → Bool) (b : Bool) (e : Spot × Option Held) (more : List (Spot × Option Held)) (ks : List Spot) → keys_of more ≡ ks → keys_of (cond b (e ∷ more) more) ≡ cond b (e.0 ∷ ks) ks
keys_passed_at q true e more ks h = ap (λ (l : List Spot). e.0 ∷ l) h
keys_passed_at q false e more ks h = h

keys_passed : (q : Spot → Bool) (es : List (Spot × Option Held)) → keys_of (filter (λ (d : Spot × Option Held). q d.0) es) ≡ filter q (keys_of es)
keys_passed q [] = refl
keys_passed q (e ∷ es) = keys_passed_at q (q e.0) e (filter (λ (d : Spot × Option Held). q d.0) es) (filter q (keys_of es)) (keys_passed q es)

passed_in_order : (q : Spot → Bool) (es : List (Spot × Option Held)) → AreFiled es → IsStrictlySortedBy spot_cmp (keys_of es) → AreInOrder (changes_of (filter (λ (d : Spot × Option Held). q d.0) es))
passed_in_order q es filed sorted =
    changes_in_order (filter (λ (d : Spot × Option Held). q d.0) es) (λ s x h. filed s x (from_filter (λ (d : Spot × Option Held). q d.0) es (s, Some x) h))
    (subst (IsStrictlySortedBy spot_cmp) (sym (keys_passed q es)) (IsStrictlySortedBy-filter spot_cmp q (keys_of es) sorted))

before_all : (row : List ℕ) → signs_cmp (bound_signs (record { at = []; after = false })) (row_signs row) ≡ Less
before_all [] = refl
before_all (b ∷ row) = refl

-- what stands before the rows is in none
not_in_row : (p : Place) → range_contains spot_cmp Unbounded (Excluded first_row) (At p) ≡ true → row_of p ≡ None
not_in_row p t = by (row_of p) refl
  where
    by : (o : Option (List ℕ)) → row_of p ≡ o → row_of p ≡ None
    by None e = e
    by (Some row) e =
        let stands = edge_stands (record { at = []; after = false }) p row e ∙ before_all row in
        let f : not (is_le (spot_cmp first_row (At p))) ≡ false = ap (λ (o : Ordering). not (is_le o)) stands in
        let both : true ≡ false = sym t ∙ f in cc

passed_place : (q : Spot → Bool) (es : List (Spot × Option Held)) (x : Held) → AreFiled es → Contains (changes_of (filter (λ (d : Spot × Option Held). q d.0) es)) x → q (At x.place) ≡ true
passed_place q es x filed h =
    let f = from_changes (filter (λ (d : Spot × Option Held). q d.0) es) x h in
    let t : q f.0 ≡ true = passes (λ (d : Spot × Option Held). q d.0) es (f.0, Some x) f.1 in
    subst (λ (s : Spot). q s ≡ true) (filed f.0 x (from_filter (λ (d : Spot × Option Held). q d.0) es (f.0, Some x) f.1)) t

-- where no key is that of a deletion of a range or of the partition, nothing is before the rows
pub no_wide_change : (slots : SlotMap) (x : Held) → AreFiled slots.entries → ((s : Spot) → Contains (spots_in slots) s → is_wide_spot s ≡ false) → Contains (changes_of (wide_of slots.entries)) x → ⊥
no_wide_change slots x filed none h =
    let wide = not_in_row x.place (passed_place (λ (s : Spot). range_contains spot_cmp Unbounded (Excluded first_row) s) slots.entries x filed h) in
    let entry = at_place slots.entries filed x (filtered_changes (λ (d : Spot × Option Held). range_contains spot_cmp Unbounded (Excluded first_row) d.0) slots.entries x h) in
    both_ways (is_wide_spot (At x.place)) (none (At x.place) (contains_map {X = Spot × Option Held} (λ e. e.0) slots.entries (At x.place, Some x) entry)) (wide_place x.place wide)

-- what is between the bounds meets them
rows_meet : (from upto : Bound) (es : List (Spot × Option Held)) (x : Held) → AreFiled es → Contains (changes_of (rows_of from upto es)) x → MeetsBounds from upto x.place
rows_meet from upto es x filed h =
    let between = passed_place (λ (s : Spot). range_contains spot_cmp (Excluded (Edge from)) (Excluded (Edge upto)) s) es x filed h in
    let both = both_pass (spot_cmp (Edge from) (At x.place)) (spot_cmp (Edge upto) (At x.place)) between in by (row_of x.place) refl both.0 both.1
  where
    by : (o : Option (List ℕ)) → row_of x.place ≡ o → spot_cmp (Edge from) (At x.place) ≡ Less → spot_cmp (Edge upto) (At x.place) ≡ Greater → MeetsBounds from upto x.place
    by None e low high = let above : Greater ≡ Less = sym (edge_above from x.place e) ∙ low in cc
    by (Some row) e low high =
        between_meets from upto x.place row e
        (sym (edge_stands from x.place row e) ∙ low, signs_total.antisymm (row_signs row) (bound_signs upto) ∙ ap ordering_reverse (sym (edge_stands upto x.place row e) ∙ high))

pub rows_added : (from upto : Bound) (es : List (Spot × Option Held)) (old new : List Held) → AreFiled es → new ≡ old ++ changes_of (rows_of from upto es) → Adds old new (λ x. Contains (changes_of (rows_of from upto es)) x × MeetsBounds from upto x.place)
rows_added from upto es old new filed e x = (
  λ h. elim (Contains-append_cases old (changes_of (rows_of from upto es)) x (subst (λ (l : List Held). Contains l x) e h)) [ inl k ↦ inl k | inr r ↦ inr (r, rows_meet from upto es x filed r) ],
  λ u. subst (λ (l : List Held). Contains l x) (sym e) (elim u [ inl k ↦ Contains-append_left old (changes_of (rows_of from upto es)) x k | inr p ↦ Contains-append_right old (changes_of (rows_of from upto es)) x p.0 ]),
)

-- what is before the rows stands before what is behind a bound
wide_first : (from upto : Bound) (es : List (Spot × Option Held)) (x y : Held) → AreFiled es → Contains (changes_of (wide_of es)) x → Contains (changes_of (rows_of from upto es)) y → stored_cmp x y ≡ Less
wide_first from upto es x y filed hx hy =
    let none = not_in_row x.place (passed_place (λ (s : Spot). range_contains spot_cmp Unbounded (Excluded first_row) s) es x filed hx) in
    let between = passed_place (λ (s : Spot). range_contains spot_cmp (Excluded (Edge from)) (Excluded (Edge upto)) s) es y filed hy in
    let behind = both_pass (spot_cmp (Edge from) (At y.place)) (spot_cmp (Edge upto) (At y.place)) between in
    let before : spot_cmp (At x.place) (Edge from) ≡ Less = spot_total.antisymm (At x.place) (Edge from) ∙ ap ordering_reverse (edge_above from x.place none) in
    spot_total.trans (At x.place) (Edge from) (At y.place) before behind.0

pub wide_in_order : (es : List (Spot × Option Held)) → AreFiled es → IsStrictlySortedBy spot_cmp (keys_of es) → AreInOrder ([] ++ changes_of (wide_of es))
wide_in_order es filed sorted = passed_in_order (λ (s : Spot). range_contains spot_cmp Unbounded (Excluded first_row) s) es filed sorted

pub rows_next : (from upto : Bound) (es : List (Spot × Option Held)) (wide : List Held) → AreFiled es → IsStrictlySortedBy spot_cmp (keys_of es) → Adds [] wide (λ x. Contains (changes_of (wide_of es)) x × MeetsBounds from upto x.place) → AreInOrder wide → AreInOrder (wide ++ changes_of (rows_of from upto es))
rows_next from upto es wide filed sorted adds ordered =
    sorted_both stored_cmp wide (changes_of (rows_of from upto es)) ordered (passed_in_order (λ (s : Spot). range_contains spot_cmp (Excluded (Edge from)) (Excluded (Edge upto)) s) es filed sorted)
    (λ x y hx hy. elim ((adds x).0 hx) [ inl none ↦ absurd (contains_nil x none) | inr p ↦ wide_first from upto es x y filed p.0 hy ])

-- ---- contents made of copies

pub slice_apart : (from upto : Bound) (all items : List Held) → AreApart all → ((x : Held) → (Contains items x → Contains all x × MeetsBounds from upto x.place) × (Contains all x × MeetsBounds from upto x.place → Contains items x)) → AreApart items
slice_apart from upto all items apart copied y z hy hz = apart y z ((copied y).0 hy).0 ((copied z).0 hz).0
