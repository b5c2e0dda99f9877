-- The four operations take their steps.
use Rattle.std.proofs.Common.{◌≡◌, ◌↔◌, inl, inr, ℕ, ◌==◌, ◌&&◌, Bool, true, false, Option, Some, None, List, [], ◌∷◌, refl, sym, ap, subst, ◌∙◌, Contains, eqb-true}
use Rattle.std.specs.Prelude.{if◌then◌else◌}
use Rattle.std.specs.Ordering.{nat_cmp}
use Rattle.std.specs.List.Sorted.{IsStrictlySortedBy}
use Rattle.std.specs.Cmp.Lexicographic.{slice_cmp}
use Rattle.std.specs.declared.cmp.Ordering.TheVariants.{Greater}
use Rattle.std.proofs.lemmas.Cmp.{nat_list_cmp_total, tied_itself}
use Rattle.cs_base.proofs.Members.{contains_nil, contains_here, contains_there, contains_cases, contains_one}
use Rattle.changes.specs.declared.Place.TheVariants.{Cell, Marker, RowGone}
use Rattle.changes.specs.declared.Draft.{Draft}
use Rattle.changes.specs.declared.ShownCell.{ShownCell}
use Rattle.changes.specs.declared.ShownRow.{ShownRow}
use Rattle.changes.specs.Order.{IsBetween, value_cmp}
use Rattle.changes.proofs.Orderings.{bytes_exact, equal_is}
use Rattle.single_copy.specs.Maps.{PartitionMap, empty_map, Slot, InCell, AtMarker, place_of, seen, ActsOn, DraftOutranks, LeavesIn, Writes}
use Rattle.single_copy.specs.ConditionalStep.{RowStands, AreCellsOf, IsRowAt, AreRowsOf}
use Rattle.single_copy.specs.Example.{row, column, inserted, deleted, all_rows, is_row, map_with, shown_with, ARowIsInsertedOnce}

-- ---- what the map has

row_is : (other : List ℕ) → is_row other ≡ true → row ≡ other
row_is other e = bytes_exact row other (equal_is (slice_cmp nat_cmp row other) e)

is_row_at : (other : List ℕ) → row ≡ other → is_row other ≡ true
is_row_at other e = subst (λ (z : List ℕ). is_row z ≡ true) e refl

and_both : (a b : Bool) → (a && b) ≡ true → (a ≡ true) × (b ≡ true)
and_both true b e = (refl, e)
and_both false b e = cc

cell_found : (t : Bool) (w v : List ℕ) → ◌≡◌ {A = Option (List ℕ)} (if t then Some w else None) (Some v) → (t ≡ true) × (w ≡ v)
cell_found true w v e = (refl, one w v e)
  where
    one : (w v : List ℕ) → Some w ≡ Some v → w ≡ v
    one w v f = cc
cell_found false w v e = cc

value_is : (v : ℕ) (other : List ℕ) (c : ℕ) (w : List ℕ) → (map_with v).value other c ≡ Some w → (row ≡ other) × (column ≡ c) × (v ∷ [] ≡ w)
value_is v other c w e =
    let f = cell_found (is_row other && (column == c)) (v ∷ []) w e in
    let t = and_both (is_row other) (column == c) f.0 in
    (row_is other t.0, eqb-true column c t.1, f.1)

value_at : (v : ℕ) (other : List ℕ) (c : ℕ) (w : List ℕ) → row ≡ other → column ≡ c → v ∷ [] ≡ w → (map_with v).value other c ≡ Some w
value_at v other c w p q r = subst (λ (z : List ℕ). (map_with v).value z c ≡ Some w) p (subst (λ (z : ℕ). (map_with v).value row z ≡ Some w) q (ap (λ (z : List ℕ). Some z) r))

stands_is : (v : ℕ) (other : List ℕ) → RowStands (map_with v) other → row ≡ other
stands_is v other (inl e) = row_is other e
stands_is v other (inr (c, w, e)) = (value_is v other c w e).0

-- ---- what the row shows

cells_are : (v : ℕ) → AreCellsOf (map_with v) (shown_with v)
unfolding IsStrictlySortedBy
cells_are v = record {
  sorted = (tt, tt);
  each = λ c w. (
    λ is. let e = contains_one (record { column = column; value = v ∷ [] }) (record { column = c; value = w }) is in
        value_at v row c w refl (ap (λ (z : ShownCell). z.column) e) (ap (λ (z : ShownCell). z.value) e),
    λ e. let f = value_is v row c w e in there v c w f.1 f.2,
  );
}
  where
    there : (v c : ℕ) (w : List ℕ) → column ≡ c → v ∷ [] ≡ w → Contains ((shown_with v).cells) (record { column = c; value = w })
    there v c w p q = subst (λ (z : ShownCell). Contains ((shown_with v).cells) z) (λ i. record { column = p i; value = q i }) (contains_here (record { column = column; value = v ∷ [] }) [])

row_at : (v : ℕ) → IsRowAt (map_with v) row (Some (shown_with v))
row_at v = (inl refl, refl, cells_are v)

rows_are : (v : ℕ) → AreRowsOf (map_with v) all_rows (shown_with v ∷ [])
unfolding IsStrictlySortedBy
rows_are v = record {
  sorted = (tt, tt);
  each = λ other. (
    λ is. let e = contains_one row other is in subst (λ (z : List ℕ). RowStands (map_with v) z × IsBetween all_rows.from all_rows.upto z) e (inl refl, (refl, refl)),
    λ s. subst (λ (z : List ℕ). Contains (row ∷ []) z) (stands_is v other s.0) (contains_here row []),
  );
  cells = λ r is. subst (λ (z : ShownRow). AreCellsOf (map_with v) z) (contains_one (shown_with v) r is) (cells_are v);
}

-- ---- what the updates leave

abbrev marker_draft : Draft
marker_draft = record { place = Marker row; value = Some []; timestamp = None }

abbrev cell_draft : ℕ → Draft
cell_draft v = record { place = Cell row column; value = Some (v ∷ []); timestamp = None }

-- neither draft of an INSERT outranks one
none_outranks : (v : ℕ) (d e : Draft) → Contains (inserted v) d → Contains (inserted v) e → DraftOutranks e d → ⊥
none_outranks v d e here' there' over = elim (contains_cases marker_draft (cell_draft v ∷ []) e there') [
  | inl m ↦ marker (subst (λ (z : Draft). DraftOutranks z d) (sym m) over)
  | inr c ↦ cell (subst (λ (z : Draft). DraftOutranks z d) (sym (contains_one (cell_draft v) e c)) over)
]
  where
    same : (w : List ℕ) → slice_cmp nat_cmp w w ≡ Greater → ⊥
    same w f = let t = tied_itself nat_list_cmp_total w in cc

    marker : DraftOutranks marker_draft d → ⊥
    marker (inr f) = f
    marker (inl f) = elim (contains_cases marker_draft (cell_draft v ∷ []) d here') [
      | inl m ↦ same [] (subst (λ (z : Draft). value_cmp (Some []) z.value ≡ Greater) (sym m) f.1)
      | inr c ↦ (let e = ap (λ (z : Draft). z.place) (contains_one (cell_draft v) d c) ∙ sym f.0 in cc)
    ]

    cell : DraftOutranks (cell_draft v) d → ⊥
    cell (inr f) = f
    cell (inl f) = elim (contains_cases marker_draft (cell_draft v ∷ []) d here') [
      | inl m ↦ (let e = ap (λ (z : Draft). z.place) m ∙ sym f.0 in cc)
      | inr c ↦ same (v ∷ []) (subst (λ (z : Draft). value_cmp (Some (v ∷ [])) z.value ≡ Greater) (sym (contains_one (cell_draft v) d c)) f.1)
    ]

cell_leaves : (v : ℕ) (other : List ℕ) (c : ℕ) (w : List ℕ) → (seen (map_with v) (InCell other c) ≡ Some w) ↔ LeavesIn (inserted v) (InCell other c) w
cell_leaves v other c w = (
  λ e. let f = value_is v other c w e in
      (cell_draft v, mem, λ d is over. none_outranks v (cell_draft v) d mem is over, λ i. Cell (f.0 i) (f.1 i), ap (λ (z : List ℕ). Some z) f.2),
  back,
)
  where
    mem : Contains (inserted v) (cell_draft v)
    mem = contains_there marker_draft (cell_draft v ∷ []) (cell_draft v) (contains_here (cell_draft v) [])

    cells : (a b : List ℕ) (i j : ℕ) → Cell a i ≡ Cell b j → (a ≡ b) × (i ≡ j)
    cells a b i j e = (cc, cc)

    values : (a b : List ℕ) → Some a ≡ Some b → a ≡ b
    values a b e = cc

    back : LeavesIn (inserted v) (InCell other c) w → seen (map_with v) (InCell other c) ≡ Some w
    back (d, is, top, place, value) = elim (contains_cases marker_draft (cell_draft v ∷ []) d is) [
      | inl m ↦ (let e = ap (λ (z : Draft). z.place) m ∙ place in cc)
      | inr n ↦ (
          let same = contains_one (cell_draft v) d n in
          let at = cells row other column c (ap (λ (z : Draft). z.place) same ∙ place) in
          value_at v other c w at.0 at.1 (values (v ∷ []) w (ap (λ (z : Draft). z.value) same ∙ value)))
    ]

marker_leaves : (v : ℕ) (other : List ℕ) (w : List ℕ) → (seen (map_with v) (AtMarker other) ≡ Some w) ↔ LeavesIn (inserted v) (AtMarker other) w
marker_leaves v other w = (
  λ e. let f = cell_found (is_row other) [] w e in
      (marker_draft, mem, λ d is over. none_outranks v marker_draft d mem is over, ap Marker (row_is other f.0), sym f.1),
  back,
)
  where
    mem : Contains (inserted v) marker_draft
    mem = contains_here marker_draft (cell_draft v ∷ [])

    markers : (a b : List ℕ) → Marker a ≡ Marker b → a ≡ b
    markers a b e = cc

    back : LeavesIn (inserted v) (AtMarker other) w → seen (map_with v) (AtMarker other) ≡ Some w
    back (d, is, top, place, value) = elim (contains_cases marker_draft (cell_draft v ∷ []) d is) [
      | inl m ↦ (
          let at = markers row other (ap (λ (z : Draft). z.place) m ∙ place) in
          subst (λ (z : Bool). (if z then Some [] else None) ≡ Some w) (sym (is_row_at other at)) (ap (λ (z : List ℕ). Some z) (sym value)))
      | inr n ↦ (let e = ap (λ (z : Draft). z.place) (contains_one (cell_draft v) d n) ∙ place in cc)
    ]

none_where : (t : Bool) (w : List ℕ) → (t ≡ true → ⊥) → ◌≡◌ {A = Option (List ℕ)} (if t then Some w else None) None
none_where true w no' = absurd (no' refl)
none_where false w no' = refl

insert_writes : (v : ℕ) → Writes (inserted v) empty_map (map_with v)
insert_writes v = record { written = written; kept = kept }
  where
    written : (k : Slot) (d : Draft) → Contains (inserted v) d → ActsOn d.place k → (w : List ℕ) → (seen (map_with v) k ≡ Some w) ↔ LeavesIn (inserted v) k w
    written (InCell other c) d is acts w = cell_leaves v other c w
    written (AtMarker other) d is acts w = marker_leaves v other w

    kept : (k : Slot) → ((d : Draft) → Contains (inserted v) d → ActsOn d.place k → ⊥) → seen (map_with v) k ≡ seen empty_map k
    kept (InCell other c) none = none_where (is_row other && (column == c)) (v ∷ []) (λ e.
        let t = and_both (is_row other) (column == c) e in
        none (cell_draft v) (contains_there marker_draft (cell_draft v ∷ []) (cell_draft v) (contains_here (cell_draft v) [])) (inl (λ i. Cell (row_is other t.0 i) (eqb-true column c t.1 i))))
    kept (AtMarker other) none = none_where (is_row other) [] (λ e. none marker_draft (contains_here marker_draft (cell_draft v ∷ [])) (inl (ap Marker (row_is other e))))

nothing_writes : (m : PartitionMap) → Writes [] m m
nothing_writes m = record { written = λ k d is. absurd (contains_nil d is); kept = λ k none. refl }

abbrev gone_draft : Draft
gone_draft = record { place = RowGone row; value = None; timestamp = None }

delete_writes : (v : ℕ) → Writes deleted (map_with v) empty_map
delete_writes v = record { written = written; kept = kept }
  where
    no_place : (k : Slot) → RowGone row ≡ place_of k → ⊥
    no_place (InCell other c) e = cc
    no_place (AtMarker other) e = cc

    never : (k : Slot) (w : List ℕ) → seen empty_map k ≡ Some w → ⊥
    never (InCell other c) w e = cc
    never (AtMarker other) w e = cc

    written : (k : Slot) (d : Draft) → Contains deleted d → ActsOn d.place k → (w : List ℕ) → (seen empty_map k ≡ Some w) ↔ LeavesIn deleted k w
    written k d is acts w = (
      λ e. absurd (never k w e),
      λ l. absurd (no_place k (ap (λ (z : Draft). z.place) (contains_one gone_draft l.0 l.1) ∙ l.3)),
    )

    kept : (k : Slot) → ((d : Draft) → Contains deleted d → ActsOn d.place k → ⊥) → seen empty_map k ≡ seen (map_with v) k
    kept (InCell other c) none = sym (none_where (is_row other && (column == c)) (v ∷ []) (λ e. none gone_draft (contains_here gone_draft []) (inr (row_is other (and_both (is_row other) (column == c) e).0))))
    kept (AtMarker other) none = sym (none_where (is_row other) [] (λ e. none gone_draft (contains_here gone_draft []) (inr (row_is other e))))

empty_row : IsRowAt empty_map row None
empty_row (inl e) = cc
empty_row (inr (c, w, e)) = cc

pub a_row_is_inserted_once : ARowIsInsertedOnce
a_row_is_inserted_once v u = (
  ((None, empty_row, refl), insert_writes v),
  ((Some (shown_with v), row_at v, refl), nothing_writes (map_with v)),
  ((refl, (shown_with v ∷ [], rows_are v, refl)), nothing_writes (map_with v)),
  ((Some (shown_with v), row_at v, refl), delete_writes v),
)
