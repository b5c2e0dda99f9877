-- A row lies between the bounds exactly where it meets the relations.
use Rattle.std.proofs.Common.{◌≡◌, ◌↔◌, ◌+◌, ◌<◌, ◌⊎◌, inl, inr, ℕ, ◌++◌, ◌∷◌, [], ◌||◌, ◌&&◌, Bool, true, false, not, cond, List, Option, Some, None, drop, map, arith, refl, sym, ap, ◌∙◌, subst}
use Rattle.std.specs.Prelude.{nat_lt, slice_get}
use Rattle.std.specs.List.{list_any}
use Rattle.std.specs.declared.cmp.Ordering.{Ordering}
use Rattle.std.specs.declared.cmp.Ordering.TheVariants.{Less, Equal, Greater}
use Rattle.std.specs.Ordering.{is_gt, is_lt, ordering_then, ordering_reverse}
use Rattle.std.proofs.lemmas.Bool.Decides.{nat_tests}
use Rattle.cql_statement.specs.declared.term.RelationOperator.{RelationOperator}
use Rattle.cql_statement.specs.declared.term.RelationOperator.TheVariants as operators
use Rattle.cql_values.specs.Order.{KeepsOrder, ComparesTypes, directed, order_word}
use Rattle.cql_values.specs.declared.value.CqlValue.{CqlValue}
use Rattle.changes.specs.Order.{byte_sign, signs, signs_cmp, row_signs, bound_signs, end_of, IsBetween}
use Rattle.schema_book.specs.declared.table.ColumnDef.{ColumnDef}
use Rattle.schema_book.specs.declared.table.ColumnKind.TheVariants.{Clustering}
use Rattle.key_restrictions.specs.declared.restriction.Restriction.{Restriction}
use Rattle.key_restrictions.specs.Operators.{is_lower, is_upper, is_strict}
use Rattle.key_restrictions.specs.Places.{is_clustering, is_key, is_of_kind, is_partition_at, is_key_at, is_clustering_at, is_fixed, bounds_below, bounds_above, lower_bound, upper_bound, open_place, open_from}
use Rattle.key_restrictions.specs.Checks.{bounds_partition, is_behind, is_on_row}
use Rattle.key_restrictions.specs.Rows.{prefix_bytes, falls_at, falls_open, first_bound, last_bound, begin_at, end_at, from_of, upto_of}
use Rattle.key_restrictions.specs.Laws.{is_met, meets, NameRows, IsRow, bytes_from, row_bytes, MeetsAll, BoundsEncloseRows}
use Rattle.key_restrictions.proofs.Lookups.{or_parts, found, none_passes, head_at, left_next}
use Rattle.key_restrictions.proofs.Columns.{and_false, column_of, once_at, fixed_is, bound_is, Compared, compared, meets_is, on_key, clustering_of, clustering_at}
use Rattle.key_restrictions.proofs.Signs.{signs_turned, words_decide, signs_append, same_front, behind_first, before_last}
use Rattle.key_restrictions.proofs.Fronts.{Same, Front, same, apart, front_from}

-- ---- what stands behind the bytes of the columns that are fixed

abbrev begin_signs : Bool → Option (Restriction CqlValue) → List (ℕ × ℕ)
begin_signs falls None = (0, 0) ∷ []
begin_signs falls (Some r) = signs (order_word falls r.value) (end_of (is_strict r.operator))

abbrev end_signs : Bool → Option (Restriction CqlValue) → List (ℕ × ℕ)
end_signs falls None = (3, 0) ∷ []
end_signs falls (Some r) = signs (order_word falls r.value) (end_of (not (is_strict r.operator)))

begin_is : (prefix : List ℕ) (falls : Bool) (b : Option (Restriction CqlValue)) → bound_signs (begin_at prefix falls b) ≡ map byte_sign prefix ++ begin_signs falls b
begin_is prefix falls None = refl
begin_is prefix falls (Some r) = signs_append prefix (order_word falls r.value) (end_of (is_strict r.operator))

end_is : (prefix : List ℕ) (falls : Bool) (b : Option (Restriction CqlValue)) → bound_signs (end_at prefix falls b) ≡ map byte_sign prefix ++ end_signs falls b
end_is prefix falls None = refl
end_is prefix falls (Some r) = signs_append prefix (order_word falls r.value) (end_of (not (is_strict r.operator)))

-- ---- one bound

-- the operators that bound the rows from the front, and from the back
abbrev is_first : Bool → RelationOperator → Bool
is_first falls operator = cond falls (is_upper operator) (is_lower operator)

abbrev is_last : Bool → RelationOperator → Bool
is_last falls operator = cond falls (is_lower operator) (is_upper operator)

-- how a row's order to the bound's value, and where that is equal the end, tell whether it meets the relation
first_met : (falls : Bool) (operator : RelationOperator) (o : Ordering) → is_first falls operator ≡ true
    → is_gt (ordering_then (directed falls o) (cond (is_strict operator) Less Greater)) ≡ is_met operator o
first_met true operators.Less Less h = refl
first_met true operators.Less Equal h = refl
first_met true operators.Less Greater h = refl
first_met true operators.LessOrEqual Less h = refl
first_met true operators.LessOrEqual Equal h = refl
first_met true operators.LessOrEqual Greater h = refl
first_met true operators.Equal o h = absurd (cc)
first_met true operators.Greater o h = absurd (cc)
first_met true operators.GreaterOrEqual o h = absurd (cc)
first_met false operators.Greater Less h = refl
first_met false operators.Greater Equal h = refl
first_met false operators.Greater Greater h = refl
first_met false operators.GreaterOrEqual Less h = refl
first_met false operators.GreaterOrEqual Equal h = refl
first_met false operators.GreaterOrEqual Greater h = refl
first_met false operators.Equal o h = absurd (cc)
first_met false operators.Less o h = absurd (cc)
first_met false operators.LessOrEqual o h = absurd (cc)

last_met : (falls : Bool) (operator : RelationOperator) (o : Ordering) → is_last falls operator ≡ true
    → is_lt (ordering_then (directed falls o) (cond (not (is_strict operator)) Less Greater)) ≡ is_met operator o
last_met true operators.Greater Less h = refl
last_met true operators.Greater Equal h = refl
last_met true operators.Greater Greater h = refl
last_met true operators.GreaterOrEqual Less h = refl
last_met true operators.GreaterOrEqual Equal h = refl
last_met true operators.GreaterOrEqual Greater h = refl
last_met true operators.Equal o h = absurd (cc)
last_met true operators.Less o h = absurd (cc)
last_met true operators.LessOrEqual o h = absurd (cc)
last_met false operators.Less Less h = refl
last_met false operators.Less Equal h = refl
last_met false operators.Less Greater h = refl
last_met false operators.LessOrEqual Less h = refl
last_met false operators.LessOrEqual Equal h = refl
last_met false operators.LessOrEqual Greater h = refl
last_met false operators.Equal o h = absurd (cc)
last_met false operators.Greater o h = absurd (cc)
last_met false operators.GreaterOrEqual o h = absurd (cc)

-- a relation that bounds the first column that is not fixed
record Bounds (columns : List ColumnDef) (rs : List (Restriction CqlValue)) (place : ℕ) (r : Restriction CqlValue) : Type 0 where
  index : ℕ
  stands : slice_get rs index ≡ Some r
  column : r.column ≡ place
  def : ColumnDef
  here : slice_get columns place ≡ Some def
  kind : def.kind ≡ Clustering

bounds : (columns : List ColumnDef) (rs : List (Restriction CqlValue)) → NameRows columns rs → (i : ℕ) (r : Restriction CqlValue) → slice_get rs i ≡ Some r
    → r.column ≡ open_place columns rs → Bounds columns rs (open_place columns rs) r
bounds columns rs named i r stands column =
    let place = open_place columns rs in
    let key = sym (ap (is_key_at columns) column) ∙ on_key columns rs named i r stands in
    let away = (or_parts (is_partition_at columns place) (list_any (bounds_partition columns) rs || list_any (is_behind columns place) rs) named.slice).0 in
    let c = clustering_of (slice_get columns place) key away in
    record { index = i; stands = stands; column = column; def = c.0; here = c.1; kind = c.2 }

first_bounds : (columns : List ColumnDef) (rs : List (Restriction CqlValue)) → NameRows columns rs → (falls : Bool) (r : Restriction CqlValue)
    → first_bound falls rs (open_place columns rs) ≡ Some r → Bounds columns rs (open_place columns rs) r × (is_first falls r.operator ≡ true)
first_bounds columns rs named true r h =
    let place = open_place columns rs in
    let p = found (bounds_above place) rs r h in
    let parts = column_of is_upper place r p.passes in
    (bounds columns rs named p.place r p.stands parts.0, parts.1)
first_bounds columns rs named false r h =
    let place = open_place columns rs in
    let p = found (bounds_below place) rs r h in
    let parts = column_of is_lower place r p.passes in
    (bounds columns rs named p.place r p.stands parts.0, parts.1)

last_bounds : (columns : List ColumnDef) (rs : List (Restriction CqlValue)) → NameRows columns rs → (falls : Bool) (r : Restriction CqlValue)
    → last_bound falls rs (open_place columns rs) ≡ Some r → Bounds columns rs (open_place columns rs) r × (is_last falls r.operator ≡ true)
last_bounds columns rs named true r h =
    let place = open_place columns rs in
    let p = found (bounds_below place) rs r h in
    let parts = column_of is_lower place r p.passes in
    (bounds columns rs named p.place r p.stands parts.0, parts.1)
last_bounds columns rs named false r h =
    let place = open_place columns rs in
    let p = found (bounds_above place) rs r h in
    let parts = column_of is_upper place r p.passes in
    (bounds columns rs named p.place r p.stands parts.0, parts.1)

-- the bytes of a row from a clustering column on begin with its word
word_at : (row : ℕ → CqlValue) (place : ℕ) (ds : List ColumnDef) (d : ColumnDef) → slice_get ds 0 ≡ Some d → d.kind ≡ Clustering
    → (rest : List ℕ) × (bytes_from row place ds ≡ order_word d.is_descending (row place) ++ rest)
word_at row place [] d h kind = absurd (cc)
word_at row place (e ∷ es) d h kind =
    let same : e ≡ d = cc in
    let rest = bytes_from row (place + 1) es in (
      rest,
      ap (λ (x : ColumnDef). bytes_from row place (x ∷ es)) same
          ∙ (λ i. cond (is_clustering (kind i)) (order_word d.is_descending (row place) ++ rest) rest),
    )

row_end : (row : List ℕ) (b : Bool) → signs_cmp (signs row 1) ((end_of b, 0) ∷ []) ≡ cond b Less Greater
row_end row true = before_last row
row_end row false = behind_first row

-- a row and the word of a bound
bound_cmp : KeepsOrder → ComparesTypes → (columns : List ColumnDef) (rs : List (Restriction CqlValue)) (row : ℕ → CqlValue) → NameRows columns rs → IsRow columns row
    → (place : ℕ) (r : Restriction CqlValue) → Bounds columns rs place r → (falls : Bool) → falls ≡ falls_at (slice_get columns place) → (b : Bool)
    → (c : Compared (row place) r) × (signs_cmp (signs (bytes_from row place (drop place columns)) 1) (signs (order_word falls r.value) (end_of b))
    ≡ ordering_then (directed falls c.order) (cond b Less Greater))
bound_cmp keeps compares columns rs row named is_row place r bound falls turned b =
    let d = bound.def in
    let c = compared compares columns rs row named is_row bound.index r place d bound.stands bound.column bound.here bound.kind in
    let desc : d.is_descending ≡ falls = sym (turned ∙ ap falls_at bound.here) in
    let front = word_at row place (drop place columns) d (sym (head_at columns place) ∙ bound.here) bound.kind in
    let bytes : bytes_from row place (drop place columns) ≡ order_word falls (row place) ++ front.0 =
    front.1 ∙ ap (λ (f : Bool). order_word f (row place) ++ front.0) desc in (
      c,
      (λ i. signs_cmp ((ap (λ (l : List ℕ). signs l 1) bytes ∙ signs_append (order_word falls (row place)) front.0 1) i) (signs (order_word falls r.value) (end_of b)))
          ∙ (words_decide keeps falls (row place) r.value c.order c.row_fits c.fits c.ordered (signs front.0 1) ((end_of b, 0) ∷ [])
          ∙ ap (λ (o : Ordering). ordering_then (directed falls c.order) o) (row_end front.0 b)),
    )

-- ---- the row meets a bound, where there is one

abbrev MeetsBound : CqlValue → Option (Restriction CqlValue) → Type 0
MeetsBound w None = Unit {0}
MeetsBound w (Some r) = meets w r ≡ true

greater_is : (o : Ordering) → (o ≡ Greater) ↔ (is_gt o ≡ true)
greater_is Less = (λ e. absurd (cc), λ e. absurd (cc))
greater_is Equal = (λ e. absurd (cc), λ e. absurd (cc))
greater_is Greater = (λ e. refl, λ e. refl)

less_is : (o : Ordering) → (o ≡ Less) ↔ (is_lt o ≡ true)
less_is Less = (λ e. refl, λ e. refl)
less_is Equal = (λ e. absurd (cc), λ e. absurd (cc))
less_is Greater = (λ e. absurd (cc), λ e. absurd (cc))

-- what a row's bytes go on with
abbrev tail_signs : List ColumnDef → (ℕ → CqlValue) → ℕ → List (ℕ × ℕ)
tail_signs columns row place = signs (bytes_from row place (drop place columns)) 1

begin_met : KeepsOrder → ComparesTypes → (columns : List ColumnDef) (rs : List (Restriction CqlValue)) (row : ℕ → CqlValue) → NameRows columns rs → IsRow columns row
    → (b : Option (Restriction CqlValue)) → first_bound (falls_open columns rs) rs (open_place columns rs) ≡ b
    → (signs_cmp (tail_signs columns row (open_place columns rs)) (begin_signs (falls_open columns rs) b) ≡ Greater) ↔ MeetsBound (row (open_place columns rs)) b
begin_met keeps compares columns rs row named is_row None e = (λ h. tt, λ h. behind_first (bytes_from row (open_place columns rs) (drop (open_place columns rs) columns)))
begin_met keeps compares columns rs row named is_row (Some r) e =
    let place = open_place columns rs in
    let falls = falls_open columns rs in
    let first = first_bounds columns rs named falls r e in
    let both = bound_cmp keeps compares columns rs row named is_row place r first.0 falls refl (is_strict r.operator) in
    let order = both.0.order in
    let found_order = signs_cmp (tail_signs columns row place) (signs (order_word falls r.value) (end_of (is_strict r.operator))) in
    let test : is_gt found_order ≡ meets (row place) r = ap is_gt both.1 ∙ (first_met falls r.operator order first.1 ∙ sym (meets_is (row place) r both.0)) in
    (λ h. sym test ∙ (greater_is found_order).0 h, λ h. (greater_is found_order).1 (test ∙ h))

end_met : KeepsOrder → ComparesTypes → (columns : List ColumnDef) (rs : List (Restriction CqlValue)) (row : ℕ → CqlValue) → NameRows columns rs → IsRow columns row
    → (b : Option (Restriction CqlValue)) → last_bound (falls_open columns rs) rs (open_place columns rs) ≡ b
    → (signs_cmp (tail_signs columns row (open_place columns rs)) (end_signs (falls_open columns rs) b) ≡ Less) ↔ MeetsBound (row (open_place columns rs)) b
end_met keeps compares columns rs row named is_row None e = (λ h. tt, λ h. before_last (bytes_from row (open_place columns rs) (drop (open_place columns rs) columns)))
end_met keeps compares columns rs row named is_row (Some r) e =
    let place = open_place columns rs in
    let falls = falls_open columns rs in
    let last = last_bounds columns rs named falls r e in
    let both = bound_cmp keeps compares columns rs row named is_row place r last.0 falls refl (not (is_strict r.operator)) in
    let order = both.0.order in
    let found_order = signs_cmp (tail_signs columns row place) (signs (order_word falls r.value) (end_of (not (is_strict r.operator)))) in
    let test : is_lt found_order ≡ meets (row place) r = ap is_lt both.1 ∙ (last_met falls r.operator order last.1 ∙ sym (meets_is (row place) r both.0)) in
    (λ h. sym test ∙ (less_is found_order).0 h, λ h. (less_is found_order).1 (test ∙ h))

on_row_is : (columns : List ColumnDef) (rs : List (Restriction CqlValue)) (place : ℕ) (r : Restriction CqlValue) → Bounds columns rs place r → is_on_row columns r ≡ true
on_row_is columns rs place r b = ap (is_clustering_at columns) b.column ∙ (ap (is_of_kind is_clustering) b.here ∙ ap is_clustering b.kind)

-- where a row meets all, it meets the bound
bound_met : (columns : List ColumnDef) (rs : List (Restriction CqlValue)) (row : ℕ → CqlValue) → MeetsAll columns rs row → (place : ℕ) (b : Option (Restriction CqlValue))
    → ((r : Restriction CqlValue) → b ≡ Some r → Bounds columns rs place r) → MeetsBound (row place) b
bound_met columns rs row all place None h = tt
bound_met columns rs row all place (Some r) h =
    let b = h r refl in
    subst (λ (n : ℕ). meets (row n) r ≡ true) b.column (all b.index r b.stands (on_row_is columns rs place r b))

sides : (w : CqlValue) (rs : List (Restriction CqlValue)) (place : ℕ) (falls : Bool) → MeetsBound w (first_bound falls rs place) → MeetsBound w (last_bound falls rs place)
    → MeetsBound w (lower_bound rs place) × MeetsBound w (upper_bound rs place)
sides w rs place true f l = (l, f)
sides w rs place false f l = (f, l)

-- ---- the first column that is not fixed

free_from : (columns : List ColumnDef) (rs : List (Restriction CqlValue)) (place : ℕ) (ds : List ColumnDef) → drop place columns ≡ ds
    → (d : ColumnDef) → slice_get columns (open_from rs place ds) ≡ Some d → d.kind ≡ Clustering → is_fixed rs (open_from rs place ds) ≡ false
free_from columns rs place [] left d at kind =
    let none = head_at columns place ∙ ap (λ (l : List ColumnDef). slice_get l 0) left in
    absurd (cc)
free_from columns rs place (e ∷ es) left d at kind =
    go (is_key e.kind && is_fixed rs place) refl at (λ h. free_from columns rs (place + 1) es (left_next columns es place e left) d h kind)
  where
    go : (b : Bool) → (is_key e.kind && is_fixed rs place) ≡ b → slice_get columns (cond b (open_from rs (place + 1) es) place) ≡ Some d
        → (slice_get columns (open_from rs (place + 1) es) ≡ Some d → is_fixed rs (open_from rs (place + 1) es) ≡ false)
        → is_fixed rs (cond b (open_from rs (place + 1) es) place) ≡ false
    go true h here rest = rest here
    go false h here rest =
        let first : slice_get columns place ≡ Some e = head_at columns place ∙ ap (λ (l : List ColumnDef). slice_get l 0) left in
        let same : d ≡ e = cc in
        and_false (is_key e.kind) (is_fixed rs place) h (ap (λ (x : ColumnDef). is_key x.kind) (sym same) ∙ ap is_key kind)

up_to : (a b : ℕ) → nat_lt a b ≡ false → (b < a) ⊎ (b ≡ a)
up_to a b h = grind (arith, nat_tests)

-- a relation on a clustering column is on one that is fixed, or on the first that is not
not_behind : (columns : List ColumnDef) (rs : List (Restriction CqlValue)) → NameRows columns rs → (i : ℕ) (r : Restriction CqlValue) → slice_get rs i ≡ Some r
    → (r.column < open_place columns rs) ⊎ (r.column ≡ open_place columns rs)
not_behind columns rs named i r stands =
    let place = open_place columns rs in
    let rest = (or_parts (is_partition_at columns place) (list_any (bounds_partition columns) rs || list_any (is_behind columns place) rs) named.slice).1 in
    let behind = (or_parts (list_any (bounds_partition columns) rs) (list_any (is_behind columns place) rs) rest).1 in
    let here = none_passes (is_behind columns place) rs i r behind stands in
    up_to place r.column (and_false (is_key_at columns r.column) (nat_lt place r.column) here (on_key columns rs named i r stands))

-- ---- the law

all_met : (columns : List ColumnDef) (rs : List (Restriction CqlValue)) (row : ℕ → CqlValue) → NameRows columns rs → (prefix bytes : List ℕ)
    → Same columns rs row 0 (open_place columns rs) prefix bytes
    → MeetsBound (row (open_place columns rs)) (lower_bound rs (open_place columns rs)) × MeetsBound (row (open_place columns rs)) (upper_bound rs (open_place columns rs))
    → MeetsAll columns rs row
all_met columns rs row named prefix bytes s met = λ i r stands on. one i r stands (clustering_at (slice_get columns r.column) on) (not_behind columns rs named i r stands)
  where
    one : (i : ℕ) (r : Restriction CqlValue) → slice_get rs i ≡ Some r → (d : ColumnDef) × (slice_get columns r.column ≡ Some d) × (d.kind ≡ Clustering)
        → (r.column < open_place columns rs) ⊎ (r.column ≡ open_place columns rs) → meets (row r.column) r ≡ true
    one i r stands d (inl before) =
        let m = s.met r.column d.0 (omega arith) before d.1 d.2 in
        let same = fixed_is rs r.column m.0 (once_at columns rs named r.column d.0 d.1 d.2) m.1 i r stands refl in
        ap (meets (row r.column)) same ∙ m.2
    one i r stands d (inr here) =
        let place = open_place columns rs in
        let at : slice_get columns place ≡ Some d.0 = sym (ap (slice_get columns) here) ∙ d.1 in
        let once = once_at columns rs named place d.0 at d.2 in
        let bound = bound_is rs place once (free_from columns rs 0 columns refl d.0 at d.2) i r stands here in
        ap (λ (n : ℕ). meets (row n) r) here ∙ by_bound place r bound met
      where
        by_bound : (place : ℕ) (r : Restriction CqlValue) → (lower_bound rs place ≡ Some r) ⊎ (upper_bound rs place ≡ Some r)
            → MeetsBound (row place) (lower_bound rs place) × MeetsBound (row place) (upper_bound rs place) → meets (row place) r ≡ true
        by_bound place r (inl e) met = subst (MeetsBound (row place)) e met.0
        by_bound place r (inr e) met = subst (MeetsBound (row place)) e met.1

-- the order of a row to the two bounds
abbrev Orders : List ColumnDef → List (Restriction CqlValue) → (ℕ → CqlValue) → Type 0
Orders columns rs row =
    (signs_cmp (row_signs (row_bytes columns row)) (bound_signs (from_of columns rs)) ≡ Greater)
    × (signs_cmp (row_signs (row_bytes columns row)) (bound_signs (upto_of columns rs)) ≡ Less)

orders_are : (columns : List ColumnDef) (rs : List (Restriction CqlValue)) (row : ℕ → CqlValue)
    → IsBetween (from_of columns rs) (upto_of columns rs) (row_bytes columns row) ↔ Orders columns rs row
orders_are columns rs row =
    let bytes = row_signs (row_bytes columns row) in
    let from = bound_signs (from_of columns rs) in
    (λ b. (signs_turned bytes from ∙ ap ordering_reverse b.0, b.1), λ o. (signs_turned from bytes ∙ ap ordering_reverse o.0, o.1))

by_front : KeepsOrder → ComparesTypes → (columns : List ColumnDef) (rs : List (Restriction CqlValue)) (row : ℕ → CqlValue) → NameRows columns rs → IsRow columns row
    → Front columns rs row 0 (open_place columns rs) (prefix_bytes columns rs) (row_bytes columns row) → Orders columns rs row ↔ MeetsAll columns rs row
by_front keeps compares columns rs row named is_row (apart a) =
    let falls = falls_open columns rs in
    let prefix = prefix_bytes columns rs in
    let first = first_bound falls rs (open_place columns rs) in
    let last = last_bound falls rs (open_place columns rs) in
    let low = ap (signs_cmp (row_signs (row_bytes columns row))) (begin_is prefix falls first) ∙ a.decided (begin_signs falls first) in
    let high = ap (signs_cmp (row_signs (row_bytes columns row))) (end_is prefix falls last) ∙ a.decided (end_signs falls last) in (
      λ o. let e : ◌≡◌ {A = Ordering} Greater Less = sym o.0 ∙ (low ∙ (sym high ∙ o.1)) in absurd (cc),
      λ all. let e : ◌≡◌ {A = Bool} true false = sym (all a.place a.relation a.stands a.on_row) ∙ a.unmet in absurd (cc),
    )
by_front keeps compares columns rs row named is_row (same s) =
    let place = open_place columns rs in
    let falls = falls_open columns rs in
    let prefix = prefix_bytes columns rs in
    let first = first_bound falls rs place in
    let last = last_bound falls rs place in
    let tail = bytes_from row place (drop place columns) in
    let bytes : row_signs (row_bytes columns row) ≡ map byte_sign prefix ++ signs tail 1 =
    ap (λ (l : List ℕ). signs l 1) s.front ∙ signs_append prefix tail 1 in
    let low : signs_cmp (row_signs (row_bytes columns row)) (bound_signs (from_of columns rs)) ≡ signs_cmp (signs tail 1) (begin_signs falls first) =
    (λ i. signs_cmp (bytes i) (begin_is prefix falls first i)) ∙ same_front prefix (signs tail 1) (begin_signs falls first) in
    let high : signs_cmp (row_signs (row_bytes columns row)) (bound_signs (upto_of columns rs)) ≡ signs_cmp (signs tail 1) (end_signs falls last) =
    (λ i. signs_cmp (bytes i) (end_is prefix falls last i)) ∙ same_front prefix (signs tail 1) (end_signs falls last) in
    let begins = begin_met keeps compares columns rs row named is_row first refl in
    let ends = end_met keeps compares columns rs row named is_row last refl in (
      λ o. all_met columns rs row named prefix (row_bytes columns row) s
          (sides (row place) rs place falls (begins.0 (sym low ∙ o.0)) (ends.0 (sym high ∙ o.1))),
      λ all. (
        low ∙ begins.1 (bound_met columns rs row all place first (λ r e. (first_bounds columns rs named falls r e).0)),
        high ∙ ends.1 (bound_met columns rs row all place last (λ r e. (last_bounds columns rs named falls r e).0)),
      ),
    )

pub bounds_enclose_rows : KeepsOrder → ComparesTypes → BoundsEncloseRows
bounds_enclose_rows keeps compares = λ columns rs row named is_row.
    let place = open_place columns rs in
    let away = (or_parts (is_partition_at columns place) (list_any (bounds_partition columns) rs || list_any (is_behind columns place) rs) named.slice).0 in
    let orders = orders_are columns rs row in
    let met = by_front keeps compares columns rs row named is_row (front_from keeps compares columns rs row named is_row 0 columns refl away) in
    (λ b. met.0 (orders.0 b), λ all. orders.1 (met.1 all))
