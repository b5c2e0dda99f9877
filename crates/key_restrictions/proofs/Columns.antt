-- What is known of the relations on one column.
use Rattle.std.proofs.Common.{◌≡◌, ◌+◌, ◌≤◌, ◌⊎◌, inl, inr, ℕ, zero, suc, ◌∷◌, [], ◌||◌, ◌&&◌, Bool, true, false, not, eqb, List, Option, Some, None, arith, refl, sym, ap, ◌∙◌, subst}
use Rattle.std.specs.Option.{is_some}
use Rattle.std.specs.Prelude.{nat_lt, slice_get}
use Rattle.std.specs.declared.cmp.Ordering.{Ordering}
use Rattle.std.specs.Ordering.{is_eq}
use Rattle.std.proofs.lemmas.Bool.{eqb-true}
use Rattle.std.proofs.lemmas.Bool.Decides.{nat_tests}
use Rattle.cql_statement.specs.declared.term.RelationOperator.{RelationOperator}
use Rattle.cql_statement.specs.declared.term.RelationOperator.TheVariants as operators
use Rattle.cql_values.specs.Value.{IsValue}
use Rattle.cql_values.specs.Order.{value_order, ComparesTypes}
use Rattle.cql_values.specs.declared.value.CqlValue.{CqlValue}
use Rattle.schema_book.specs.declared.table.ColumnDef.{ColumnDef}
use Rattle.schema_book.specs.declared.table.ColumnKind.{ColumnKind}
use Rattle.schema_book.specs.declared.table.ColumnKind.TheVariants.{Partition, Clustering, Regular}
use Rattle.key_restrictions.specs.declared.restriction.Restriction.{Restriction}
use Rattle.key_restrictions.specs.Operators.{is_equal, is_lower, is_upper}
use Rattle.key_restrictions.specs.Places.{is_partition, is_key, is_clustering, is_of_kind, is_key_at, fixes, bounds_below, bounds_above, is_fixed, fixing, lower_bound, upper_bound}
use Rattle.key_restrictions.specs.Checks.{fixed_times, lower_times, upper_times, is_fixed_twice, is_twice_at, is_twice_from, is_other}
use Rattle.key_restrictions.specs.Laws.{is_met, is_met_in, meets, NameRows, IsRow}
use Rattle.key_restrictions.proofs.Lookups.{or_parts, found, none_passes, some_count, lone_found}

pub and_parts : (a b : Bool) → (a && b) ≡ true → (a ≡ true) × (b ≡ true)
and_parts true b h = (refl, h)
and_parts false b h = absurd (cc)

pub and_false : (a b : Bool) → (a && b) ≡ false → a ≡ true → b ≡ false
and_false true b h e = h
and_false false b h e = absurd (cc)

below_one : (n : ℕ) → nat_lt 1 n ≡ false → n ≤ 1
below_one n h = grind (arith, nat_tests)

below_zero : (n : ℕ) → nat_lt 0 n ≡ false → n ≡ 0
below_zero n h = grind (arith, nat_tests)

above_zero : (n : ℕ) → 1 ≤ n → nat_lt 0 n ≡ true
above_zero n h = grind (arith, nat_tests)

itself : (a b : ℕ) → a ≡ b → eqb a b ≡ true
itself a b h = grind (arith, nat_tests)

-- ---- columns that do not stand twice

pub record StandsOnce (rs : List (Restriction CqlValue)) (place : ℕ) : Type 0 where
  pub fixed : fixed_times rs place ≤ 1
  pub lower : lower_times rs place ≤ 1
  pub upper : upper_times rs place ≤ 1
  pub no_lower : 1 ≤ fixed_times rs place → lower_times rs place ≡ 0
  pub no_upper : 1 ≤ fixed_times rs place → upper_times rs place ≡ 0

no_bound : (f l u : ℕ) → (nat_lt 0 f && (nat_lt 0 l || nat_lt 0 u)) ≡ false → 1 ≤ f → (l ≡ 0) × (u ≡ 0)
no_bound f l u h some =
    let parts = or_parts (nat_lt 0 l) (nat_lt 0 u) (and_false (nat_lt 0 f) (nat_lt 0 l || nat_lt 0 u) h (above_zero f some)) in
    (below_zero l parts.0, below_zero u parts.1)

stands_once : (rs : List (Restriction CqlValue)) (place : ℕ) → is_twice_at rs place ≡ false → StandsOnce rs place
stands_once rs place h =
    let f = fixed_times rs place in
    let l = lower_times rs place in
    let u = upper_times rs place in
    let all = or_parts (is_fixed_twice f l u) (nat_lt 1 l || nat_lt 1 u) h in
    let bounds = or_parts (nat_lt 1 l) (nat_lt 1 u) all.1 in
    let fixed = or_parts (nat_lt 1 f) (nat_lt 0 f && (nat_lt 0 l || nat_lt 0 u)) all.0 in
    record {
      fixed = below_one f fixed.0;
      lower = below_one l bounds.0;
      upper = below_one u bounds.1;
      no_lower = λ some. (no_bound f l u fixed.1 some).0;
      no_upper = λ some. (no_bound f l u fixed.1 some).1;
    }

not_twice : (rs : List (Restriction CqlValue)) (start : ℕ) (ds : List ColumnDef) (i : ℕ) (d : ColumnDef) → is_twice_from rs start ds ≡ false
    → slice_get ds i ≡ Some d → is_key d.kind ≡ true → is_twice_at rs (start + i) ≡ false
not_twice rs start [] i d h at key = absurd (cc)
not_twice rs start (e ∷ es) zero d h at key =
    let same : d ≡ e = cc in
    let parts = or_parts (is_key e.kind && is_twice_at rs start) (is_twice_from rs (start + 1) es) h in
    ap (λ (n : ℕ). is_twice_at rs n) (let n : start + 0 ≡ start = omega arith in n)
    ∙ and_false (is_key e.kind) (is_twice_at rs start) parts.0 (subst (λ (x : ColumnDef). is_key x.kind ≡ true) same key)
not_twice rs start (e ∷ es) (suc i) d h at key =
    let parts = or_parts (is_key e.kind && is_twice_at rs start) (is_twice_from rs (start + 1) es) h in
    ap (λ (n : ℕ). is_twice_at rs n) (let n : start + suc i ≡ (start + 1) + i = omega arith in n) ∙ not_twice rs (start + 1) es i d parts.1 at key

pub once_at : (columns : List ColumnDef) (rs : List (Restriction CqlValue)) → NameRows columns rs → (place : ℕ) (d : ColumnDef)
    → slice_get columns place ≡ Some d → d.kind ≡ Clustering → StandsOnce rs place
once_at columns rs named place d at kind =
    stands_once rs place
    (ap (λ (n : ℕ). is_twice_at rs n) (let n : place ≡ 0 + place = omega arith in n) ∙ not_twice rs 0 columns place d named.once at (ap is_key kind))

-- ---- relations by their side

data Side (operator : RelationOperator) : Type 0 where
  equal : is_equal operator ≡ true → Side operator
  lower : is_lower operator ≡ true → Side operator
  upper : is_upper operator ≡ true → Side operator

side_of : (operator : RelationOperator) → Side operator
side_of operators.Equal = equal refl
side_of operators.Less = upper refl
side_of operators.LessOrEqual = upper refl
side_of operators.Greater = lower refl
side_of operators.GreaterOrEqual = lower refl

-- it is on the column, and on the side
on_side : (side : RelationOperator → Bool) (place : ℕ) (r : Restriction CqlValue) → r.column ≡ place → side r.operator ≡ true
    → (eqb r.column place && side r.operator) ≡ true
on_side side place r column is = (λ i. itself r.column place column i && side r.operator) ∙ is

pub column_of : (side : RelationOperator → Bool) (place : ℕ) (r : Restriction CqlValue) → (eqb r.column place && side r.operator) ≡ true
    → (r.column ≡ place) × (side r.operator ≡ true)
column_of side place r h =
    let parts = and_parts (eqb r.column place) (side r.operator) h in
    (eqb-true r.column place parts.0, parts.1)

-- a column that is fixed has one relation
pub fixed_is : (rs : List (Restriction CqlValue)) (place : ℕ) (f : Restriction CqlValue) → StandsOnce rs place → fixing rs place ≡ Some f
    → (i : ℕ) (r : Restriction CqlValue) → slice_get rs i ≡ Some r → r.column ≡ place → r ≡ f
fixed_is rs place f once is i r at column = go (side_of r.operator)
  where
    go : Side r.operator → r ≡ f
    go (equal e) = let here = lone_found (fixes place) rs i r once.fixed at (on_side is_equal place r column e) in cc
    go (lower e) =
        let p = found (fixes place) rs f is in
        let some = some_count (fixes place) rs p.place f p.stands p.passes in
        let other = some_count (bounds_below place) rs i r at (on_side is_lower place r column e) in
        let none = once.no_lower some in
        absurd (omega (arith, none, other))
    go (upper e) =
        let p = found (fixes place) rs f is in
        let some = some_count (fixes place) rs p.place f p.stands p.passes in
        let other = some_count (bounds_above place) rs i r at (on_side is_upper place r column e) in
        let none = once.no_upper some in
        absurd (omega (arith, none, other))

-- and one that is not has its bounds
pub bound_is : (rs : List (Restriction CqlValue)) (place : ℕ) → StandsOnce rs place → is_fixed rs place ≡ false
    → (i : ℕ) (r : Restriction CqlValue) → slice_get rs i ≡ Some r → r.column ≡ place → (lower_bound rs place ≡ Some r) ⊎ (upper_bound rs place ≡ Some r)
bound_is rs place once free i r at column = go (side_of r.operator)
  where
    go : Side r.operator → (lower_bound rs place ≡ Some r) ⊎ (upper_bound rs place ≡ Some r)
    go (equal e) =
        let no = none_passes (fixes place) rs i r free at in
        let passes = on_side is_equal place r column e in
        absurd (cc)
    go (lower e) = inl (lone_found (bounds_below place) rs i r once.lower at (on_side is_lower place r column e))
    go (upper e) = inr (lone_found (bounds_above place) rs i r once.upper at (on_side is_upper place r column e))

-- ---- the value of a row and that of a relation

pub record Compared (w : CqlValue) (r : Restriction CqlValue) : Type 0 where
  pub fits : IsValue r.value
  pub row_fits : IsValue w
  pub order : Ordering
  pub ordered : value_order w r.value ≡ Some order

some_of : {A : Type 0} (o : Option A) → is_some o ≡ true → (x : A) × (o ≡ Some x)
some_of None h = absurd (cc)
some_of (Some x) h = (x, refl)

pub compared : ComparesTypes → (columns : List ColumnDef) (rs : List (Restriction CqlValue)) (row : ℕ → CqlValue) → NameRows columns rs → IsRow columns row
    → (i : ℕ) (r : Restriction CqlValue) (place : ℕ) (d : ColumnDef) → slice_get rs i ≡ Some r → r.column ≡ place → slice_get columns place ≡ Some d → d.kind ≡ Clustering
    → Compared (row place) r
compared compares columns rs row named is_row i r place d stands column at kind =
    let typed = named.typed i r d stands (ap (slice_get columns) column ∙ at) in
    let here = is_row place d at kind in
    let some = compares (row place) r.value (here.0.0 ∙ sym typed.0) (λ e. here.1 (sym here.0.0 ∙ e)) in
    let order = some_of (value_order (row place) r.value) some in
    record {
      fits = typed.1;
      row_fits = here.0.1;
      order = order.0;
      ordered = order.1;
    }

pub meets_is : (w : CqlValue) (r : Restriction CqlValue) (c : Compared w r) → meets w r ≡ is_met r.operator c.order
meets_is w r c = ap (is_met_in r.operator) c.ordered

pub meets_equal : (operator : RelationOperator) (o : Ordering) → is_equal operator ≡ true → is_met operator o ≡ is_eq o
meets_equal operators.Equal o e = refl
meets_equal operators.Less o e = absurd (cc)
meets_equal operators.LessOrEqual o e = absurd (cc)
meets_equal operators.Greater o e = absurd (cc)
meets_equal operators.GreaterOrEqual o e = absurd (cc)

-- ---- the first column that is not fixed

pub not_free : (a : Bool) → not a ≡ false → a ≡ true
not_free true h = refl
not_free false h = absurd (cc)

-- each relation is on a column of the key
pub on_key : (columns : List ColumnDef) (rs : List (Restriction CqlValue)) → NameRows columns rs → (i : ℕ) (r : Restriction CqlValue) → slice_get rs i ≡ Some r
    → is_key_at columns r.column ≡ true
on_key columns rs named i r stands = not_free (is_key_at columns r.column) (none_passes (is_other columns) rs i r named.of_key stands)

pub clustering_of : (o : Option ColumnDef) → is_of_kind is_key o ≡ true → is_of_kind is_partition o ≡ false → (d : ColumnDef) × (o ≡ Some d) × (d.kind ≡ Clustering)
clustering_of None key part = absurd (cc)
clustering_of (Some d) key part = go d.kind refl key part
  where
    go : (k : ColumnKind) → d.kind ≡ k → is_key k ≡ true → is_partition k ≡ false → (e : ColumnDef) × (Some d ≡ Some e) × (e.kind ≡ Clustering)
    go Partition e key part = absurd (cc)
    go Clustering e key part = (d, refl, e)
    go Regular e key part = absurd (cc)

pub clustering_at : (o : Option ColumnDef) → is_of_kind is_clustering o ≡ true → (d : ColumnDef) × (o ≡ Some d) × (d.kind ≡ Clustering)
clustering_at None h = absurd (cc)
clustering_at (Some d) h = go d.kind refl h
  where
    go : (k : ColumnKind) → d.kind ≡ k → is_clustering k ≡ true → (e : ColumnDef) × (Some d ≡ Some e) × (e.kind ≡ Clustering)
    go Partition e h = absurd (cc)
    go Clustering e h = (d, refl, e)
    go Regular e h = absurd (cc)
