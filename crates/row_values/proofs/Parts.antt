-- The values of a partition key, column by column.
use Rattle.std.proofs.Common.{◌≡◌, ◌≢◌, ◌≤◌, ℕ, ◌∷◌, ◌++◌, [], Bool, true, false, cond, eqb, List, Option, Some, length, drop, refl, sym, ap, ◌∙◌, arith}
use Rattle.cql_values.specs.declared.value.CqlValue.{CqlValue}
use Rattle.key_restrictions.specs.Places.{is_partition}
use Rattle.schema_book.specs.declared.table.ColumnDef.{ColumnDef}
use Rattle.std.proofs.Math.ListN.{drop_of_length-le}
use Rattle.std.proofs.lemmas.Bool.Decides.{nat_tests}
use Rattle.std.proofs.lemmas.List.{append-nil}
use Rattle.row_values.specs.Keys.{first_part, behind_part, framed_parts, key_parts}
use Rattle.row_values.specs.Values.{value_in, value_at, partition_columns, part_values, key_values}

-- each column has the whole key
abbrev pub whole_left : List ℕ → List ColumnDef → List (Option CqlValue)
whole_left key [] = []
whole_left key (c ∷ cs) = cond (is_partition c.kind) (value_in c.ty key ∷ whole_left key cs) (whole_left key cs)

-- each column has the part at the front of what is left
abbrev pub parts_left : List ℕ → List ColumnDef → List (Option CqlValue)
parts_left rest [] = []
parts_left rest (c ∷ cs) = cond (is_partition c.kind) (value_at c.ty (first_part rest) ∷ parts_left (behind_part rest) cs) (parts_left rest cs)

-- what was added for all columns, once no column is left
pub added : (values_of : List ColumnDef → List (Option CqlValue)) (old so_far wanted all : List (Option CqlValue)) (columns : List ColumnDef) (i : ℕ)
    → values_of [] ≡ [] → length columns ≤ i → so_far ++ values_of (drop i columns) ≡ old ++ all → all ≡ wanted → so_far ≡ old ++ wanted
added values_of old so_far wanted all columns i none past h same =
    sym (append-nil so_far)
    ∙ (ap (λ (vs : List (Option CqlValue)). so_far ++ vs) (sym none ∙ ap values_of (sym (drop_of_length-le columns {i = i} past)))
    ∙ (h ∙ ap (λ (vs : List (Option CqlValue)). old ++ vs) same))

-- ---- one column

whole_gone : (key : List ℕ) (cs : List ColumnDef) → length (partition_columns cs) ≡ 0 → whole_left key cs ≡ []
whole_gone key [] h = refl
whole_gone key (c ∷ cs) h = go (is_partition c.kind) h (whole_gone key cs)
  where
    go : (b : Bool) → length (cond b (c ∷ partition_columns cs) (partition_columns cs)) ≡ 0 → (length (partition_columns cs) ≡ 0 → whole_left key cs ≡ [])
        → cond b (value_in c.ty key ∷ whole_left key cs) (whole_left key cs) ≡ []
    go true h later = absurd (omega arith)
    go false h later = later h

values_gone : (ps : List ColumnDef) → length ps ≡ 0 → part_values ps [] ≡ []
values_gone [] h = refl
values_gone (p ∷ ps) h = absurd (omega arith)

whole_step : (key : List ℕ) (cs : List ColumnDef) → length (partition_columns cs) ≡ 1 → whole_left key cs ≡ part_values (partition_columns cs) (Some key ∷ [])
whole_step key [] h = absurd (omega arith)
whole_step key (c ∷ cs) h = go (is_partition c.kind) h (whole_step key cs)
  where
    go : (b : Bool) → length (cond b (c ∷ partition_columns cs) (partition_columns cs)) ≡ 1
        → (length (partition_columns cs) ≡ 1 → whole_left key cs ≡ part_values (partition_columns cs) (Some key ∷ []))
        → cond b (value_in c.ty key ∷ whole_left key cs) (whole_left key cs)
        ≡ part_values (cond b (c ∷ partition_columns cs) (partition_columns cs)) (Some key ∷ [])
    go true h later =
        let none : length (partition_columns cs) ≡ 0 = omega arith in
        ap (λ (vs : List (Option CqlValue)). value_in c.ty key ∷ vs) (whole_gone key cs none ∙ sym (values_gone (partition_columns cs) none))
    go false h later = later h

pub whole_values : (columns : List ColumnDef) (key : List ℕ) → length (partition_columns columns) ≡ 1 → whole_left key columns ≡ key_values columns key
whole_values columns key h =
    whole_step key columns h ∙ sym (ap (λ (n : ℕ). part_values (partition_columns columns) (key_parts n key)) h)

-- ---- several columns

parts_step : (rest : List ℕ) (cs : List ColumnDef) → parts_left rest cs ≡ part_values (partition_columns cs) (framed_parts (length (partition_columns cs)) rest)
parts_step rest [] = refl
parts_step rest (c ∷ cs) = go (is_partition c.kind) (parts_step (behind_part rest) cs) (parts_step rest cs)
  where
    go : (b : Bool) → parts_left (behind_part rest) cs ≡ part_values (partition_columns cs) (framed_parts (length (partition_columns cs)) (behind_part rest))
        → parts_left rest cs ≡ part_values (partition_columns cs) (framed_parts (length (partition_columns cs)) rest)
        → cond b (value_at c.ty (first_part rest) ∷ parts_left (behind_part rest) cs) (parts_left rest cs)
        ≡ part_values (cond b (c ∷ partition_columns cs) (partition_columns cs)) (framed_parts (length (cond b (c ∷ partition_columns cs) (partition_columns cs))) rest)
    go true behind here = ap (λ (vs : List (Option CqlValue)). value_at c.ty (first_part rest) ∷ vs) behind
    go false behind here = here

is_other : (n : ℕ) → n ≢ 1 → eqb n 1 ≡ false
is_other n h = grind (arith, nat_tests)

pub parts_are_framed : (n : ℕ) (key : List ℕ) → n ≢ 1 → framed_parts n key ≡ key_parts n key
parts_are_framed n key h = sym (ap (λ (b : Bool). cond b (Some key ∷ []) (framed_parts n key)) (is_other n h))

pub parts_values : (columns : List ColumnDef) (key : List ℕ) → length (partition_columns columns) ≢ 1 → parts_left key columns ≡ key_values columns key
parts_values columns key h =
    parts_step key columns ∙ ap (part_values (partition_columns columns)) (parts_are_framed (length (partition_columns columns)) key h)
