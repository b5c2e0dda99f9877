-- The values of a row are of the types of their columns.
use Rattle.std.proofs.Common.{◌≡◌, ◌+◌, ℕ, ◌∷◌, ◌++◌, [], Bool, true, false, cond, List, Option, Some, None, Result, Ok, Err, inl, inr, length, drop, refl, sym, ap, ◌∙◌, subst}
use Rattle.std.specs.List.{filter}
use Rattle.std.specs.Prelude.{nat_le, position}
use Rattle.std.specs.Result.{result_ok}
use Rattle.std.proofs.lemmas.List.{append-nil}
use Rattle.std.proofs.lemmas.List.Elements.{filter-append}
use Rattle.changes.specs.declared.ShownCell.{ShownCell}
use Rattle.changes.specs.declared.ShownRow.{ShownRow}
use Rattle.cql_values.specs.Protocol.{ascii_unless, decoded}
use Rattle.cql_values.specs.Value.{type_of}
use Rattle.cql_values.specs.declared.error.ValueError.{ValueError}
use Rattle.cql_values.specs.declared.error.ValueError.TheVariants as errors
use Rattle.cql_values.specs.declared.value.CqlType.{CqlType}
use Rattle.cql_values.specs.declared.value.CqlType.TheVariants as types
use Rattle.cql_values.specs.declared.value.CqlValue.{CqlValue}
use Rattle.cql_values.specs.declared.value.CqlValue.TheVariants as values
use Rattle.key_restrictions.specs.Places.{is_partition, is_clustering, is_key}
use Rattle.schema_book.specs.Laws.{AreAll}
use Rattle.schema_book.specs.declared.table.ColumnDef.{ColumnDef}
use Rattle.schema_book.specs.declared.table.ColumnKind.{ColumnKind}
use Rattle.schema_book.specs.declared.table.ColumnKind.TheVariants.{Partition, Clustering, Regular}
use Rattle.row_values.specs.Keys.{key_parts}
use Rattle.row_values.specs.Laws.{HasType, AreOfTypes, ValuesAreOfTypes}
use Rattle.row_values.specs.Values.{value_in, value_at, AreRead, AreValuesOf, nulls, part_values, partition_columns, clustering_columns, others_from, other_values, cell_value, key_values}

-- ---- what is decoded

typed : (w v : CqlValue) → ◌≡◌ {A = Result CqlValue ValueError} (Ok w) (Ok v) → type_of v ≡ type_of w
typed w v h = ap type_of (let e : v ≡ w = cc in e)

refused : (e : ValueError) (v : CqlValue) → ◌≡◌ {A = Result CqlValue ValueError} (Err e) (Ok v) → ⊥
refused e v h = absurd (cc)

-- a result by a test
tested : (b : Bool) (w v : CqlValue) (e : ValueError) → cond b (Ok w) (Err e) ≡ Ok v → type_of v ≡ type_of w
tested true w v e h = typed w v h
tested false w v e h = absurd (refused e v h)

ascii_typed : (bytes : List ℕ) (at : Option ℕ) (v : CqlValue) → ascii_unless bytes at ≡ Ok v → type_of v ≡ types.Ascii
ascii_typed bytes None v h = typed (values.Ascii bytes) v h
ascii_typed bytes (Some at) v h = absurd (refused (errors.NotAscii at) v h)

timeuuid_typed : (b right : Bool) (uuid : ℕ) (v : CqlValue) (e : ValueError) → cond b (cond right (Ok (values.Timeuuid uuid)) (Err errors.NotTimeuuid)) (Err e) ≡ Ok v
    → type_of v ≡ types.Timeuuid
timeuuid_typed true right uuid v e h = tested right (values.Timeuuid uuid) v errors.NotTimeuuid h
timeuuid_typed false right uuid v e h = absurd (refused e v h)

decoded_typed : (ty : CqlType) (bytes : List ℕ) (v : CqlValue) → decoded ty bytes ≡ Ok v → type_of v ≡ ty
decoded_typed types.Ascii bytes v h = ascii_typed bytes (position (nat_le 128) bytes) v h
decoded_typed types.Bigint bytes v h = tested _ (values.Bigint _) v _ h
decoded_typed types.Blob bytes v h = typed (values.Blob bytes) v h
decoded_typed types.Boolean bytes v h = tested _ (values.Boolean _) v _ h
decoded_typed types.Int bytes v h = tested _ (values.Int _) v _ h
decoded_typed types.Timestamp bytes v h = tested _ (values.Timestamp _) v _ h
decoded_typed types.Uuid bytes v h = tested _ (values.Uuid _) v _ h
decoded_typed types.Text bytes v h = tested _ (values.Text bytes) v _ h
decoded_typed types.Timeuuid bytes v h = timeuuid_typed _ _ _ v _ h
decoded_typed types.Smallint bytes v h = tested _ (values.Smallint _) v _ h
decoded_typed types.Tinyint bytes v h = tested _ (values.Tinyint _) v _ h

value_typed : (ty : CqlType) (bytes : List ℕ) → HasType ty (value_in ty bytes)
value_typed ty bytes = go (decoded ty bytes) refl
  where
    go : (r : Result CqlValue ValueError) → decoded ty bytes ≡ r → HasType ty (result_ok r)
    go (Ok v) h = decoded_typed ty bytes v h
    go (Err e) h = tt

found_typed : (ty : CqlType) (bytes : Option (List ℕ)) → HasType ty (value_at ty bytes)
found_typed ty None = tt
found_typed ty (Some bytes) = value_typed ty bytes

-- ---- the columns of each kind

parts_typed : (cs : List ColumnDef) (parts : List (Option (List ℕ))) → AreOfTypes cs (part_values cs parts)
parts_typed [] parts = tt
parts_typed (c ∷ cs) [] = (tt, parts_typed cs [])
parts_typed (c ∷ cs) (part ∷ parts) = (found_typed c.ty part, parts_typed cs parts)

nulls_typed : (cs : List ColumnDef) → AreOfTypes cs (nulls cs)
nulls_typed [] = tt
nulls_typed (c ∷ cs) = (tt, nulls_typed cs)

read_typed : (cs : List ColumnDef) (bytes : List ℕ) (xs : List (Option CqlValue)) → AreRead cs bytes xs → AreOfTypes cs xs
read_typed [] bytes xs h = subst (AreOfTypes []) (sym h) tt
read_typed (c ∷ cs) bytes xs (inl (n, v, later, front, read, is)) =
    subst (AreOfTypes (c ∷ cs)) (sym is) (front.word.0, read_typed cs (drop n bytes) later read)
read_typed (c ∷ cs) bytes xs (inr (none, is)) = subst (AreOfTypes (c ∷ cs)) (sym is) (tt, nulls_typed cs)

others_typed : (cells : List ShownCell) (number : ℕ) (cs : List ColumnDef) → AreAll Regular cs → AreOfTypes cs (others_from cells number cs)
others_typed cells number [] h = tt
others_typed cells number (c ∷ cs) h =
    subst (λ (k : ColumnKind). AreOfTypes (c ∷ cs) (cond (is_key k) (others_from cells (number + 1) cs) (cell_value cells number c.ty ∷ others_from cells (number + 1) cs)))
    (sym h.0) (found_typed c.ty _, others_typed cells (number + 1) cs h.1)

-- ---- one behind another

typed_append : (front bs : List ColumnDef) (xs ys : List (Option CqlValue)) → AreOfTypes front xs → AreOfTypes bs ys → AreOfTypes (front ++ bs) (xs ++ ys)
typed_append [] bs [] ys h more = more
typed_append [] bs (x ∷ xs) ys h more = absurd h
typed_append (a ∷ front) bs [] ys h more = absurd h
typed_append (a ∷ front) bs (x ∷ xs) ys h more = (h.0, typed_append front bs xs ys h.1 more)

-- ---- columns in the order of a table

abbrev OfKind : (ColumnKind → Bool) → List ColumnDef → List ColumnDef
OfKind is_such cs = filter (λ c. is_such c.kind) cs

kept : (is_such : ColumnKind → Bool) (kind : ColumnKind) → is_such kind ≡ true → (cs : List ColumnDef) → AreAll kind cs → OfKind is_such cs ≡ cs
kept is_such kind e [] h = refl
kept is_such kind e (c ∷ cs) h =
    (λ i. cond ((ap is_such h.0 ∙ e) i) (c ∷ OfKind is_such cs) (OfKind is_such cs)) ∙ ap (λ (ds : List ColumnDef). c ∷ ds) (kept is_such kind e cs h.1)

gone : (is_such : ColumnKind → Bool) (kind : ColumnKind) → is_such kind ≡ false → (cs : List ColumnDef) → AreAll kind cs → OfKind is_such cs ≡ []
gone is_such kind e [] h = refl
gone is_such kind e (c ∷ cs) h =
    (λ i. cond ((ap is_such h.0 ∙ e) i) (c ∷ OfKind is_such cs) (OfKind is_such cs)) ∙ gone is_such kind e cs h.1

-- those in three parts
three : (is_such : ColumnKind → Bool) (a b c : List ColumnDef) → OfKind is_such (a ++ (b ++ c)) ≡ OfKind is_such a ++ (OfKind is_such b ++ OfKind is_such c)
three is_such a b c =
    filter-append (λ d. is_such d.kind) a (b ++ c) ∙ ap (λ (ds : List ColumnDef). OfKind is_such a ++ ds) (filter-append (λ d. is_such d.kind) b c)

-- key columns before the others
passed : (cells : List ShownCell) (kind : ColumnKind) → is_key kind ≡ true → (number : ℕ) (cs later : List ColumnDef) → AreAll kind cs
    → (from : ℕ) × (others_from cells number (cs ++ later) ≡ others_from cells from later)
passed cells kind e number [] later h = (number, refl)
passed cells kind e number (c ∷ cs) later h =
    let rest = passed cells kind e (number + 1) cs later h.1 in
    (rest.0, (λ i. cond ((ap is_key h.0 ∙ e) i) (others_from cells (number + 1) (cs ++ later)) (cell_value cells number c.ty ∷ others_from cells (number + 1) (cs ++ later))) ∙ rest.1)

in_order : (p c o : List ColumnDef) (key : List ℕ) (row : ShownRow) (xs : List (Option CqlValue)) → AreAll Partition p → AreAll Clustering c → AreAll Regular o
    → AreValuesOf (p ++ (c ++ o)) key row xs → AreOfTypes (p ++ (c ++ o)) xs
in_order p c o key row xs all_p all_c all_o h =
    let columns = p ++ (c ++ o) in
    let firsts : partition_columns columns ≡ p =
    three is_partition p c o
    ∙ ((λ i. kept is_partition Partition refl p all_p i ++ (gone is_partition Clustering refl c all_c i ++ gone is_partition Regular refl o all_o i)) ∙ append-nil p) in
    let seconds : clustering_columns columns ≡ c =
    three is_clustering p c o
    ∙ ((λ i. gone is_clustering Partition refl p all_p i ++ (kept is_clustering Clustering refl c all_c i ++ gone is_clustering Regular refl o all_o i)) ∙ append-nil c) in
    let keys = subst (λ (cs : List ColumnDef). AreOfTypes cs (key_values columns key)) firsts (parts_typed (partition_columns columns) (key_parts (length (partition_columns columns)) key)) in
    let rows = subst (λ (cs : List ColumnDef). AreOfTypes cs h.clustering) seconds (read_typed (clustering_columns columns) row.row h.clustering h.read) in
    let behind_keys = passed row.cells Partition refl 0 p (c ++ o) all_p in
    let behind_rows = passed row.cells Clustering refl behind_keys.0 c o all_c in
    let others = subst (AreOfTypes o) (sym (behind_keys.1 ∙ behind_rows.1)) (others_typed row.cells behind_rows.0 o all_o) in
    subst (AreOfTypes columns) (sym h.all)
    (typed_append p (c ++ o) (key_values columns key) (h.clustering ++ other_values columns row.cells) keys
    (typed_append c o h.clustering (other_values columns row.cells) rows others))

pub values_are_of_types : ValuesAreOfTypes
values_are_of_types columns key row xs order h =
    subst (λ (cs : List ColumnDef). AreOfTypes cs xs) (sym order.all)
    (in_order order.partition order.clustering order.others key row xs order.of_partition order.of_clustering order.of_others
    (subst (λ (cs : List ColumnDef). AreValuesOf cs key row xs) order.all h))
