-- How many columns a table has.
use Rattle.std.proofs.Common.{◌≡◌, ◌≤◌, ◌+◌, ◌++◌, ◌∷◌, ◌||◌, [], ℕ, suc, Bool, true, false, cond, eqb, nat_lt, not, List, length, fold, flat_map, Option, Some, None, arith, refl, sym, ap, ◌∙◌, subst}
use Rattle.std.specs.Prelude.{count_by}
use Rattle.std.specs.List.{list_any}
use Rattle.std.specs.Option.{is_some}
use Rattle.std.specs.Map.{values_of}
use Rattle.std.specs.BTreeMap.{insert_entry}
use Rattle.std.specs.declared.cmp.Ordering.{Ordering}
use Rattle.std.specs.declared.cmp.Ordering.TheVariants.{Less, Equal, Greater}
use Rattle.std.specs.Ordering.{match_ordering, nat_cmp}
use Rattle.std.specs.Cmp.Lexicographic.{slice_cmp}
use Rattle.std.specs.Str.{bytes_eq}
use Rattle.std.proofs.lemmas.Bool.Decides.{nat_tests}
use Rattle.std.proofs.lemmas.Slice.Eq.{bytes_eq-Decides}
use Rattle.std.proofs.lemmas.List.Folds.{list_any-append}
use Rattle.std.proofs.lemmas.List.Sums.{sum_by-cons}
use Rattle.std.proofs.lemmas.List.{length-append}
use Rattle.cql_statement.specs.declared.schema.ColumnItem.{ColumnItem}
use Rattle.cql_statement.specs.declared.schema.KeyItem.{KeyItem}
use Rattle.cql_statement.specs.declared.schema.TableOption.{TableOption}
use Rattle.schema_book.specs.declared.outline.Outline.{Outline}
use Rattle.schema_book.specs.declared.table.ColumnDef.{ColumnDef}
use Rattle.schema_book.specs.declared.table.ColumnKind.TheVariants.{Partition, Regular}
use Rattle.schema_book.specs.Names.{is_among, stands_again, has_twice}
use Rattle.schema_book.specs.Places.{column_in}
use Rattle.schema_book.specs.Outlines.{is_column, is_unknown, partition_in, clustering_in, defines_twice, some_twice, some_unknown, names_twice, has_unknown}
use Rattle.schema_book.specs.Columns.{found, def_of, partition_def, partition_defs, clustering_item, clustering_def, clustering_defs, is_of_key, with_other, sorted_others, defs_of}
use Rattle.schema_book.specs.Books.{key_fault, size_fault, most_columns}

-- ---- counts and tests

count_cons : {A : Type 0} (p : A → Bool) (x : A) (xs : List A) → count_by p (x ∷ xs) ≡ cond (p x) 1 0 + count_by p xs
count_cons p x xs = sum_by-cons (λ y. cond (p y) 1 0) x xs

or_parts : (a b : Bool) → (a || b) ≡ false → (a ≡ false) × (b ≡ false)
or_parts true b h = absurd (cc)
or_parts false b h = (refl, h)

count_any : {A : Type 0} (p : A → Bool) (xs : List A) → list_any p xs ≡ true → 1 ≤ count_by p xs
count_any p [] h = absurd (cc)
count_any p (x ∷ xs) h = go (p x) h (count_cons p x xs) (λ g. count_any p xs g)
  where
    go : (a : Bool) → (a || list_any p xs) ≡ true → count_by p (x ∷ xs) ≡ cond a 1 0 + count_by p xs → (list_any p xs ≡ true → 1 ≤ count_by p xs) → 1 ≤ count_by p (x ∷ xs)
    go true g step rest = omega arith
    go false g step rest = let some = rest g in omega arith

count_or : {A : Type 0} (p q : A → Bool) → ((x : A) → p x ≡ true → q x ≡ false) → (xs : List A) → count_by p xs + count_by q xs ≤ count_by (λ x. p x || q x) xs
count_or p q apart [] = omega arith
count_or p q apart (x ∷ xs) =
    let rest = count_or p q apart xs in
    go (p x) (q x) refl refl (count_cons p x xs) (count_cons q x xs) (count_cons (λ y. p y || q y) x xs) rest
  where
    go : (a b : Bool) → p x ≡ a → q x ≡ b → count_by p (x ∷ xs) ≡ cond a 1 0 + count_by p xs → count_by q (x ∷ xs) ≡ cond b 1 0 + count_by q xs
        → count_by (λ y. p y || q y) (x ∷ xs) ≡ cond (a || b) 1 0 + count_by (λ y. p y || q y) xs
        → count_by p xs + count_by q xs ≤ count_by (λ y. p y || q y) xs
        → count_by p (x ∷ xs) + count_by q (x ∷ xs) ≤ count_by (λ y. p y || q y) (x ∷ xs)
    go true true e f pc qc rc rest = let g = apart x e in absurd (cc)
    go true false e f pc qc rc rest = omega arith
    go false true e f pc qc rc rest = omega arith
    go false false e f pc qc rc rest = omega arith

count_not : {A : Type 0} (p : A → Bool) (xs : List A) → count_by p xs + count_by (λ x. not (p x)) xs ≡ length xs
count_not p [] = refl
count_not p (x ∷ xs) = let rest = count_not p xs in go (p x) (count_cons p x xs) (count_cons (λ y. not (p y)) x xs) rest
  where
    go : (a : Bool) → count_by p (x ∷ xs) ≡ cond a 1 0 + count_by p xs → count_by (λ y. not (p y)) (x ∷ xs) ≡ cond (not a) 1 0 + count_by (λ y. not (p y)) xs
        → count_by p xs + count_by (λ y. not (p y)) xs ≡ length xs
        → count_by p (x ∷ xs) + count_by (λ y. not (p y)) (x ∷ xs) ≡ suc (length xs)
    go true pc nc rest = omega arith
    go false pc nc rest = omega arith

count_same : {A : Type 0} (p q : A → Bool) → ((x : A) → p x ≡ q x) → (xs : List A) → count_by p xs ≡ count_by q xs
count_same p q same [] = refl
count_same p q same (x ∷ xs) =
    count_cons p x xs
    ∙ (ap (λ (a : Bool). cond a 1 0 + count_by p xs) (same x)
    ∙ (ap (λ (n : ℕ). cond (q x) 1 0 + n) (count_same p q same xs)
    ∙ sym (count_cons q x xs)))

not_below : (n m : ℕ) → nat_lt n m ≡ false → m ≤ n
not_below n m h = grind (arith, nat_tests)

-- ---- names that stand once

or_last : (a b : Bool) → b ≡ true → (a || b) ≡ true
or_last true b h = refl
or_last false b h = h

-- a name before others of which none stands again
new_behind : (before ns : List (List ℕ)) (y : List ℕ) → stands_again before ns ≡ false → is_among y before ≡ true → is_among y ns ≡ false
new_behind before [] y h k = refl
new_behind before (x ∷ xs) y h k =
    let parts = or_parts (is_among x before) (stands_again (x ∷ before) xs) h in
    go (bytes_eq x y) refl parts.0 (new_behind (x ∷ before) xs y parts.1 (or_last (bytes_eq x y) (is_among y before) k))
  where
    go : (a : Bool) → bytes_eq x y ≡ a → is_among x before ≡ false → is_among y xs ≡ false → (a || is_among y xs) ≡ false
    go true e new rest =
        let same : x ≡ y = (bytes_eq-Decides x y).0 e in
        let absent : is_among y before ≡ false = subst (λ (n : List ℕ). is_among n before ≡ false) same new in
        absurd (cc)
    go false e new rest = rest

among_self : (n : List ℕ) (before : List (List ℕ)) → is_among n (n ∷ before) ≡ true
among_self n before = ap (λ (a : Bool). a || is_among n before) ((bytes_eq-Decides n n).1 refl)

-- ---- the columns of a key are among all

known : (columns : List ColumnItem) (n : List ℕ) → is_unknown columns n ≡ false → is_column columns n ≡ true
known columns n h = go (is_column columns n) refl h
  where
    go : (a : Bool) → is_column columns n ≡ a → not a ≡ false → is_column columns n ≡ true
    go true e g = e
    go false e g = absurd (cc)

turned : (x y : List ℕ) → bytes_eq x y ≡ true → bytes_eq y x ≡ true
turned x y h = (bytes_eq-Decides y x).1 (sym ((bytes_eq-Decides x y).0 h))

turned_any : (columns : List ColumnItem) (n : List ℕ) → is_column columns n ≡ true → list_any (λ c. bytes_eq n c.name) columns ≡ true
turned_any [] n h = absurd (cc)
turned_any (c ∷ cs) n h = go (bytes_eq c.name n) refl h (λ g. turned_any cs n g)
  where
    go : (a : Bool) → bytes_eq c.name n ≡ a → is_some (cond a (Some c) (column_in cs n)) ≡ true → (is_column cs n ≡ true → list_any (λ d. bytes_eq n d.name) cs ≡ true)
        → (bytes_eq n c.name || list_any (λ d. bytes_eq n d.name) cs) ≡ true
    go true e g rest = ap (λ (a : Bool). a || list_any (λ d. bytes_eq n d.name) cs) (turned c.name n e)
    go false e g rest = or_last (bytes_eq n c.name) (list_any (λ d. bytes_eq n d.name) cs) (rest g)

fits : (columns : List ColumnItem) (before names : List (List ℕ)) → stands_again before names ≡ false → list_any (is_unknown columns) names ≡ false
    → length names ≤ count_by (λ c. is_among c.name names) columns
fits columns before [] h k = omega arith
fits columns before (n ∷ ns) h k =
    let once = or_parts (is_among n before) (stands_again (n ∷ before) ns) h in
    let parts = or_parts (is_unknown columns n) (list_any (is_unknown columns) ns) k in
    let rest = fits columns (n ∷ before) ns once.1 parts.1 in
    let new = new_behind (n ∷ before) ns n once.1 (among_self n before) in
    let one = count_any (λ c. bytes_eq n c.name) columns (turned_any columns n (known columns n parts.0)) in
    let both = count_or (λ (c : ColumnItem). bytes_eq n c.name) (λ c. is_among c.name ns)
    (λ c e. subst (λ (m : List ℕ). is_among m ns ≡ false) ((bytes_eq-Decides n c.name).0 e) new) columns in
    omega arith

-- ---- the columns of a table

found_short : (def : ColumnItem → ColumnDef) (o : Option ColumnItem) → length (found def o) ≤ 1
found_short def None = omega arith
found_short def (Some c) = omega arith

defs_short : (f : List ℕ → List ColumnDef) → ((n : List ℕ) → length (f n) ≤ 1) → (names : List (List ℕ)) → length (flat_map f names) ≤ length names
defs_short f short [] = omega arith
defs_short f short (n ∷ ns) =
    let rest = defs_short f short ns in
    let one = short n in
    let all = length-append (f n) (flat_map f ns) in
    omega arith

insert_short : (defs : List (List ℕ × ColumnDef)) (k : List ℕ) (v : ColumnDef) → length (insert_entry (slice_cmp nat_cmp) defs k v) ≤ length defs + 1
insert_short [] k v = omega arith
insert_short (e ∷ es) k v = go (slice_cmp nat_cmp k e.0) (insert_short es k v)
  where
    go : (o : Ordering) → length (insert_entry (slice_cmp nat_cmp) es k v) ≤ length es + 1
        → length (match_ordering o ((k, v) ∷ e ∷ es) ((e.0, v) ∷ es) (e ∷ insert_entry (slice_cmp nat_cmp) es k v)) ≤ suc (length es) + 1
    go Less rest = omega arith
    go Equal rest = omega arith
    go Greater rest = omega arith

other_short : (o : Outline) (defs : List (List ℕ × ColumnDef)) (c : ColumnItem) → length (with_other o defs c) ≤ length defs + cond (not (is_of_key o c)) 1 0
other_short o defs c = go (is_of_key o c)
  where
    go : (a : Bool) → length (cond a defs (insert_entry (slice_cmp nat_cmp) defs c.name (def_of Regular false c))) ≤ length defs + cond (not a) 1 0
    go true = omega arith
    go false = insert_short defs c.name (def_of Regular false c)

others_short : (o : Outline) (columns : List ColumnItem) (defs : List (List ℕ × ColumnDef))
    → length (fold (with_other o) defs columns) ≤ length defs + count_by (λ c. not (is_of_key o c)) columns
others_short o [] defs = omega arith
others_short o (c ∷ cs) defs =
    let rest = others_short o cs (with_other o defs c) in
    let one = other_short o defs c in
    let step = count_cons (λ d. not (is_of_key o d)) c cs in
    omega arith

values_same : (defs : List (List ℕ × ColumnDef)) → length (values_of defs) ≡ length defs
values_same [] = refl
values_same (d ∷ ds) = ap suc (values_same ds)

-- a key whose columns stand once, and are all defined
record IsSound (columns : List ColumnItem) (ps cs : List (List ℕ)) : Type 0 where
  once : has_twice (ps ++ cs) ≡ false
  known_partition : list_any (is_unknown columns) ps ≡ false
  known_clustering : list_any (is_unknown columns) cs ≡ false

key_fits : (columns : List ColumnItem) (ps cs : List (List ℕ)) → IsSound columns ps cs
    → length ps + length cs ≤ count_by (λ c. is_among c.name ps || is_among c.name cs) columns
key_fits columns ps cs is =
    let unknown : list_any (is_unknown columns) (ps ++ cs) ≡ false =
    list_any-append (is_unknown columns) ps cs ∙ (ap (λ (a : Bool). a || list_any (is_unknown columns) cs) is.known_partition ∙ is.known_clustering) in
    let all = fits columns [] (ps ++ cs) is.once unknown in
    let both = length-append ps cs in
    let same = count_same (λ (c : ColumnItem). is_among c.name (ps ++ cs)) (λ c. is_among c.name ps || is_among c.name cs)
    (λ c. list_any-append (λ x. bytes_eq x c.name) ps cs) columns in
    omega arith

narrow : (options : List TableOption) (o : Outline) → IsSound o.columns (partition_in o.keys) (clustering_in o.keys) → length (defs_of options o) ≤ length o.columns
narrow options o is =
    let ps = partition_in o.keys in
    let cs = clustering_in o.keys in
    let key = key_fits o.columns ps cs is in
    let partition = defs_short (partition_def o.columns) (λ n. found_short (def_of Partition false) (column_in o.columns n)) ps in
    let clustering = defs_short (clustering_def options o.columns) (λ n. found_short (clustering_item options) (column_in o.columns n)) cs in
    let others = others_short o o.columns [] in
    let values = values_same (sorted_others o) in
    let all = length-append (partition_defs o) (clustering_defs options o ++ values_of (sorted_others o)) in
    let last = length-append (clustering_defs options o) (values_of (sorted_others o)) in
    let both = count_not (is_of_key o) o.columns in
    omega arith

-- ---- what is known of a table without a fault

passed : {A : Type 0} (t : Bool) (f : A) (rest : Option A) → cond t (Some f) rest ≡ None → (t ≡ false) × (rest ≡ None)
passed true f rest e = absurd (cc)
passed false f rest e = (refl, e)

sound_key : (columns : List ColumnItem) (k : KeyItem) → names_twice k ≡ false → (has_unknown columns k.partition || has_unknown columns k.clustering) ≡ false
    → IsSound columns k.partition k.clustering
sound_key columns k twice unknown =
    let names = or_parts (has_unknown columns k.partition) (has_unknown columns k.clustering) unknown in
    record {
      once = twice;
      known_partition = names.0;
      known_clustering = names.1;
    }

sound : (columns : List ColumnItem) (keys : List KeyItem) → some_twice keys ≡ false → some_unknown columns keys ≡ false
    → IsSound columns (partition_in keys) (clustering_in keys)
sound columns [] twice unknown = record { once = refl; known_partition = refl; known_clustering = refl }
sound columns (k ∷ ks) twice unknown =
    let here = or_parts (names_twice k) (some_twice ks) twice in
    let there = or_parts (has_unknown columns k.partition || has_unknown columns k.clustering) (some_unknown columns ks) unknown in
    sound_key columns k here.0 there.0

pub columns_fit : (options : List TableOption) (o : Outline) → key_fault o ≡ None → size_fault o ≡ None → length (defs_of options o) ≤ most_columns
columns_fit options o keys size =
    let first = passed (defines_twice o.columns || some_twice o.keys) _ _ keys in
    let second = passed (not (eqb (length o.keys) 1)) _ _ first.1 in
    let third = passed (some_unknown o.columns o.keys) _ _ second.1 in
    let twice = or_parts (defines_twice o.columns) (some_twice o.keys) first.0 in
    let small = not_below most_columns (length o.columns) (passed (nat_lt most_columns (length o.columns)) _ _ size).0 in
    let all = narrow options o (sound o.columns o.keys twice.1 third.0) in
    omega arith
