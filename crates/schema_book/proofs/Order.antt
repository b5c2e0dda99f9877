-- The order of a table's columns.
use Rattle.std.proofs.Common.{◌≡◌, ◌++◌, ◌∷◌, [], ℕ, Bool, true, false, cond, List, fold, flat_map, Option, Some, None, refl, sym, ap, ◌∙◌, subst}
use Rattle.std.specs.List.{AllByRecursion}
use Rattle.std.specs.Map.{values_of}
use Rattle.std.specs.BTreeMap.{insert_entry}
use Rattle.std.specs.declared.cmp.Ordering.{Ordering}
use Rattle.std.specs.declared.cmp.Ordering.TheVariants.{Less, Equal, Greater}
use Rattle.std.specs.Ordering.{match_ordering, nat_cmp, ordering_reverse}
use Rattle.std.specs.Cmp.Lexicographic.{slice_cmp}
use Rattle.std.proofs.lemmas.Cmp.{nat_list_cmp_total}
use Rattle.std.proofs.lemmas.Map.Lookups.{exact_bytes}
use Rattle.cql_statement.specs.declared.schema.ColumnItem.{ColumnItem}
use Rattle.cql_statement.specs.declared.schema.TableOption.{TableOption}
use Rattle.schema_book.specs.declared.outline.Outline.{Outline}
use Rattle.schema_book.specs.declared.table.ColumnDef.{ColumnDef}
use Rattle.schema_book.specs.declared.table.ColumnKind.TheVariants.{Partition, Clustering, Regular}
use Rattle.schema_book.specs.Places.{column_in}
use Rattle.schema_book.specs.Outlines.{partition_in, clustering_in}
use Rattle.schema_book.specs.Columns.{found, def_of, partition_def, partition_defs, clustering_item, clustering_def, clustering_defs, is_of_key, with_other, sorted_others, defs_of}
use Rattle.schema_book.specs.Laws.{Ascend, AreAll, StandInOrder}

abbrev Entry : Type 0
Entry = List ℕ × ColumnDef

abbrev add : List Entry → List ℕ → ColumnDef → List Entry
add = insert_entry (slice_cmp nat_cmp)

-- each stands by its name
abbrev Keyed : List Entry → Type 0
Keyed es = AllByRecursion (λ (e : Entry). e.1.name ≡ e.0) es

all_add : (P : ColumnDef → Type 0) (es : List Entry) (k : List ℕ) (v : ColumnDef) → AllByRecursion P (values_of es) → P v → AllByRecursion P (values_of (add es k v))
all_add P [] k v all here = (here, tt)
all_add P (e ∷ es) k v all here = go (slice_cmp nat_cmp k e.0) (all_add P es k v all.1 here)
  where
    go : (o : Ordering) → AllByRecursion P (values_of (add es k v)) → AllByRecursion P (values_of (match_ordering o ((k, v) ∷ e ∷ es) ((e.0, v) ∷ es) (e ∷ add es k v)))
    go Less rest = (here, all)
    go Equal rest = (here, all.1)
    go Greater rest = (all.0, rest)

all_below : (a b : List ℕ) (ds : List ColumnDef) → slice_cmp nat_cmp a b ≡ Less → AllByRecursion (λ (d : ColumnDef). slice_cmp nat_cmp b d.name ≡ Less) ds
    → AllByRecursion (λ (d : ColumnDef). slice_cmp nat_cmp a d.name ≡ Less) ds
all_below a b [] low all = tt
all_below a b (d ∷ ds) low all = (nat_list_cmp_total.trans a b d.name low all.0, all_below a b ds low all.1)

keyed_add : (es : List Entry) (k : List ℕ) (v : ColumnDef) → v.name ≡ k → Keyed es → Keyed (add es k v)
keyed_add [] k v e keyed = (e, tt)
keyed_add (x ∷ es) k v e keyed = go (slice_cmp nat_cmp k x.0) refl (keyed_add es k v e keyed.1)
  where
    go : (o : Ordering) → slice_cmp nat_cmp k x.0 ≡ o → Keyed (add es k v) → Keyed (match_ordering o ((k, v) ∷ x ∷ es) ((x.0, v) ∷ es) (x ∷ add es k v))
    go Less f rest = (e, keyed)
    go Equal f rest = (e ∙ exact_bytes k x.0 f, keyed.1)
    go Greater f rest = (keyed.0, rest)

ascend_add : (es : List Entry) (k : List ℕ) (v : ColumnDef) → v.name ≡ k → Keyed es → Ascend (values_of es) → Ascend (values_of (add es k v))
ascend_add [] k v e keyed up = (tt, tt)
ascend_add (x ∷ es) k v e keyed up = go (slice_cmp nat_cmp k x.0) refl (ascend_add es k v e keyed.1 up.1)
  where
    -- the names stand for the keys
    by_names : (o : Ordering) → slice_cmp nat_cmp k x.0 ≡ o → slice_cmp nat_cmp v.name x.1.name ≡ o
    by_names o f = ap (λ (a : List ℕ). slice_cmp nat_cmp a x.1.name) e ∙ (ap (λ (b : List ℕ). slice_cmp nat_cmp k b) keyed.0 ∙ f)

    go : (o : Ordering) → slice_cmp nat_cmp k x.0 ≡ o → Ascend (values_of (add es k v)) → Ascend (values_of (match_ordering o ((k, v) ∷ x ∷ es) ((x.0, v) ∷ es) (x ∷ add es k v)))
    go Less f rest = ((by_names Less f, all_below v.name x.1.name (values_of es) (by_names Less f) up.0), up)
    go Equal f rest =
        let same : v.name ≡ x.1.name = exact_bytes v.name x.1.name (by_names Equal f) in
        (subst (λ (a : List ℕ). AllByRecursion (λ (d : ColumnDef). slice_cmp nat_cmp a d.name ≡ Less) (values_of es)) (sym same) up.0, up.1)
    go Greater f rest =
        let turned : slice_cmp nat_cmp x.1.name v.name ≡ Less = nat_list_cmp_total.antisymm x.1.name v.name ∙ ap ordering_reverse (by_names Greater f) in
        (all_add (λ (d : ColumnDef). slice_cmp nat_cmp x.1.name d.name ≡ Less) es k v up.0 turned, rest)

record IsInOrder (es : List Entry) : Type 0 where
  keyed : Keyed es
  up : Ascend (values_of es)
  kinds : AreAll Regular (values_of es)

others_add : (o : Outline) (es : List Entry) (c : ColumnItem) → IsInOrder es → IsInOrder (with_other o es c)
others_add o es c is = go (is_of_key o c)
  where
    go : (b : Bool) → IsInOrder (cond b es (add es c.name (def_of Regular false c)))
    go true = is
    go false =
        let d = def_of Regular false c in
        record {
          keyed = keyed_add es c.name d refl is.keyed;
          up = ascend_add es c.name d refl is.keyed is.up;
          kinds = all_add (λ (x : ColumnDef). x.kind ≡ Regular) es c.name d is.kinds refl;
        }

others_stand : (o : Outline) (cs : List ColumnItem) (es : List Entry) → IsInOrder es → IsInOrder (fold (with_other o) es cs)
others_stand o [] es is = is
others_stand o (c ∷ cs) es is = others_stand o cs (with_other o es c) (others_add o es c is)

all_append : (P : ColumnDef → Type 0) (xs ys : List ColumnDef) → AllByRecursion P xs → AllByRecursion P ys → AllByRecursion P (xs ++ ys)
all_append P [] ys a b = b
all_append P (x ∷ xs) ys a b = (a.0, all_append P xs ys a.1 b)

all_flat : (P : ColumnDef → Type 0) (f : List ℕ → List ColumnDef) → ((n : List ℕ) → AllByRecursion P (f n)) → (names : List (List ℕ)) → AllByRecursion P (flat_map f names)
all_flat P f each [] = tt
all_flat P f each (n ∷ ns) = all_append P (f n) (flat_map f ns) (each n) (all_flat P f each ns)

all_found : (P : ColumnDef → Type 0) (def : ColumnItem → ColumnDef) → ((c : ColumnItem) → P (def c)) → (o : Option ColumnItem) → AllByRecursion P (found def o)
all_found P def each None = tt
all_found P def each (Some c) = (each c, tt)

pub in_order : (options : List TableOption) (o : Outline) → StandInOrder (defs_of options o)
in_order options o =
    let is = others_stand o o.columns [] (record { keyed = tt; up = tt; kinds = tt }) in
    record {
      partition = partition_defs o;
      clustering = clustering_defs options o;
      others = values_of (sorted_others o);
      all = refl;
      of_partition = all_flat (λ d. d.kind ≡ Partition) (partition_def o.columns)
          (λ n. all_found (λ d. d.kind ≡ Partition) (def_of Partition false) (λ c. refl) (column_in o.columns n)) (partition_in o.keys);
      of_clustering = all_flat (λ d. d.kind ≡ Clustering) (clustering_def options o.columns)
          (λ n. all_found (λ d. d.kind ≡ Clustering) (clustering_item options) (λ c. refl) (column_in o.columns n)) (clustering_in o.keys);
      of_others = is.kinds;
      by_name = is.up;
    }
