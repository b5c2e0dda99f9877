-- The clustering values that are read from order bytes are those whose bytes they are.
use Rattle.std.proofs.Common.{◌≡◌, ◌≢◌, ◌≤◌, ℕ, ◌∷◌, ◌++◌, [], Bool, true, false, List, Option, Some, None, inl, inr, length, drop, map, refl, sym, ap, ◌∙◌, arith, subst}
use Rattle.std.specs.Prelude.{IsSome}
use Rattle.std.specs.declared.cmp.Ordering.{Ordering}
use Rattle.std.specs.declared.cmp.Ordering.TheVariants.{Less, Equal, Greater}
use Rattle.std.specs.Ordering.{nat_cmp, bool_cmp, ordering_then}
use Rattle.std.specs.Cmp.Lexicographic.{slice_cmp}
use Rattle.std.proofs.Math.Seq.{take-append_seam, drop-append_seam}
use Rattle.std.proofs.lemmas.Bool.Decides.{nat_tests}
use Rattle.std.proofs.lemmas.List.{append_cancel_left, length-append, take-append-drop}
use Rattle.std.proofs.lemmas.Map.Lookups.{exact_bytes, exact_signed, exact_unsigned}
use Rattle.cql_values.specs.Order.{KeepsOrder, ComparesTypes, directed, order_word, value_order}
use Rattle.cql_values.specs.Value.{type_of, IsValue, uuid_time}
use Rattle.cql_values.specs.declared.value.CqlType.TheVariants as types
use Rattle.cql_values.specs.declared.value.CqlValue.{CqlValue}
use Rattle.cql_values.specs.declared.value.CqlValue.TheVariants as values
use Rattle.schema_book.specs.declared.table.ColumnDef.{ColumnDef}
use Rattle.row_values.specs.Laws.{AreOfColumns, order_words, ClusteringValuesComeBack, ValuesAreDetermined}
use Rattle.row_values.specs.Values.{IsFront, AreRead, clustering_columns, key_values, other_values}

-- ---- values that compare as equal

same_bools : (a b : Bool) → bool_cmp a b ≡ Equal → a ≡ b
same_bools true true h = refl
same_bools true false h = absurd (cc)
same_bools false true h = absurd (cc)
same_bools false false h = refl

then_second : (o p : Ordering) → ordering_then o p ≡ Equal → p ≡ Equal
then_second Less p h = absurd (cc)
then_second Equal p h = h
then_second Greater p h = absurd (cc)

then_first : (o p : Ordering) → ordering_then o p ≡ Equal → o ≡ Equal
then_first Less p h = absurd (cc)
then_first Equal p h = refl
then_first Greater p h = absurd (cc)

is_it : (o : Ordering) → ◌≡◌ {A = Option Ordering} (Some o) (Some Equal) → o ≡ Equal
is_it o h = cc

equal_values : (v w : CqlValue) → value_order v w ≡ Some Equal → v ≡ w
equal_values (values.Ascii a) (values.Ascii b) h = ap values.Ascii (exact_bytes a b (is_it _ h))
equal_values (values.Bigint a) (values.Bigint b) h = ap values.Bigint (exact_signed a b (is_it _ h))
equal_values (values.Blob a) (values.Blob b) h = ap values.Blob (exact_bytes a b (is_it _ h))
equal_values (values.Boolean a) (values.Boolean b) h = ap values.Boolean (same_bools a b (is_it _ h))
equal_values (values.Int a) (values.Int b) h = ap values.Int (exact_signed a b (is_it _ h))
equal_values (values.Timestamp a) (values.Timestamp b) h = ap values.Timestamp (exact_signed a b (is_it _ h))
equal_values (values.Text a) (values.Text b) h = ap values.Text (exact_bytes a b (is_it _ h))
equal_values (values.Timeuuid a) (values.Timeuuid b) h =
    ap values.Timeuuid (exact_unsigned a b (then_second (nat_cmp (uuid_time a) (uuid_time b)) (nat_cmp a b) (is_it _ h)))
equal_values (values.Smallint a) (values.Smallint b) h = ap values.Smallint (exact_signed a b (is_it _ h))
equal_values (values.Tinyint a) (values.Tinyint b) h = ap values.Tinyint (exact_signed a b (is_it _ h))
equal_values v w h = absurd (cc)

-- ---- one word stands at the front

same_number : (b : ℕ) → nat_cmp b b ≡ Equal
same_number b = grind (arith, nat_tests)

same_bytes : (bs : List ℕ) → slice_cmp nat_cmp bs bs ≡ Equal
same_bytes [] = refl
same_bytes (b ∷ bs) = ap (λ (o : Ordering). ordering_then o (slice_cmp nat_cmp bs bs)) (same_number b) ∙ same_bytes bs

undirected : (desc : Bool) (o : Ordering) → directed desc o ≡ Equal → o ≡ Equal
undirected true Less h = absurd (cc)
undirected true Equal h = refl
undirected true Greater h = absurd (cc)
undirected false o h = h

ordered : (o : Option Ordering) → IsSome o → (p : Ordering) × (o ≡ Some p)
ordered None h = absurd (cc)
ordered (Some p) h = (p, refl)

one_value : KeepsOrder → ComparesTypes → (desc : Bool) (v w : CqlValue) (a b : List ℕ) → IsValue v → IsValue w → type_of v ≡ type_of w → type_of v ≢ types.Uuid
    → order_word desc v ++ a ≡ order_word desc w ++ b → v ≡ w
one_value keeps compares desc v w a b fits_v fits_w same other front =
    let o = ordered (value_order v w) (compares v w same other) in
    let e = sym (keeps desc v w o.0 a b fits_v fits_w o.1) ∙ (ap (λ (bs : List ℕ). slice_cmp nat_cmp bs (order_word desc w ++ b)) front ∙ same_bytes (order_word desc w ++ b)) in
    equal_values v w (o.1 ∙ ap Some (undirected desc o.0 (then_first (directed desc o.0) (slice_cmp nat_cmp a b) e)))

-- the front of a row
record Parted (c : ColumnDef) (v : CqlValue) (later : List ℕ) (n : ℕ) (w : CqlValue) : Type 0 where
  same : v ≡ w
  left : drop n (order_word c.is_descending v ++ later) ≡ later

parted : KeepsOrder → ComparesTypes → (c : ColumnDef) (v : CqlValue) (later : List ℕ) (n : ℕ) (w : CqlValue) → type_of v ≡ c.ty → IsValue v → c.ty ≢ types.Uuid
    → IsFront c (order_word c.is_descending v ++ later) n w → Parted c v later n w
parted keeps compares c v later n w of_type fits other front =
    let desc = c.is_descending in
    let bytes = order_word desc v ++ later in
    let halves : bytes ≡ order_word desc w ++ drop n bytes = sym (take-append-drop n bytes) ∙ ap (λ (bs : List ℕ). bs ++ drop n bytes) front.word.2 in
    let same = one_value keeps compares desc v w later (drop n bytes) fits front.word.1 (of_type ∙ sym front.word.0) (λ e. other (sym of_type ∙ e)) halves in
    record {
      same = same;
      left = sym (append_cancel_left (order_word desc v) later (drop n bytes) (halves ∙ ap (λ (x : CqlValue). order_word desc x ++ drop n bytes) (sym same)));
    }

longer : (word later : List ℕ) → length word ≤ length (word ++ later)
longer word later = let e = length-append word later in omega arith

stands : (c : ColumnDef) (v : CqlValue) (later : List ℕ) → type_of v ≡ c.ty → IsValue v → c.ty ≢ types.Uuid
    → IsFront c (order_word c.is_descending v ++ later) (length (order_word c.is_descending v)) v
stands c v later of_type fits other =
    let word = order_word c.is_descending v in
    record { ordered = other; within = longer word later; word = (of_type, fits, take-append_seam word later) }

-- ---- all columns

read_is : KeepsOrder → ComparesTypes → (columns : List ColumnDef) (vs : List CqlValue) (values : List (Option CqlValue)) → AreOfColumns columns vs
    → AreRead columns (order_words columns vs) values → values ≡ map Some vs
read_is keeps compares [] [] values h read = read
read_is keeps compares [] (v ∷ vs) values h read = absurd h
read_is keeps compares (c ∷ cs) [] values h read = absurd h
read_is keeps compares (c ∷ cs) (v ∷ vs) values h (inl (n, w, later, front, read, is)) =
    let p = parted keeps compares c v (order_words cs vs) n w h.0.0 h.0.1 h.1 front in
    let rest = read_is keeps compares cs vs later h.2 (subst (λ (bs : List ℕ). AreRead cs bs later) p.left read) in
    is ∙ (λ i. Some (sym p.same i) ∷ rest i)
read_is keeps compares (c ∷ cs) (v ∷ vs) values h (inr (none, is)) =
    absurd (none (length (order_word c.is_descending v)) v (stands c v (order_words cs vs) h.0.0 h.0.1 h.1))

all_read : (columns : List ColumnDef) (vs : List CqlValue) → AreOfColumns columns vs → AreRead columns (order_words columns vs) (map Some vs)
all_read [] [] h = refl
all_read [] (v ∷ vs) h = absurd h
all_read (c ∷ cs) [] h = absurd h
all_read (c ∷ cs) (v ∷ vs) h =
    let word = order_word c.is_descending v in
    let later = order_words cs vs in
    inl (
      length word,
      v,
      map Some vs,
      stands c v later h.0.0 h.0.1 h.1,
      subst (λ (bs : List ℕ). AreRead cs bs (map Some vs)) (sym (drop-append_seam word later)) (all_read cs vs h.2),
      refl,
    )

pub clustering_values_come_back : KeepsOrder → ComparesTypes → ClusteringValuesComeBack
clustering_values_come_back keeps compares columns vs values h = (
  λ read. read_is keeps compares columns vs values h read,
  λ is. subst (λ (xs : List (Option CqlValue)). AreRead columns (order_words columns vs) xs) (sym is) (all_read columns vs h),
)

-- ---- two readings of the same bytes

front_is : (c : ColumnDef) (bytes : List ℕ) (n : ℕ) (v : CqlValue) → IsFront c bytes n v → bytes ≡ order_word c.is_descending v ++ drop n bytes
front_is c bytes n v f = sym (take-append-drop n bytes) ∙ ap (λ (bs : List ℕ). bs ++ drop n bytes) f.word.2

-- what two fronts of the same bytes have in common
record Agree (bytes : List ℕ) (n m : ℕ) (v w : CqlValue) : Type 0 where
  same : v ≡ w
  left : drop n bytes ≡ drop m bytes

agree : KeepsOrder → ComparesTypes → (c : ColumnDef) (bytes : List ℕ) (n m : ℕ) (v w : CqlValue) → IsFront c bytes n v → IsFront c bytes m w → Agree bytes n m v w
agree keeps compares c bytes n m v w f g =
    let halves = sym (front_is c bytes n v f) ∙ front_is c bytes m w g in
    let same = one_value keeps compares c.is_descending v w (drop n bytes) (drop m bytes) f.word.1 g.word.1 (f.word.0 ∙ sym g.word.0) (λ e. f.ordered (sym f.word.0 ∙ e)) halves in
    record {
      same = same;
      left = append_cancel_left (order_word c.is_descending v) (drop n bytes) (drop m bytes)
          (halves ∙ ap (λ (x : CqlValue). order_word c.is_descending x ++ drop m bytes) (sym same));
    }

read_once : KeepsOrder → ComparesTypes → (columns : List ColumnDef) (bytes : List ℕ) (xs ys : List (Option CqlValue))
    → AreRead columns bytes xs → AreRead columns bytes ys → xs ≡ ys
read_once keeps compares [] bytes xs ys a b = a ∙ sym b
read_once keeps compares (c ∷ cs) bytes xs ys (inl (n, v, later, f, read, is)) (inl (m, w, after, g, seen, at)) =
    let both = agree keeps compares c bytes n m v w f g in
    let rest = read_once keeps compares cs (drop m bytes) later after (subst (λ (bs : List ℕ). AreRead cs bs later) both.left read) seen in
    is ∙ ((λ i. Some (both.same i) ∷ rest i) ∙ sym at)
read_once keeps compares (c ∷ cs) bytes xs ys (inl (n, v, later, f, read, is)) (inr (none, at)) = absurd (none n v f)
read_once keeps compares (c ∷ cs) bytes xs ys (inr (none, is)) (inl (m, w, after, g, seen, at)) = absurd (none m w g)
read_once keeps compares (c ∷ cs) bytes xs ys (inr (none, is)) (inr (lacks, at)) = is ∙ sym at

pub values_are_determined : KeepsOrder → ComparesTypes → ValuesAreDetermined
values_are_determined keeps compares columns key row values others a b =
    a.all
    ∙ (ap (λ (vs : List (Option CqlValue)). key_values columns key ++ (vs ++ other_values columns row.cells))
    (read_once keeps compares (clustering_columns columns) row.row a.clustering b.clustering a.read b.read)
    ∙ sym b.all)
