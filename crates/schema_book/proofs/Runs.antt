-- What is so of each book that statements make.
use Rattle.std.proofs.Common.{◌≡◌, ◌≤◌, ◌<◌, ◌+◌, ◌++◌, ◌∷◌, ◌&&◌, ◌⊎◌, inl, inr, [], ℕ, zero, suc, Bool, true, false, cond, nat_lt, List, Option, length, take, Some, None, Result, Ok, Err, arith, refl, sym, ap, ◌∙◌, subst}
use Rattle.std.specs.Prelude.{slice_get}
use Rattle.std.specs.List.{find}
use Rattle.std.specs.Option.{option_or}
use Rattle.std.specs.Str.{bytes_eq}
use Rattle.std.proofs.lemmas.Slice.Eq.{bytes_eq-Decides}
use Rattle.std.proofs.lemmas.List.Folds.{find-append}
use Rattle.std.proofs.lemmas.Bool.Decides.{nat_tests}
use Rattle.cql_statement.specs.declared.statement.Statement.{Statement}
use Rattle.schema_book.specs.declared.error.Fault.{Fault}
use Rattle.schema_book.specs.declared.error.Refused.{Refused}
use Rattle.schema_book.specs.declared.table.Table.{Table}
use Rattle.schema_book.specs.Books.{Book, is_of, book_after, book_from, book_of, goes_on, first_book, script_table, most_tables, most_columns, table_of}
use Rattle.schema_book.specs.Laws.{RefusalsAreFirst, IsNumbered, TablesAreNumbered, TablesAreFew, AreNarrow, ColumnsAreFew, StandInOrder, AreInOrder, ColumnsAreInOrder, AreFound, TablesAreFound}
use Rattle.schema_book.specs.declared.table.ColumnDef.{ColumnDef}
use Rattle.schema_book.specs.declared.table.ColumnKind.TheVariants.{Partition, Clustering, Regular}
use Rattle.schema_book.proofs.Order.{in_order}
use Rattle.schema_book.proofs.Sizes.{columns_fit}
use Rattle.schema_book.proofs.Steps.{Grows, stays, made, after_ok}

same_book : (b b' : Book) (P : Book → Type 0) → (let r : Result Book Refused = Ok b in r) ≡ Ok b' → P b → P b'
same_book b b' P e p = let same : b ≡ b' = cc in subst P same p

-- what each statement keeps, all keep
pub keeps : (nodes grace : ℕ) (P : Book → Type 0) → ((b b' : Book) → Grows grace b b' → P b → P b')
    → (ss : List Statement) (i : ℕ) (b b' : Book) → book_from nodes grace i b ss ≡ Ok b' → P b → P b'
keeps nodes grace P step [] i b b' e p = same_book b b' P e p
keeps nodes grace P step (s ∷ ss) i b b' e p =
    go (book_after nodes grace b s) refl e (λ m h q. keeps nodes grace P step ss (i + 1) m b' h q)
  where
    go : (r : Result Book Fault) → book_after nodes grace b s ≡ r → goes_on i r (λ m. book_from nodes grace (i + 1) m ss) ≡ Ok b'
        → ((m : Book) → book_from nodes grace (i + 1) m ss ≡ Ok b' → P m → P b') → P b'
    go (Ok m) f g rest = rest m g (step b m (after_ok nodes grace b m s f) p)
    go (Err x) f g rest = absurd (cc)

-- ---- numbers

next_is : (n m k : ℕ) → (if_below : cond (nat_lt n m) (Some n) None ≡ Some k) → (k ≡ n) × (n < m)
next_is n m k e = go (nat_lt n m) refl e
  where
    go : (t : Bool) → nat_lt n m ≡ t → cond t (Some n) None ≡ Some k → (k ≡ n) × (n < m)
    go true f g = (cc, grind (arith, nat_tests))
    go false f g = absurd (cc)

last_or : (xs : List Table) (t : Table) (i : ℕ) (u : Table) → slice_get (xs ++ t ∷ []) i ≡ Some u → (slice_get xs i ≡ Some u) ⊎ ((i ≡ length xs) × (t ≡ u))
last_or [] t zero u h = inr (refl, cc)
last_or [] t (suc i) u h = absurd (cc)
last_or (x ∷ xs) t zero u h = inl h
last_or (x ∷ xs) t (suc i) u h = elim (last_or xs t i u h) [ inl g ↦ inl g | inr g ↦ inr (ap suc g.0, g.1) ]

numbered_more : (xs : List Table) (t : Table) → t.number ≡ length xs → IsNumbered xs → IsNumbered (xs ++ t ∷ [])
numbered_more xs t e is = λ i u h. elim (last_or xs t i u h) [ inl g ↦ is i u g | inr g ↦ ap (λ (v : Table). v.number) (sym g.1) ∙ (e ∙ sym g.0) ]

numbered_step : (grace : ℕ) (b b' : Book) → Grows grace b b' → IsNumbered b.tables → IsNumbered b'.tables
numbered_step grace b b' (stays e) is = subst IsNumbered (sym e) is
numbered_step grace b b' (made m) is =
    subst IsNumbered (sym m.tables)
    (numbered_more b.tables (table_of grace m.create m.outline m.keyspace m.number) (next_is (length b.tables) most_tables m.number m.next).0 is)

first_numbered : (t : Table) → t.number ≡ 0 → IsNumbered (t ∷ [])
first_numbered t e zero u h = let same : t ≡ u = cc in ap (λ (v : Table). v.number) (sym same) ∙ e
first_numbered t e (suc i) u h = absurd (cc)

pub tables_are_numbered : TablesAreNumbered
tables_are_numbered nodes factor grace ss b e =
    keeps nodes grace (λ x. IsNumbered x.tables) (numbered_step grace) ss 0 (first_book factor grace) b e (first_numbered (script_table factor grace) refl)

narrow_more : (xs : List Table) (t : Table) → length t.columns ≤ most_columns → AreNarrow xs → AreNarrow (xs ++ t ∷ [])
narrow_more xs t small are = λ i u h. elim (last_or xs t i u h) [ inl g ↦ are i u g | inr g ↦ subst (λ (v : Table). length v.columns ≤ most_columns) g.1 small ]

narrow_step : (grace : ℕ) (b b' : Book) → Grows grace b b' → AreNarrow b.tables → AreNarrow b'.tables
narrow_step grace b b' (stays e) are = subst AreNarrow (sym e) are
narrow_step grace b b' (made m) are =
    subst AreNarrow (sym m.tables)
    (narrow_more b.tables (table_of grace m.create m.outline m.keyspace m.number) (columns_fit m.create.options m.outline m.keys m.size) are)

first_narrow : (t : Table) → length t.columns ≤ most_columns → AreNarrow (t ∷ [])
first_narrow t e zero u h = let same : t ≡ u = cc in subst (λ (v : Table). length v.columns ≤ most_columns) same e
first_narrow t e (suc i) u h = absurd (cc)

pub columns_are_few : ColumnsAreFew
columns_are_few nodes factor grace ss b e =
    keeps nodes grace (λ x. AreNarrow x.tables) (narrow_step grace) ss 0 (first_book factor grace) b e (first_narrow (script_table factor grace) (omega arith))

ordered_more : (xs : List Table) (t : Table) → StandInOrder t.columns → AreInOrder xs → AreInOrder (xs ++ t ∷ [])
ordered_more xs t stand are = λ i u h. elim (last_or xs t i u h) [ inl g ↦ are i u g | inr g ↦ subst (λ (v : Table). StandInOrder v.columns) g.1 stand ]

ordered_step : (grace : ℕ) (b b' : Book) → Grows grace b b' → AreInOrder b.tables → AreInOrder b'.tables
ordered_step grace b b' (stays e) are = subst AreInOrder (sym e) are
ordered_step grace b b' (made m) are =
    subst AreInOrder (sym m.tables)
    (ordered_more b.tables (table_of grace m.create m.outline m.keyspace m.number) (in_order m.create.options m.outline) are)

first_ordered : (t : Table) → StandInOrder t.columns → AreInOrder (t ∷ [])
first_ordered t e zero u h = let same : t ≡ u = cc in subst (λ (v : Table). StandInOrder v.columns) same e
first_ordered t e (suc i) u h = absurd (cc)

script_ordered : (d e f : ColumnDef) → d.kind ≡ Partition → e.kind ≡ Clustering → f.kind ≡ Regular → StandInOrder (d ∷ e ∷ f ∷ [])
script_ordered d e f dk ek fk = record {
  partition = d ∷ [];
  clustering = e ∷ [];
  others = f ∷ [];
  all = refl;
  of_partition = (dk, tt);
  of_clustering = (ek, tt);
  of_others = (fk, tt);
  by_name = (tt, tt);
}

pub columns_are_in_order : ColumnsAreInOrder
columns_are_in_order nodes factor grace ss b e =
    keeps nodes grace (λ x. AreInOrder x.tables) (ordered_step grace) ss 0 (first_book factor grace) b e
    (first_ordered (script_table factor grace) (script_ordered _ _ _ refl refl refl))

self_named : (t : Table) → is_of t.keyspace t.name t ≡ true
self_named t =
    ap (λ (a : Bool). a && bytes_eq t.name t.name) ((bytes_eq-Decides t.keyspace t.keyspace).1 refl) ∙ (bytes_eq-Decides t.name t.name).1 refl

found_more : (xs : List Table) (t : Table) → find (is_of t.keyspace t.name) xs ≡ None → AreFound xs → AreFound (xs ++ t ∷ [])
found_more xs t new are = λ i u h.
    find-append (is_of u.keyspace u.name) xs (t ∷ [])
    ∙ elim (last_or xs t i u h) [
      | inl g ↦ ap (λ (o : Option Table). option_or o (find (is_of u.keyspace u.name) (t ∷ []))) (are i u g)
      | inr g ↦ subst (λ (v : Table). option_or (find (is_of v.keyspace v.name) xs) (find (is_of v.keyspace v.name) (t ∷ [])) ≡ Some v) g.1
          (ap (λ (o : Option Table). option_or o (find (is_of t.keyspace t.name) (t ∷ []))) new ∙ ap (λ (a : Bool). cond a (Some t) None) (self_named t))
    ]

found_step : (grace : ℕ) (b b' : Book) → Grows grace b b' → AreFound b.tables → AreFound b'.tables
found_step grace b b' (stays e) are = subst AreFound (sym e) are
found_step grace b b' (made m) are =
    subst AreFound (sym m.tables) (found_more b.tables (table_of grace m.create m.outline m.keyspace m.number) m.new are)

first_found : (t : Table) → AreFound (t ∷ [])
first_found t = found_more [] t refl none
  where
    none : AreFound []
    none i u h = absurd (cc)

pub tables_are_found : TablesAreFound
tables_are_found nodes factor grace ss b e =
    keeps nodes grace (λ x. AreFound x.tables) (found_step grace) ss 0 (first_book factor grace) b e (first_found (script_table factor grace))

few_more : (xs : List Table) (t : Table) → length (xs ++ t ∷ []) ≡ length xs + 1
few_more [] t = refl
few_more (x ∷ xs) t = let rest = few_more xs t in omega arith

few_step : (grace : ℕ) (b b' : Book) → Grows grace b b' → length b.tables ≤ most_tables → length b'.tables ≤ most_tables
few_step grace b b' (stays e) few = subst (λ (xs : List Table). length xs ≤ most_tables) (sym e) few
few_step grace b b' (made m) few =
    let t = table_of grace m.create m.outline m.keyspace m.number in
    let more = few_more b.tables t in
    let low = (next_is (length b.tables) most_tables m.number m.next).1 in
    subst (λ (xs : List Table). length xs ≤ most_tables) (sym m.tables) (omega (arith, more, low))

pub tables_are_few : TablesAreFew
tables_are_few nodes factor grace ss b e =
    keeps nodes grace (λ x. length x.tables ≤ most_tables) (few_step grace) ss 0 (first_book factor grace) b e (omega arith)

-- ---- the first refusal

record IsRefusedFrom (nodes grace i : ℕ) (b : Book) (ss : List Statement) (r : Refused) : Type 0 where
  place : ℕ
  is : r.statement ≡ i + place
  book : Book
  before : book_from nodes grace i b (take place ss) ≡ Ok book
  statement : Statement
  stands : slice_get ss place ≡ Some statement
  refused : book_after nodes grace book statement ≡ Err r.fault

plus_none : (i : ℕ) → i ≡ i + 0
plus_none i = omega arith

none_plus : (i : ℕ) → 0 + i ≡ i
none_plus i = omega arith

refused_from : (nodes grace i : ℕ) (b : Book) (ss : List Statement) (r : Refused) → book_from nodes grace i b ss ≡ Err r → IsRefusedFrom nodes grace i b ss r
refused_from nodes grace i b [] r e = absurd (cc)
refused_from nodes grace i b (s ∷ ss) r e = go (book_after nodes grace b s) refl e (λ m h. refused_from nodes grace (i + 1) m ss r h)
  where
    go : (x : Result Book Fault) → book_after nodes grace b s ≡ x → goes_on i x (λ m. book_from nodes grace (i + 1) m ss) ≡ Err r
        → ((m : Book) → book_from nodes grace (i + 1) m ss ≡ Err r → IsRefusedFrom nodes grace (i + 1) m ss r) → IsRefusedFrom nodes grace i b (s ∷ ss) r
    go (Ok m) f g rest =
        let later = rest m g in
        let is = later.is in
        record {
          place = suc later.place;
          is = omega arith;
          book = later.book;
          before = ap (λ (x : Result Book Fault). goes_on i x (λ b'. book_from nodes grace (i + 1) b' (take later.place ss))) f ∙ later.before;
          statement = later.statement;
          stands = later.stands;
          refused = later.refused;
        }
    go (Err x) f g rest =
        let refused : Refused = record { statement = i; fault = x } in
        let same : refused ≡ r = cc in
        record {
          place = zero;
          is = ap (λ (y : Refused). y.statement) (sym same) ∙ plus_none i;
          book = b;
          before = refl;
          statement = s;
          stands = refl;
          refused = f ∙ ap (λ (y : Refused). let z : Result Book Fault = Err y.fault in z) same;
        }

pub refusals_are_first : RefusalsAreFirst
refusals_are_first nodes factor grace ss r e =
    let at = refused_from nodes grace 0 (first_book factor grace) ss r e in
    let is : r.statement ≡ at.place = at.is ∙ none_plus at.place in
    record {
      book = at.book;
      before = subst (λ (k : ℕ). book_of nodes factor grace (take k ss) ≡ Ok at.book) (sym is) at.before;
      statement = at.statement;
      stands = subst (λ (k : ℕ). slice_get ss k ≡ Some at.statement) (sym is) at.stands;
      refused = at.refused;
    }
