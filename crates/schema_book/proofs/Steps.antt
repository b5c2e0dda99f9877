-- What a statement does to a book.
use Rattle.std.proofs.Common.{◌≡◌, ◌++◌, ◌∷◌, [], ℕ, Bool, true, false, cond, List, Option, Some, None, Result, Ok, refl, sym, ap, ◌∙◌, subst}
use Rattle.std.specs.Option.{is_some}
use Rattle.std.specs.List.{find}
use Rattle.std.specs.Str.{bytes_eq}
use Rattle.std.proofs.lemmas.Slice.Eq.{bytes_eq-Decides}
use Rattle.cql_statement.specs.declared.schema.CreateKeyspace.{CreateKeyspace}
use Rattle.cql_statement.specs.declared.schema.CreateTable.{CreateTable}
use Rattle.cql_statement.specs.declared.statement.Statement.{Statement}
use Rattle.cql_statement.specs.declared.statement.Statement.TheVariants as statement
use Rattle.schema_book.specs.declared.error.Fault.{Fault}
use Rattle.schema_book.specs.declared.outline.Outline.{Outline}
use Rattle.schema_book.specs.declared.table.Keyspace.{Keyspace}
use Rattle.schema_book.specs.Outlines.{outline_of}
use Rattle.schema_book.specs.Replication.{factor_in}
use Rattle.schema_book.specs.Books.{Book, has_table, has_named, table_at, keyspace_at, keyspace_named, existing, verdict, refuse_or, key_fault, size_fault, next_number, option_fault, table_of, numbered_table, table_in, new_table, keyspace_by, book_after}

-- one table more, of which no fault was found
pub record IsMade (grace : ℕ) (b b' : Book) : Type 0 where
  pub create : CreateTable
  pub outline : Outline
  pub keyspace : Keyspace
  pub number : ℕ
  pub keys : key_fault outline ≡ None
  pub size : size_fault outline ≡ None
  pub next : next_number b ≡ Some number
  pub new : table_at b keyspace.name create.table.name ≡ None
  pub tables : b'.tables ≡ b.tables ++ table_of grace create outline keyspace number ∷ []

-- the tables stay, or there is one more
pub data Grows (grace : ℕ) (b b' : Book) : Type 0 where
  stays : b'.tables ≡ b.tables → Grows grace b b'
  made : IsMade grace b b' → Grows grace b b'

by_test : {A : Type 0} (t : Bool) (x y r : A) (Q : Type 0) → cond t x y ≡ r → (x ≡ r → Q) → (t ≡ false → y ≡ r → Q) → Q
by_test true x y r Q e f g = f e
by_test false x y r Q e f g = g refl e

verdict_ok : (b b' : Book) (f : Option Fault) → verdict b f ≡ Ok b' → b'.tables ≡ b.tables
verdict_ok b b' None e = let same : b ≡ b' = cc in ap (λ (x : Book). x.tables) (sym same)
verdict_ok b b' (Some f) e = absurd (cc)

passes : (f : Option Fault) (later : Result Book Fault) (b' : Book) → refuse_or f later ≡ Ok b' → (f ≡ None) × (later ≡ Ok b')
passes None later b' e = (refl, e)
passes (Some f) later b' e = absurd (cc)

abbrev same_ok : Book → Book → Type 0
same_ok x y = let l : Result Book Fault = Ok x in l ≡ Ok y

tables_of : (x y : Book) → same_ok x y → y.tables ≡ x.tables
tables_of x y h = let same : x ≡ y = cc in ap (λ (z : Book). z.tables) (sym same)

keyspace_ok : (b b' : Book) (c : CreateKeyspace) (f : Option ℕ) → keyspace_by b c f ≡ Ok b' → b'.tables ≡ b.tables
keyspace_ok b b' c None e = absurd (cc)
keyspace_ok b b' c (Some f) e = tables_of (record b { keyspaces = b.keyspaces ++ record { name = c.name; factor = f } ∷ [] }) b' e

numbered_ok : (grace : ℕ) (b b' : Book) (c : CreateTable) (o : Outline) (k : Keyspace) → table_at b k.name c.table.name ≡ None → key_fault o ≡ None → size_fault o ≡ None
    → (m : Option ℕ) → next_number b ≡ m → numbered_table grace b c o k m ≡ Ok b' → Grows grace b b'
numbered_ok grace b b' c o k new keys size None next e = absurd (cc)
numbered_ok grace b b' c o k new keys size (Some n) next e =
    let last = passes (option_fault c o) _ b' e in
    made (record { create = c; outline = o; keyspace = k; number = n; keys = keys; size = size; next = next; new = new; tables = tables_of _ b' last.1 })

none_of : {A : Type 0} (o : Option A) → is_some o ≡ false → o ≡ None
none_of None e = refl
none_of (Some x) e = absurd (cc)

-- what is found has the name
found_named : (ks : List Keyspace) (name : List ℕ) (k : Keyspace) → find (λ x. bytes_eq x.name name) ks ≡ Some k → k.name ≡ name
found_named [] name k e = absurd (cc)
found_named (x ∷ xs) name k e = go (bytes_eq x.name name) refl e (λ h. found_named xs name k h)
  where
    go : (a : Bool) → bytes_eq x.name name ≡ a → cond a (Some x) (find (λ y. bytes_eq y.name name) xs) ≡ Some k
        → (find (λ y. bytes_eq y.name name) xs ≡ Some k → k.name ≡ name) → k.name ≡ name
    go true f g rest = let same : x ≡ k = cc in subst (λ (y : Keyspace). y.name ≡ name) same ((bytes_eq-Decides x.name name).0 f)
    go false f g rest = rest g

new_named : (b : Book) (keyspace : Option (List ℕ)) (name : List ℕ) (k : Keyspace) → has_named b keyspace name ≡ false → keyspace_named b keyspace ≡ Some k
    → table_at b k.name name ≡ None
new_named b None name k f e = absurd (cc)
new_named b (Some keyspace) name k f e =
    ap (λ (n : List ℕ). table_at b n name) (found_named b.keyspaces keyspace k e) ∙ none_of (table_at b keyspace name) f

table_ok : (grace : ℕ) (b b' : Book) (c : CreateTable) (o : Outline) → has_table b c.table ≡ false → key_fault o ≡ None
    → (k : Option Keyspace) → keyspace_named b c.table.keyspace ≡ k → table_in grace b c o k ≡ Ok b' → Grows grace b b'
table_ok grace b b' c o f keys None g e = absurd (cc)
table_ok grace b b' c o f keys (Some k) g e =
    let later = passes (size_fault o) (numbered_table grace b c o k (next_number b)) b' e in
    numbered_ok grace b b' c o k (new_named b c.table.keyspace c.table.name k f g) keys later.0 (next_number b) refl later.1

new_ok : (grace : ℕ) (b b' : Book) (c : CreateTable) → has_table b c.table ≡ false → new_table grace b c ≡ Ok b' → Grows grace b b'
new_ok grace b b' c f e =
    let o = outline_of c.items in
    let later = passes (key_fault o) (table_in grace b c o (keyspace_named b c.table.keyspace)) b' e in
    table_ok grace b b' c o f later.0 (keyspace_named b c.table.keyspace) refl later.1

pub after_ok : (nodes grace : ℕ) (b b' : Book) (s : Statement) → book_after nodes grace b s ≡ Ok b' → Grows grace b b'
after_ok nodes grace b b' (statement.CreateKeyspace c) e =
    by_test (is_some (keyspace_at b c.name)) (verdict b (existing c.if_not_exists)) (keyspace_by b c (factor_in nodes c.replication)) (Ok b') (Grows grace b b') e
    (λ h. stays (verdict_ok b b' (existing c.if_not_exists) h)) (λ f h. stays (keyspace_ok b b' c (factor_in nodes c.replication) h))
after_ok nodes grace b b' (statement.CreateTable c) e =
    by_test (has_table b c.table) (verdict b (existing c.if_not_exists)) (new_table grace b c) (Ok b') (Grows grace b b') e
    (λ h. stays (verdict_ok b b' (existing c.if_not_exists) h)) (λ f h. new_ok grace b b' c f h)
after_ok nodes grace b b' (statement.Use u) e = absurd (cc)
after_ok nodes grace b b' (statement.Insert u) e = absurd (cc)
after_ok nodes grace b b' (statement.Update u) e = absurd (cc)
after_ok nodes grace b b' (statement.Delete u) e = absurd (cc)
after_ok nodes grace b b' (statement.Select u) e = absurd (cc)
after_ok nodes grace b b' (statement.Batch u) e = absurd (cc)
