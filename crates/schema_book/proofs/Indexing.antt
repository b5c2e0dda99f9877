-- What has its place after one more.
use Rattle.std.proofs.Common.{◌≡◌, ◌++◌, ◌∷◌, ◌&&◌, [], ℕ, zero, suc, Bool, true, false, cond, List, length, Option, Some, None, refl, sym, ap, ◌∙◌, subst}
use Rattle.std.specs.List.{find}
use Rattle.std.specs.Option.{option_or, is_some}
use Rattle.std.specs.Prelude.{slice_get}
use Rattle.std.specs.Str.{bytes_eq}
use Rattle.std.specs.BTreeMap.{get_by_text}
use Rattle.std.proofs.lemmas.Slice.Eq.{bytes_eq-Decides}
use Rattle.std.proofs.lemmas.List.Folds.{find-append}
use Rattle.cql_statement.specs.declared.schema.ColumnItem.{ColumnItem}
use Rattle.schema_book.specs.declared.index.Index.{Index}
use Rattle.schema_book.specs.declared.index.Names.{Names}
use Rattle.schema_book.specs.declared.table.Keyspace.{Keyspace}
use Rattle.schema_book.specs.declared.table.Table.{Table}
use Rattle.schema_book.specs.Books.{is_of}
use Rattle.schema_book.specs.Places.{lone_place, Enters, StandsAt, AreKeyspacePlaces, AreItemPlaces}
use Rattle.schema_book.specs.Indexes.{place_named, place_of, TakesOut, EntersTable, IsIndexOf}

or_none : {A : Type 0} (o : Option A) → o ≡ option_or o None
or_none None = refl
or_none (Some x) = refl

pub none_of : {A : Type 0} (o : Option A) → is_some o ≡ false → o ≡ None
none_of None e = refl
none_of (Some x) e = absurd (cc)

-- a value at a name that had none
pub at_new : (name q : List ℕ) (place : ℕ) (f : List ℕ → Option ℕ) → f name ≡ None → (b : Bool) → bytes_eq name q ≡ b
    → cond b (Some place) (f q) ≡ option_or (f q) (cond b (Some place) None)
at_new name q place f absent true e =
    sym (ap (λ (o : Option ℕ). option_or o (Some place)) (ap f (sym ((bytes_eq-Decides name q).0 e)) ∙ absent))
at_new name q place f absent false e = or_none (f q)

at_other : (name q : List ℕ) (f : List ℕ → Option ℕ) (place : ℕ) (b : Bool) → option_or (f q) (cond (false && b) (Some place) None) ≡ f q
at_other name q f place b = sym (or_none (f q))

-- the names of a table's keyspace have its place more, and those of other keyspaces stay
pub entered : (old mid new : Index) (t : Table) (place : ℕ) (names names' : Names)
    → TakesOut old t.keyspace mid names → Enters names t.name place names'
    → ((k : List ℕ) → get_by_text new.keyspaces k ≡ cond (bytes_eq t.keyspace k) (Some names') (get_by_text mid.keyspaces k))
    → EntersTable old t place new
entered old mid new t place names names' out enters put = λ keyspace name. by_keyspace keyspace name (bytes_eq t.keyspace keyspace) refl
  where
    by_keyspace : (keyspace name : List ℕ) (b : Bool) → bytes_eq t.keyspace keyspace ≡ b
        → place_of new keyspace name ≡ option_or (place_of old keyspace name) (cond (bytes_eq t.keyspace keyspace && bytes_eq t.name name) (Some place) None)
    by_keyspace keyspace name true e =
        let same : t.keyspace ≡ keyspace = (bytes_eq-Decides t.keyspace keyspace).0 e in
        ap (λ o. place_named o name) (put keyspace ∙ ap (λ (b : Bool). cond b (Some names') (get_by_text mid.keyspaces keyspace)) e)
        ∙ (enters name
        ∙ (ap (λ (o : Option ℕ). option_or o (lone_place place t.name name)) (out.0 name ∙ ap (λ (k : List ℕ). place_of old k name) same)
        ∙ ap (λ (b : Bool). option_or (place_of old keyspace name) (cond (b && bytes_eq t.name name) (Some place) None)) (sym e)))
    by_keyspace keyspace name false e =
        ap (λ o. place_named o name)
        (put keyspace
        ∙ (ap (λ (b : Bool). cond b (Some names') (get_by_text mid.keyspaces keyspace)) e
        ∙ (out.1 keyspace ∙ ap (λ (b : Bool). cond b None (get_by_text old.keyspaces keyspace)) e)))
        ∙ (or_none (place_of old keyspace name)
        ∙ ap (λ (b : Bool). option_or (place_of old keyspace name) (cond (b && bytes_eq t.name name) (Some place) None)) (sym e))

-- what is found among one more
found_more : {A : Type 0} (listed : List A) (o : Option ℕ) (f : Option A) (place : ℕ) (x : A) (b : Bool) → slice_get listed place ≡ Some x
    → StandsAt listed o f → StandsAt listed (option_or o (cond b (Some place) None)) (option_or f (cond b (Some x) None))
found_more listed (Some n) f place x b at h = (h.0, ap (λ o. option_or o (cond b (Some x) None)) h.1, h.2)
found_more listed None f place x true at h = (x, ap (λ o. option_or o (Some x)) h, at)
found_more listed None f place x false at h = ap (λ o. option_or o None) h

at_same : {A : Type 0} (xs : List A) (x : A) (i : ℕ) (y : A) → slice_get xs i ≡ Some y → slice_get (xs ++ x ∷ []) i ≡ Some y
at_same [] x i y e = absurd (cc)
at_same (z ∷ xs) x zero y e = e
at_same (z ∷ xs) x (suc i) y e = at_same xs x i y e

at_end : {A : Type 0} (xs : List A) (x : A) → slice_get (xs ++ x ∷ []) (length xs) ≡ Some x
at_end [] x = refl
at_end (z ∷ xs) x = at_end xs x

stays : {A : Type 0} (xs : List A) (x : A) (o : Option ℕ) (f : Option A) → StandsAt xs o f → StandsAt (xs ++ x ∷ []) o f
stays xs x None f h = h
stays xs x (Some n) f h = (h.0, h.1, at_same xs x n h.0 h.2)

one_more : {A : Type 0} (p : A → Bool) (xs : List A) (x : A) (o : Option ℕ) → StandsAt xs o (find p xs)
    → StandsAt (xs ++ x ∷ []) (option_or o (cond (p x) (Some (length xs)) None)) (find p (xs ++ x ∷ []))
one_more {A} p xs x o h =
    let all = xs ++ x ∷ [] in
    subst (λ (f : Option A). StandsAt all (option_or o (cond (p x) (Some (length xs)) None)) f) (sym (find-append p xs (x ∷ [])))
    (found_more all o (find p xs) (length xs) x (p x) (at_end xs x) (stays xs x o (find p xs) h))

pub keyspace_more : (ks : List Keyspace) (k : Keyspace) (names names' : Names) → AreKeyspacePlaces ks names → Enters names k.name (length ks) names'
    → AreKeyspacePlaces (ks ++ k ∷ []) names'
keyspace_more ks k names names' are enters = λ name.
    let p : Keyspace → Bool = λ x. bytes_eq x.name name in
    subst (λ (o : Option ℕ). StandsAt (ks ++ k ∷ []) o (find p (ks ++ k ∷ []))) (sym (enters name)) (one_more p ks k (get_by_text names.places name) (are name))

pub item_more : (cs : List ColumnItem) (c : ColumnItem) (names names' : Names) → AreItemPlaces cs names → Enters names c.name (length cs) names'
    → AreItemPlaces (cs ++ c ∷ []) names'
item_more cs c names names' are enters = λ name.
    let p : ColumnItem → Bool = λ x. bytes_eq x.name name in
    subst (λ (o : Option ℕ). StandsAt (cs ++ c ∷ []) o (find p (cs ++ c ∷ []))) (sym (enters name)) (one_more p cs c (get_by_text names.places name) (are name))

pub table_more : (ts : List Table) (t : Table) (index index' : Index) → IsIndexOf ts index → EntersTable index t (length ts) index'
    → IsIndexOf (ts ++ t ∷ []) index'
table_more ts t index index' is enters = λ keyspace name.
    let p = is_of keyspace name in
    subst (λ (o : Option ℕ). StandsAt (ts ++ t ∷ []) o (find p (ts ++ t ∷ []))) (sym (enters keyspace name)) (one_more p ts t (place_of index keyspace name) (is keyspace name))
