-- The values of clustering columns, column by column.
use Rattle.std.proofs.Common.{◌≡◌, ◌≢◌, ◌≤◌, ℕ, suc, ◌<◌, ◌+◌, ◌-◌, ◌==◌, ◌∷◌, [], ◌++◌, Bool, true, false, cond, List, Option, Some, None, Result, Ok, Err, get_or, length, map, take, drop, refl, sym, ap, ◌∙◌, arith, inl, inr, subst, append_assoc}
use Rattle.std.proofs.Math.ListN.{drop_of_length-le}
use Rattle.std.proofs.Math.Seq.{drop-cons, drop-length, take-length}
use Rattle.std.proofs.lemmas.List.{append-nil, length-drop, take-append-drop}
use Rattle.cql_values.specs.Order.{Answers, ascending_word, escaped, order_word}
use Rattle.cql_values.specs.Value.{type_of, IsValue}
use Rattle.cql_values.specs.declared.error.OrderError.{OrderError}
use Rattle.cql_values.specs.declared.error.OrderError.TheVariants as errors
use Rattle.cql_values.specs.declared.value.CqlType.TheVariants as types
use Rattle.cql_values.specs.declared.value.CqlValue.{CqlValue}
use Rattle.cql_values.specs.declared.value.CqlValue.TheVariants as values
use Rattle.key_restrictions.specs.Places.{is_clustering}
use Rattle.schema_book.specs.declared.table.ColumnDef.{ColumnDef}
use Rattle.row_values.specs.Fronts.{IsFrontAs, Adds}
use Rattle.row_values.specs.Values.{HasNoFront, AreRead, clustering_columns, nulls}

pub none_at : (column : ColumnDef) (bytes : List ℕ) (value : Option CqlValue) (n : ℕ) → value ≡ None → n ≡ length bytes → HasNoFront column bytes
    → IsFrontAs column bytes value n
none_at column bytes value n e at h = subst (λ (v : Option CqlValue). IsFrontAs column bytes v n) (sym e) (h, at)

-- ---- where nothing is read

-- if the word of a value stood at the front, it was read
abbrev pub IsReadOnly : ColumnDef → List ℕ → Result (CqlValue × ℕ) OrderError → Type 0
IsReadOnly column bytes answer = (v : CqlValue) (rest : List ℕ) → type_of v ≡ column.ty → IsValue v → bytes ≡ order_word column.is_descending v ++ rest
    → Answers answer (Ok (v, length (order_word column.is_descending v)))

-- an error that says that nothing was read
abbrev pub Refuses : OrderError → Type 0
Refuses e = (x : CqlValue × ℕ) → Answers (Err e) (Ok x) → ⊥

pub is_short : Refuses errors.Short
is_short x h = let e : ◌≡◌ {A = Result (CqlValue × ℕ) OrderError} (Ok x) (Err errors.Short) = h in absurd (cc)

pub is_malformed : (at : ℕ) → Refuses (errors.Malformed at)
is_malformed at x h = let e : ◌≡◌ {A = Result (CqlValue × ℕ) OrderError} (Ok x) (Err (errors.Malformed at)) = h in absurd (cc)

pub none_read : (column : ColumnDef) (bytes : List ℕ) (answer : Result (CqlValue × ℕ) OrderError) (e : OrderError) → IsReadOnly column bytes answer
    → answer ≡ Err e → Refuses e → HasNoFront column bytes
none_read column bytes answer e only is refuses n v f =
    let word = order_word column.is_descending v in
    let front = sym (take-append-drop n bytes) ∙ ap (λ (w : List ℕ). w ++ drop n bytes) f.word.2 in
    refuses (v, length word) (subst (λ (a : Result (CqlValue × ℕ) OrderError). Answers a (Ok (v, length word))) is (only v (drop n bytes) f.word.0 f.word.1 front))

-- ---- each value has order bytes

not_none : (b : ℕ) (bs : List ℕ) → b ∷ bs ≡ [] → ⊥
not_none b bs h = absurd (cc)

escaped_some : (bs : List ℕ) → escaped bs ≡ [] → ⊥
escaped_some [] h = not_none _ _ h
escaped_some (b ∷ bs) h = go (b == 0) h
  where
    go : (zero_byte : Bool) → cond zero_byte (0 ∷ 255 ∷ escaped bs) (b ∷ escaped bs) ≡ [] → ⊥
    go true h = not_none _ _ h
    go false h = not_none _ _ h

ascending_some : (v : CqlValue) → type_of v ≢ types.Uuid → ascending_word v ≡ [] → ⊥
ascending_some (values.Ascii text) other h = escaped_some text h
ascending_some (values.Bigint n) other h = not_none _ _ h
ascending_some (values.Blob bytes) other h = escaped_some bytes h
ascending_some (values.Boolean b) other h = not_none _ _ h
ascending_some (values.Int n) other h = not_none _ _ h
ascending_some (values.Timestamp n) other h = not_none _ _ h
ascending_some (values.Uuid uuid) other h = other refl
ascending_some (values.Text text) other h = escaped_some text h
ascending_some (values.Timeuuid uuid) other h = not_none _ _ h
ascending_some (values.Smallint n) other h = not_none _ _ h
ascending_some (values.Tinyint n) other h = not_none _ _ h

mapped_some : (bs : List ℕ) → map (λ b. 255 - b) bs ≡ [] → bs ≡ []
mapped_some [] h = refl
mapped_some (b ∷ bs) h = absurd (not_none _ _ h)

word_some : (desc : Bool) (v : CqlValue) → type_of v ≢ types.Uuid → order_word desc v ≡ [] → ⊥
word_some true v other h = ascending_some v other (mapped_some (ascending_word v) h)
word_some false v other h = ascending_some v other h

nothing_taken : (n : ℕ) → n ≤ 0 → ◌≡◌ {A = List ℕ} (take n []) []
nothing_taken n h = let e : n ≡ 0 = omega arith in ap (λ (k : ℕ). take {A = ℕ} k []) e

-- no value stands at the front of no bytes
no_front : (column : ColumnDef) → HasNoFront column []
no_front column n v f =
    word_some column.is_descending v (subst (λ ty. ty ≢ types.Uuid) (sym f.word.0) f.ordered) (sym f.word.2 ∙ nothing_taken n f.within)

nothing_behind : (cs : List ColumnDef) (later : List (Option CqlValue)) → AreRead cs [] later → later ≡ nulls cs
nothing_behind [] later h = h
nothing_behind (c ∷ cs) later (inl (n, v, rest, front, read, is)) = absurd (no_front c n v front)
nothing_behind (c ∷ cs) later (inr (none, is)) = is

-- ---- a column more

front_read : (column : ColumnDef) (bytes : List ℕ) (value : Option CqlValue) (n : ℕ) (cs : List ColumnDef) (later : List (Option CqlValue))
    → IsFrontAs column bytes value n → AreRead cs (drop n bytes) later → AreRead (column ∷ cs) bytes (value ∷ later)
front_read column bytes None n cs later (none, at) h =
    let left : drop n bytes ≡ [] = ap (λ (k : ℕ). drop k bytes) at ∙ drop-length bytes in
    inr (none, ap (λ (vs : List (Option CqlValue)). None ∷ vs) (nothing_behind cs later (subst (λ (bs : List ℕ). AreRead cs bs later) left h)))
front_read column bytes (Some v) n cs later front h = inl (n, v, later, front, h, refl)

-- what is read from what is left comes behind what is there
abbrev pub GoesOn : (List (Option CqlValue) → Type 0) → List (Option CqlValue) → List (Option CqlValue) → List ColumnDef → List ℕ → Type 0
GoesOn AreSuch old so_far cs rest = (later : List (Option CqlValue)) → AreRead (clustering_columns cs) rest later → Adds AreSuch old (so_far ++ later)

-- the slice from here on
pub behind : (n : ℕ) (bytes : List ℕ) → take (length bytes - n) (drop n bytes) ≡ drop n bytes
behind n bytes = ap (λ (k : ℕ). take k (drop n bytes)) (sym (length-drop n bytes)) ∙ take-length (drop n bytes)

-- one item after another
pub ahead : {X : Type 0} (xs : List X) (i : ℕ) (x : X) → i < length xs → x ≡ get_or xs i x → drop i xs ≡ x ∷ drop (i + 1) xs
ahead xs i x h e = let next : suc i ≡ i + 1 = omega arith in drop-cons xs i x h ∙ (λ k. sym e k ∷ drop (next k) xs)

-- the column of this place is no clustering column
pub skipped : {AreSuch : List (Option CqlValue) → Type 0} (old so_far so_far' : List (Option CqlValue)) (columns : List ColumnDef) (i : ℕ) (c : ColumnDef) (rest rest' : List ℕ)
    → i < length columns → c ≡ get_or columns i c → is_clustering c.kind ≡ false → so_far' ≡ so_far → rest' ≡ rest
    → GoesOn AreSuch old so_far (drop i columns) rest → GoesOn AreSuch old so_far' (drop (i + 1) columns) rest'
skipped {AreSuch} old so_far so_far' columns i c rest rest' within at e same left h later read =
    let cs = drop (i + 1) columns in
    let here : AreRead (clustering_columns cs) rest later = subst (λ (bs : List ℕ). AreRead (clustering_columns cs) bs later) left read in
    let there : AreRead (clustering_columns (c ∷ cs)) rest later =
    subst (λ (b : Bool). AreRead (cond b (c ∷ clustering_columns cs) (clustering_columns cs)) rest later) (sym e) here in
    subst (λ (vs : List (Option CqlValue)). Adds AreSuch old (vs ++ later)) (sym same)
    (h later (subst (λ (ds : List ColumnDef). AreRead (clustering_columns ds) rest later) (sym (ahead columns i c within at)) there))

-- it is one, and its value is taken from what is left
pub taken : {AreSuch : List (Option CqlValue) → Type 0} (old so_far so_far' : List (Option CqlValue)) (columns : List ColumnDef) (i : ℕ) (c : ColumnDef) (rest rest' : List ℕ) (value : Option CqlValue) (n : ℕ)
    → i < length columns → c ≡ get_or columns i c → is_clustering c.kind ≡ true → IsFrontAs c rest value n → so_far' ≡ so_far ++ value ∷ [] → rest' ≡ drop n rest
    → GoesOn AreSuch old so_far (drop i columns) rest → GoesOn AreSuch old so_far' (drop (i + 1) columns) rest'
taken {AreSuch} old so_far so_far' columns i c rest rest' value n within at e front same left h later read =
    let cs = drop (i + 1) columns in
    let all = value ∷ later in
    let here = front_read c rest value n (clustering_columns cs) later front (subst (λ (bs : List ℕ). AreRead (clustering_columns cs) bs later) left read) in
    let there : AreRead (clustering_columns (c ∷ cs)) rest all =
    subst (λ (b : Bool). AreRead (cond b (c ∷ clustering_columns cs) (clustering_columns cs)) rest all) (sym e) here in
    subst (λ (vs : List (Option CqlValue)). Adds AreSuch old vs) (sym (ap (λ (vs : List (Option CqlValue)). vs ++ later) same ∙ append_assoc so_far (value ∷ []) later))
    (h all (subst (λ (ds : List ColumnDef). AreRead (clustering_columns ds) rest all) (sym (ahead columns i c within at)) there))

-- no column is left
pub finished : {AreSuch : List (Option CqlValue) → Type 0} (old so_far : List (Option CqlValue)) (columns : List ColumnDef) (i : ℕ) (rest : List ℕ)
    → length columns ≤ i → GoesOn AreSuch old so_far (drop i columns) rest → Adds AreSuch old so_far
finished {AreSuch} old so_far columns i rest past h =
    subst (λ (vs : List (Option CqlValue)). Adds AreSuch old vs) (append-nil so_far)
    (h [] (subst (λ (ds : List ColumnDef). AreRead (clustering_columns ds) rest []) (sym (drop_of_length-le columns {i = i} past)) refl))
