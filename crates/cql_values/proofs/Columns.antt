-- Ascending and DESC columns.
use Rattle.std.proofs.Common.{◌≡◌, ◌<◌, ◌≤◌, ◌-◌, ◌+◌, ℕ, zero, suc, Bool, true, false, cond, nat_lt, List, [], ◌∷◌, ◌++◌, length, get_or, take, drop, map, Result, Ok, Err, arith, refl, sym, ap, ◌∙◌, subst}
use Rattle.std.specs.Str.{IsUtf8}
use Rattle.std.proofs.lemmas.Bool.Decides.{nat_tests}
use Rattle.std.proofs.lemmas.Str.{IsUtf8-from_ascii}
use Rattle.std.proofs.lemmas.List.{take_more, get_or-take, length-take}
use Rattle.cql_values.proofs.Quotes.{cond_false}
use Rattle.cql_values.specs.Scan.{IsContent, IsTextType}
use Rattle.cql_values.specs.declared.value.CqlType.TheVariants as types
use Rattle.cql_values.proofs.OrderLaws.{small_word}
use Rattle.cql_values.specs.Value.{IsBytes}
use Rattle.cql_values.specs.Order.{ascending_word, ascending_bytes, IsOrderWord, Continues, Reads, front_of}
use Rattle.cql_values.specs.declared.value.CqlType.{CqlType}
use Rattle.cql_values.specs.declared.value.CqlValue.{CqlValue}
use Rattle.cql_values.specs.declared.error.OrderError.{OrderError}
use Rattle.cql_values.specs.declared.error.OrderError.TheVariants as errors

abbrev pub complement : List ℕ → List ℕ
complement bytes = map (λ b. 255 - b) bytes

pub length-complement : (bytes : List ℕ) → length (complement bytes) ≡ length bytes
length-complement [] = refl
length-complement (b ∷ bs) = ap suc (length-complement bs)

pub length-ascending : (desc : Bool) (bytes : List ℕ) → length (ascending_bytes desc bytes) ≡ length bytes
length-ascending true bytes = length-complement bytes
length-ascending false bytes = refl

complement-at : (bytes : List ℕ) (i : ℕ) → i < length bytes → get_or (complement bytes) i 0 ≡ 255 - get_or bytes i 0
complement-at [] i l = absurd (omega arith)
complement-at (b ∷ bs) zero l = refl
complement-at (b ∷ bs) (suc i) l = complement-at bs i (omega arith)

pub ascending-at : (desc : Bool) (bytes : List ℕ) (i : ℕ) → i < length bytes → get_or (ascending_bytes desc bytes) i 0 ≡ cond desc (255 - get_or bytes i 0) (get_or bytes i 0)
ascending-at true bytes i l = complement-at bytes i l
ascending-at false bytes i l = refl

small_complement : (bytes : List ℕ) → IsBytes (complement bytes)
small_complement [] i = omega arith
small_complement (b ∷ bs) zero = omega arith
small_complement (b ∷ bs) (suc i) = small_complement bs i

pub small_ascending : (desc : Bool) (bytes : List ℕ) → IsBytes bytes → IsBytes (ascending_bytes desc bytes)
small_ascending true bytes small = small_complement bytes
small_ascending false bytes small = small

pub complement-complement : (bytes : List ℕ) → IsBytes bytes → complement (complement bytes) ≡ bytes
complement-complement [] small = refl
complement-complement (b ∷ bs) small =
    let first : 255 - (255 - b) ≡ b = (let low : b < 256 = small 0 in omega arith) in
    (λ i. first i ∷ complement-complement bs (λ j. small (suc j)) i)

complement-append : (xs ys : List ℕ) → complement (xs ++ ys) ≡ complement xs ++ complement ys
complement-append [] ys = refl
complement-append (x ∷ xs) ys = ap (λ (l : List ℕ). (255 - x) ∷ l) (complement-append xs ys)

complement-take : (n : ℕ) (xs : List ℕ) → complement (take n xs) ≡ take n (complement xs)
complement-take zero xs = refl
complement-take (suc n) [] = refl
complement-take (suc n) (x ∷ xs) = ap (λ (l : List ℕ). (255 - x) ∷ l) (complement-take n xs)

-- a byte more of a column
pub ascending_more : (desc : Bool) (bytes : List ℕ) (i b : ℕ) → i < length bytes → b ≡ cond desc (255 - get_or bytes i 0) (get_or bytes i 0)
    → take (i + 1) (ascending_bytes desc bytes) ≡ take i (ascending_bytes desc bytes) ++ (b ∷ [])
ascending_more desc bytes i b l is =
    let within : i < length (ascending_bytes desc bytes) = subst (λ (n : ℕ). i < n) (sym (length-ascending desc bytes)) l in
    take_more (ascending_bytes desc bytes) i 0 within
    ∙ ap (λ (x : ℕ). take i (ascending_bytes desc bytes) ++ (x ∷ [])) (ascending-at desc bytes i l ∙ sym is)

pub byte_of : (desc : Bool) (bytes : List ℕ) (i b : ℕ) → b ≡ cond desc (255 - get_or bytes i 0) (get_or bytes i 0) → IsBytes bytes → b < 256
byte_of true bytes i b is small = omega arith
byte_of false bytes i b is small = subst (λ (x : ℕ). x < 256) (sym is) (small i)

-- ---- what is read of the complement is read of the bytes

small_part : (xs ys word : List ℕ) → xs ++ ys ≡ word → IsBytes word → IsBytes ys
small_part [] ys word e small = subst IsBytes (sym e) small
small_part (x ∷ xs) ys [] e small = absurd (cc)
small_part (x ∷ xs) ys (w ∷ ws) e small = small_part xs ys ws (let p : xs ++ ys ≡ ws = cc in p) (λ i. small (suc i))

-- the word of a DESC column from that of an ascending one
turned : (ty : CqlType) (v : CqlValue) (word : List ℕ) → IsOrderWord ty false (complement word) v → IsBytes word → IsOrderWord ty true word v
turned ty v word (is_type, value, e) small = (is_type, value, sym (complement-complement word small) ∙ ap complement e)

turned_back : (ty : CqlType) (v : CqlValue) (word : List ℕ) → IsOrderWord ty true word v → IsOrderWord ty false (complement word) v
turned_back ty v word (is_type, value, e) =
    (is_type, value, ap complement e ∙ complement-complement (ascending_word v) (small_word v value))

small_take : (n : ℕ) (bytes : List ℕ) → IsBytes bytes → IsBytes (take n bytes)
small_take zero bytes small i = omega arith
small_take (suc n) [] small i = omega arith
small_take (suc n) (b ∷ bs) small zero = small 0
small_take (suc n) (b ∷ bs) small (suc i) = small_take n bs (λ j. small (suc j)) i

continues_turned : (ty : CqlType) (bytes : List ℕ) → IsBytes bytes → Continues (IsOrderWord ty false) (complement bytes) → Continues (IsOrderWord ty true) bytes
continues_turned ty bytes small (v, next, rest, (is_type, value, e)) = (
  v,
  255 - next,
  complement rest,
  (
    is_type,
    value,
    sym (ap complement (sym e)
        ∙ complement-append (complement bytes) (next ∷ rest)
        ∙ ap (λ (l : List ℕ). l ++ complement (next ∷ rest)) (complement-complement bytes small)),
  ),
)

pub reads_turned : (ty : CqlType) (bytes : List ℕ) (r : Result (CqlValue × ℕ) OrderError) → IsBytes bytes → Reads (IsOrderWord ty false) (complement bytes) r → Reads (IsOrderWord ty true) bytes r
reads_turned ty bytes (Ok (v, n)) small (within, word) = (
  subst (λ (m : ℕ). n ≤ m) (length-complement bytes) within,
  turned ty v (take n bytes) (subst (λ (l : List ℕ). IsOrderWord ty false l v) (sym (complement-take n bytes)) word) (small_take n bytes small),
)
reads_turned ty bytes (Err errors.Short) small continues = continues_turned ty bytes small continues
reads_turned ty bytes (Err (errors.Malformed at)) small (within, continues, ends) = (
  subst (λ (m : ℕ). at < m) (length-complement bytes) within,
  continues_turned ty (take at bytes) (small_take at bytes small) (subst (Continues (IsOrderWord ty false)) (sym (complement-take at bytes)) continues),
  λ v rest word.
      ends v (complement rest)
      (subst (λ (l : List ℕ). IsOrderWord ty false l v)
      (complement-append (take (at + 1) bytes) rest ∙ ap (λ (l : List ℕ). l ++ complement rest) (complement-take (at + 1) bytes))
      (turned_back ty v (take (at + 1) bytes ++ rest) word)),
)
reads_turned ty bytes (Err errors.NoMemory) small u = tt

pub reads_directed : (ty : CqlType) (desc : Bool) (bytes : List ℕ) (r : Result (CqlValue × ℕ) OrderError) → IsBytes bytes → Reads (IsOrderWord ty false) (ascending_bytes desc bytes) r → Reads (IsOrderWord ty desc) bytes r
reads_directed ty true bytes r small reads = reads_turned ty bytes r small reads
reads_directed ty false bytes r small reads = reads

-- ---- what is read of one kind of words is read of another

-- a result with its value made into another
abbrev pub remade : {X : Type 0} → (X → CqlValue) → Result (X × ℕ) OrderError → Result (CqlValue × ℕ) OrderError
remade make (Ok (x, n)) = Ok (make x, n)
remade make (Err e) = Err e

pub reads_as : {X : Type 0} (P : List ℕ → X → Type 0) (Q : List ℕ → CqlValue → Type 0) (make : X → CqlValue)
    → ((word : List ℕ) (x : X) → P word x → Q word (make x)) → ((word : List ℕ) (v : CqlValue) → Q word v → (x : X) × P word x)
    → (bytes : List ℕ) (r : Result (X × ℕ) OrderError) → Reads P bytes r → Reads Q bytes (remade make r)
reads_as P Q make to back bytes (Ok (x, n)) (within, word) = (within, to (take n bytes) x word)
reads_as P Q make to back bytes (Err errors.Short) (x, next, rest, word) = (make x, next, rest, to (bytes ++ next ∷ rest) x word)
reads_as P Q make to back bytes (Err (errors.Malformed at)) (within, (x, next, rest, word), ends) =
    (within, (make x, next, rest, to (take at bytes ++ next ∷ rest) x word), λ v more is. (let p = back (take (at + 1) bytes ++ more) v is in ends p.0 more p.1))
reads_as P Q make to back bytes (Err errors.NoMemory) u = tt

-- ---- texts

pub text_utf8 : (ty : CqlType) (content : List ℕ) → IsTextType ty → IsContent ty content → IsUtf8 content
text_utf8 types.Ascii content t ascii = IsUtf8-from_ascii content ascii
text_utf8 types.Text content t utf8 = utf8
text_utf8 ty content t other = absurd t

-- ---- bytes by index

pub same_lists : (xs ys : List ℕ) → length xs ≡ length ys → ((k : ℕ) → k < length xs → get_or xs k 0 ≡ get_or ys k 0) → xs ≡ ys
same_lists [] [] len same = refl
same_lists [] (y ∷ ys) len same = absurd (omega arith)
same_lists (x ∷ xs) [] len same = absurd (omega arith)
same_lists (x ∷ xs) (y ∷ ys) len same =
    let rest : xs ≡ ys = same_lists xs ys (omega arith) (λ k l. same (suc k) (omega arith)) in
    (λ i. same 0 (omega arith) i ∷ rest i)

pub front_is : (n : ℕ) (front all : List ℕ) → length front ≡ n → n ≤ length all → ((k : ℕ) → k < n → get_or front k 0 ≡ get_or all k 0) → front ≡ take n all
front_is n front all len long same =
    let sized : length (take n all) ≡ n = (let t = length-take n all in omega arith) in
    same_lists front (take n all) (len ∙ sym sized)
    (λ k l. same k (omega arith) ∙ sym (get_or-take n all k 0 (omega arith)))

pub front_read : (n : ℕ) (front all : List ℕ) → length front ≡ n → n ≤ length all → ((k : ℕ) → k < n → get_or front k 0 ≡ get_or all k 0)
    → (let r : Result (List ℕ) OrderError = Ok front in r) ≡ front_of n all
front_read n front all len long same =
    let test : nat_lt (length all) n ≡ false = grind (arith, nat_tests) in
    ap Ok (front_is n front all len long same) ∙ sym (cond_false (nat_lt (length all) n) (Err errors.Short) (Ok (take n all)) test)

complement-drop : (n : ℕ) (xs : List ℕ) → complement (drop n xs) ≡ drop n (complement xs)
complement-drop zero xs = refl
complement-drop (suc n) [] = refl
complement-drop (suc n) (x ∷ xs) = complement-drop n xs

pub ascending-drop : (desc : Bool) (n : ℕ) (bytes : List ℕ) → ascending_bytes desc (drop n bytes) ≡ drop n (ascending_bytes desc bytes)
ascending-drop true n bytes = complement-drop n bytes
ascending-drop false n bytes = refl

pub front_ok : (n : ℕ) (front bytes : List ℕ) → (let r : Result (List ℕ) OrderError = Ok front in r) ≡ front_of n bytes → front ≡ take n bytes
front_ok n front bytes h = go (nat_lt (length bytes) n) h
  where
    go : (b : Bool) → (let r : Result (List ℕ) OrderError = Ok front in r) ≡ cond b (Err errors.Short) (Ok (take n bytes)) → front ≡ take n bytes
    go true g = absurd (cc)
    go false g = cc
