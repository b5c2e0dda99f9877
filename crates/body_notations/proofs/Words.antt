-- What is read is a word, and a word is read.
use Rattle.std.proofs.Common.{◌≡◌, ℕ, zero, suc, ◌-◌, ◌≤◌, Bool, true, false, cond, ltb, eqb, inl, inr, List, [], ◌∷◌, ◌++◌, length, take, drop, Option, Some, None, Result, Ok, Err, refl, sym, ap, subst, ◌∙◌, arith}
use Rattle.std.specs.Prelude.{◌⊎◌, ℤ, pos, negsuc, int_lt}
use Rattle.std.specs.Int.{Width, w16, w32, w64, byte_len, cast_signed, from_be_bytes}
use Rattle.std.specs.Str.{IsUtf8, is_utf8}
use Rattle.std.specs.Str.Lossy.{utf8_valid_len}
use Rattle.std.proofs.lemmas.Bool.{ltb-false, le-ltb, lt-ltb, eqb-true}
use Rattle.std.proofs.lemmas.List.{nil_from_length, take_at, drop_at, take-append-drop, length-append, length-take}
use Rattle.std.proofs.lemmas.Str.{is_utf8-from_IsUtf8, IsUtf8-from_is_utf8}
use Rattle.body_notations.specs.declared.fault.Fault.{Fault}
use Rattle.body_notations.specs.declared.fault.Fault.TheVariants as faults
use Rattle.body_notations.specs.declared.fault.BodyError.{BodyError}
use Rattle.body_notations.specs.declared.fault.BodyError.TheVariants.{Trailing}
use Rattle.body_notations.specs.declared.value.Value.{Value}
use Rattle.body_notations.specs.declared.value.Value.TheVariants as values
use Rattle.body_notations.specs.declared.consistency.Consistency.{Consistency}
use Rattle.body_notations.specs.declared.consistency.Consistency.TheVariants as consistencies
use Rattle.cs_base.specs.declared.level.Level.TheVariants as levels
use Rattle.body_notations.specs.Notations.{IsByte, IsNumber, IsShort, IsSigned, IsInt, IsLong, consistency_code, IsConsistency, IsString, IsLongString, IsShortBytes, IsBytes, IsValue, AreWords, IsList, IsPart}
use Rattle.body_notations.specs.Reading.{◌>>=◌, Read, byte_at, number_at, short_at, signed_at, int_at, long_at, count_of, count_at, consistency_of, consistency_at, counted_at, text_at, string_at, long_string_at, short_bytes_at, nullable_at, bytes_at, value_of_length, value_at, items_at, list_at, part_at, ended, whole}

-- ---- steps

-- the value of a step that did not fail
pub bind_ok : {A B : Type 0} (r : Result A Fault) (f : A → Result B Fault) (y : B) → (r >>= f) ≡ Ok y → (x : A) × (r ≡ Ok x) × (f x ≡ Ok y)
bind_ok (Ok x) f y e = (x, refl, e)
bind_ok (Err d) f y e = absurd cc

-- a test that did not fail
pub guard_ok : {A : Type 0} (b : Bool) (d : Fault) (x y : A) → cond b (Err d) (Ok x) ≡ Ok y → (b ≡ false) × (x ≡ y)
guard_ok true d x y e = absurd cc
guard_ok false d x y e = (refl, cc)

-- a test that was passed
pub passed_ok : {A : Type 0} (b : Bool) (d : Fault) (x y : A) → cond b (Ok x) (Err d) ≡ Ok y → (b ≡ true) × (x ≡ y)
passed_ok true d x y e = (refl, cc)
passed_ok false d x y e = absurd cc

abbrev done : {A : Type 0} → A → Result A Fault
done x = Ok x

pub ok_is : {A : Type 0} (x y : A) → done x ≡ done y → x ≡ y
ok_is x y e = cc

-- what a notation's two sides are
pub record Agrees {A : Type 0} (read : List ℕ → Read A) (N : List ℕ → A → List ℕ → Type 0) : Type 0 where
  pub is_word : (bytes : List ℕ) (x : A) (rest : List ℕ) → read bytes ≡ Ok (x, rest) → N bytes x rest
  pub is_read : (bytes : List ℕ) (x : A) (rest : List ℕ) → N bytes x rest → read bytes ≡ Ok (x, rest)

-- ---- numbers

pub byte_agrees : Agrees byte_at IsByte
byte_agrees = record { is_word = word; is_read = read }
  where
    word : (bytes : List ℕ) (b : ℕ) (rest : List ℕ) → byte_at bytes ≡ Ok (b, rest) → IsByte bytes b rest
    word [] b rest e = absurd cc
    word (c ∷ bytes) b rest e = let p = ok_is (c, bytes) (b, rest) e in ap (λ (q : ℕ × List ℕ). q.0 ∷ q.1) p

    read : (bytes : List ℕ) (b : ℕ) (rest : List ℕ) → IsByte bytes b rest → byte_at bytes ≡ Ok (b, rest)
    read bytes b rest e = ap byte_at e

number_word : (w : Width) (bytes : List ℕ) (n : ℕ) (rest : List ℕ) → number_at w bytes ≡ Ok (n, rest) → IsNumber w bytes n rest
number_word w bytes n rest e =
    let g = guard_ok (ltb (length bytes) (byte_len w)) (faults.Short (length bytes)) (from_be_bytes w (take (byte_len w) bytes), drop (byte_len w) bytes) (n, rest) e in
    let long : byte_len w ≤ length bytes = ltb-false _ _ g.0 in
    let n-is : from_be_bytes w (take (byte_len w) bytes) ≡ n = ap (λ (p : ℕ × List ℕ). p.0) g.1 in
    let rest-is : drop (byte_len w) bytes ≡ rest = ap (λ (p : ℕ × List ℕ). p.1) g.1 in
    record {
      digits = take (byte_len w) bytes;
      parts = sym (take-append-drop (byte_len w) bytes) ∙ ap (λ (r : List ℕ). take (byte_len w) bytes ++ r) rest-is;
      count = omega (arith, length-take (byte_len w) bytes);
      value = sym n-is;
    }

number_read : (w : Width) (bytes : List ℕ) (n : ℕ) (rest : List ℕ) → IsNumber w bytes n rest → number_at w bytes ≡ Ok (n, rest)
number_read w bytes n rest word =
    let long : ltb (length (word.digits ++ rest)) (byte_len w) ≡ false = le-ltb _ _ (omega (arith, length-append word.digits rest, word.count)) in
    ap (number_at w) word.parts
    ∙ rw (long, take_at word.digits rest (byte_len w) word.count, drop_at word.digits rest (byte_len w) word.count) (ap (λ (m : ℕ). Ok (m, rest)) (sym word.value))

pub number_agrees : (w : Width) → Agrees (number_at w) (IsNumber w)
number_agrees w = record { is_word = number_word w; is_read = number_read w }

pub short_agrees : Agrees short_at IsShort
short_agrees = number_agrees w16

signed_word : (w : Width) (bytes : List ℕ) (n : ℤ) (rest : List ℕ) → signed_at w bytes ≡ Ok (n, rest) → IsSigned w bytes n rest
signed_word w bytes n rest e =
    let a = bind_ok (number_at w bytes) (λ n. Ok (cast_signed w n.0, n.1)) (n, rest) e in
    let p = ok_is (cast_signed w a.0.0, a.0.1) (n, rest) a.2 in
    let rest-is : a.0.1 ≡ rest = ap (λ (q : ℤ × List ℕ). q.1) p in
    (a.0.0, subst (λ (r : List ℕ). IsNumber w bytes a.0.0 r) rest-is (number_word w bytes a.0.0 a.0.1 a.1), sym (ap (λ (q : ℤ × List ℕ). q.0) p))

signed_read : (w : Width) (bytes : List ℕ) (n : ℤ) (rest : List ℕ) → IsSigned w bytes n rest → signed_at w bytes ≡ Ok (n, rest)
signed_read w bytes n rest word = rw (number_read w bytes word.0 rest word.1) (ap (λ (m : ℤ). Ok (m, rest)) (sym word.2))

pub signed_agrees : (w : Width) → Agrees (signed_at w) (IsSigned w)
signed_agrees w = record { is_word = signed_word w; is_read = signed_read w }

pub int_agrees : Agrees int_at IsInt
int_agrees = signed_agrees w32

pub long_agrees : Agrees long_at IsLong
long_agrees = signed_agrees w64

-- an [int] that is not below 0
abbrev pub IsCount : List ℕ → ℕ → List ℕ → Type 0
IsCount bytes n rest = IsInt bytes (pos n) rest

not_low : (n : ℕ) → int_lt (pos n) (pos 0) ≡ false
not_low n = le-ltb n 0 (omega arith)

count_of_ok : (n : ℤ) (bytes : List ℕ) (m : ℕ) (rest : List ℕ) → count_of (n, bytes) ≡ Ok (m, rest) → (n ≡ pos m) × (bytes ≡ rest)
count_of_ok (pos n) bytes m rest e =
    let p = (guard_ok (int_lt (pos n) (pos 0)) (faults.BadValue (pos n)) (n, bytes) (m, rest) e).1 in
    (ap (λ (q : ℕ × List ℕ). pos q.0) p, ap (λ (q : ℕ × List ℕ). q.1) p)
count_of_ok (negsuc n) bytes m rest e = absurd cc

count_word : (bytes : List ℕ) (n : ℕ) (rest : List ℕ) → count_at bytes ≡ Ok (n, rest) → IsCount bytes n rest
unfolding count_at
count_word bytes n rest e =
    let a = bind_ok (int_at bytes) count_of (n, rest) e in
    let p = count_of_ok a.0.0 a.0.1 n rest a.2 in
    subst (λ (q : ℤ). IsInt bytes q rest) p.0 (subst (λ (r : List ℕ). IsInt bytes a.0.0 r) p.1 (int_agrees.is_word bytes a.0.0 a.0.1 a.1))

count_read : (bytes : List ℕ) (n : ℕ) (rest : List ℕ) → IsCount bytes n rest → count_at bytes ≡ Ok (n, rest)
unfolding count_at
count_read bytes n rest word = rw (int_agrees.is_read bytes (pos n) rest word, not_low n) refl

pub count_agrees : Agrees count_at IsCount
count_agrees = record { is_word = count_word; is_read = count_read }

-- ---- consistencies

chosen : {A : Type 0} (b : Bool) (x y z : A) → cond b x y ≡ z → ((b ≡ true) × (x ≡ z)) ⊎ ((b ≡ false) × (y ≡ z))
chosen true x y z e = inl (refl, e)
chosen false x y z e = inr (refl, e)

code_known : (c : Consistency) → consistency_of (consistency_code c) ≡ Ok c
code_known consistencies.Any = refl
code_known consistencies.EachQuorum = refl
code_known (consistencies.Level levels.One) = refl
code_known (consistencies.Level levels.Two) = refl
code_known (consistencies.Level levels.Three) = refl
code_known (consistencies.Level levels.Quorum) = refl
code_known (consistencies.Level levels.All) = refl
code_known (consistencies.Level levels.LocalQuorum) = refl
code_known (consistencies.Level levels.Serial) = refl
code_known (consistencies.Level levels.LocalSerial) = refl
code_known (consistencies.Level levels.LocalOne) = refl

-- one test of the table of codes
tested : (code k : ℕ) (x c : Consistency) (others : Result Consistency Fault) → consistency_code x ≡ k → cond (eqb code k) (Ok x) others ≡ Ok c → (others ≡ Ok c → consistency_code c ≡ code) → consistency_code c ≡ code
tested code k x c others is e next = go (eqb code k) refl e
  where
    go : (b : Bool) → eqb code k ≡ b → cond b (Ok x) others ≡ Ok c → consistency_code c ≡ code
    go true t e = ap consistency_code (sym (ok_is x c e)) ∙ is ∙ sym (eqb-true code k t)
    go false t e = next e

code_of_known : (code : ℕ) (c : Consistency) → consistency_of code ≡ Ok c → consistency_code c ≡ code
code_of_known code c e =
    tested code 0 consistencies.Any c _ refl e (λ e. tested code 1 (consistencies.Level levels.One) c _ refl e (λ e. tested code 2 (consistencies.Level levels.Two) c _ refl e
    (λ e. tested code 3 (consistencies.Level levels.Three) c _ refl e (λ e. tested code 4 (consistencies.Level levels.Quorum) c _ refl e (λ e. tested code 5 (consistencies.Level levels.All) c _ refl e
    (λ e. tested code 6 (consistencies.Level levels.LocalQuorum) c _ refl e (λ e. tested code 7 consistencies.EachQuorum c _ refl e (λ e. tested code 8 (consistencies.Level levels.Serial) c _ refl e
    (λ e. tested code 9 (consistencies.Level levels.LocalSerial) c _ refl e (λ e. tested code 10 (consistencies.Level levels.LocalOne) c _ refl e (λ e. absurd cc)))))))))))

consistency_word : (bytes : List ℕ) (c : Consistency) (rest : List ℕ) → consistency_at bytes ≡ Ok (c, rest) → IsConsistency bytes c rest
unfolding consistency_at
consistency_word bytes c rest e =
    let a = bind_ok (short_at bytes) (λ code. consistency_of code.0 >>= λ c. Ok (c, code.1)) (c, rest) e in
    let b = bind_ok (consistency_of a.0.0) (λ c. Ok (c, a.0.1)) (c, rest) a.2 in
    let p = ok_is (b.0, a.0.1) (c, rest) b.2 in
    let code-is : a.0.0 ≡ consistency_code c = sym (code_of_known a.0.0 b.0 b.1) ∙ ap (λ (q : Consistency × List ℕ). consistency_code q.0) p in
    let word : IsShort bytes (consistency_code c) a.0.1 = subst (λ (n : ℕ). IsShort bytes n a.0.1) code-is (short_agrees.is_word bytes a.0.0 a.0.1 a.1) in
    subst (λ (r : List ℕ). IsShort bytes (consistency_code c) r) (ap (λ (q : Consistency × List ℕ). q.1) p) word

consistency_read : (bytes : List ℕ) (c : Consistency) (rest : List ℕ) → IsConsistency bytes c rest → consistency_at bytes ≡ Ok (c, rest)
unfolding consistency_at
consistency_read bytes c rest word = rw (short_agrees.is_read bytes (consistency_code c) rest word, code_known c) refl

pub consistency_agrees : Agrees consistency_at IsConsistency
consistency_agrees = record { is_word = consistency_word; is_read = consistency_read }

-- ---- texts and bytes

counted_ok : (n : ℕ) (bytes content rest : List ℕ) → counted_at n bytes ≡ Ok (content, rest) → (bytes ≡ content ++ rest) × (n ≡ length content)
counted_ok n bytes content rest e =
    let g = guard_ok (ltb (length bytes) n) (faults.Short (length bytes)) (take n bytes, drop n bytes) (content, rest) e in
    let long : n ≤ length bytes = ltb-false _ _ g.0 in
    let count : n ≡ length (take n bytes) = omega (arith, length-take n bytes) in
    (sym (take-append-drop n bytes) ∙ ap (λ (p : List ℕ × List ℕ). p.0 ++ p.1) g.1, count ∙ ap (λ (p : List ℕ × List ℕ). length p.0) g.1)

counted_read : (content rest : List ℕ) → counted_at (length content) (content ++ rest) ≡ Ok (content, rest)
counted_read content rest =
    let long : ltb (length (content ++ rest)) (length content) ≡ false = le-ltb _ _ (omega (arith, length-append content rest)) in
    rw (long, take_at content rest (length content) refl, drop_at content rest (length content) refl) refl

text_ok : (n : ℕ) (bytes text rest : List ℕ) → text_at n bytes ≡ Ok (text, rest) → (bytes ≡ text ++ rest) × (n ≡ length text) × IsUtf8 text
text_ok n bytes text rest e =
    let a = bind_ok (counted_at n bytes) (λ text. cond (is_utf8 text.0) (Ok text) (Err (faults.NotUtf8 (length bytes - utf8_valid_len text.0)))) (text, rest) e in
    let g = passed_ok (is_utf8 a.0.0) (faults.NotUtf8 (length bytes - utf8_valid_len a.0.0)) a.0 (text, rest) a.2 in
    let p = counted_ok n bytes text rest (a.1 ∙ ap (λ (q : List ℕ × List ℕ). Ok q) g.1) in
    let same : a.0.0 ≡ text = ap (λ (q : List ℕ × List ℕ). q.0) g.1 in
    (p.0, p.1, IsUtf8-from_is_utf8 text (ap is_utf8 (sym same) ∙ g.0))

text_read : (text rest : List ℕ) → IsUtf8 text → text_at (length text) (text ++ rest) ≡ Ok (text, rest)
text_read text rest utf8 = rw (counted_read text rest, is_utf8-from_IsUtf8 text utf8) refl

string_word : (bytes text rest : List ℕ) → string_at bytes ≡ Ok (text, rest) → IsString bytes text rest
unfolding string_at
string_word bytes text rest e =
    let a = bind_ok (short_at bytes) (λ n. text_at n.0 n.1) (text, rest) e in
    let p = text_ok a.0.0 a.0.1 text rest a.2 in
    (subst (λ (n : ℕ). IsShort bytes n (text ++ rest)) p.1 (subst (λ (r : List ℕ). IsShort bytes a.0.0 r) p.0 (short_agrees.is_word bytes a.0.0 a.0.1 a.1)), p.2)

string_read : (bytes text rest : List ℕ) → IsString bytes text rest → string_at bytes ≡ Ok (text, rest)
unfolding string_at
string_read bytes text rest word = rw (short_agrees.is_read bytes (length text) (text ++ rest) word.0, text_read text rest word.1) refl

pub string_agrees : Agrees string_at IsString
string_agrees = record { is_word = string_word; is_read = string_read }

long_string_word : (bytes text rest : List ℕ) → long_string_at bytes ≡ Ok (text, rest) → IsLongString bytes text rest
unfolding long_string_at
long_string_word bytes text rest e =
    let a = bind_ok (count_at bytes) (λ n. text_at n.0 n.1) (text, rest) e in
    let p = text_ok a.0.0 a.0.1 text rest a.2 in
    (subst (λ (n : ℕ). IsCount bytes n (text ++ rest)) p.1 (subst (λ (r : List ℕ). IsCount bytes a.0.0 r) p.0 (count_agrees.is_word bytes a.0.0 a.0.1 a.1)), p.2)

long_string_read : (bytes text rest : List ℕ) → IsLongString bytes text rest → long_string_at bytes ≡ Ok (text, rest)
unfolding long_string_at
long_string_read bytes text rest word = rw (count_agrees.is_read bytes (length text) (text ++ rest) word.0, text_read text rest word.1) refl

pub long_string_agrees : Agrees long_string_at IsLongString
long_string_agrees = record { is_word = long_string_word; is_read = long_string_read }

short_bytes_word : (bytes content rest : List ℕ) → short_bytes_at bytes ≡ Ok (content, rest) → IsShortBytes bytes content rest
unfolding short_bytes_at
short_bytes_word bytes content rest e =
    let a = bind_ok (short_at bytes) (λ n. counted_at n.0 n.1) (content, rest) e in
    let p = counted_ok a.0.0 a.0.1 content rest a.2 in
    subst (λ (n : ℕ). IsShort bytes n (content ++ rest)) p.1 (subst (λ (r : List ℕ). IsShort bytes a.0.0 r) p.0 (short_agrees.is_word bytes a.0.0 a.0.1 a.1))

short_bytes_read : (bytes content rest : List ℕ) → IsShortBytes bytes content rest → short_bytes_at bytes ≡ Ok (content, rest)
unfolding short_bytes_at
short_bytes_read bytes content rest word = rw (short_agrees.is_read bytes (length content) (content ++ rest) word, counted_read content rest) refl

pub short_bytes_agrees : Agrees short_bytes_at IsShortBytes
short_bytes_agrees = record { is_word = short_bytes_word; is_read = short_bytes_read }

nullable_ok : (n : ℤ) (bytes : List ℕ) (content : Option (List ℕ)) (rest : List ℕ) → nullable_at n bytes ≡ Ok (content, rest)
    → (start : List ℕ) → IsInt start n bytes → IsBytes start content rest
nullable_ok (pos n) bytes content rest e start word =
    let g = chosen (int_lt (pos n) (pos 0)) (Ok (None, bytes)) (counted_at n bytes >>= λ x. Ok (Some x.0, x.1)) (Ok (content, rest)) e in
    elim g [
      | inl h ↦ absurd (cc (not_low n, h.0))
      | inr h ↦
          let a = bind_ok (counted_at n bytes) (λ x. Ok (Some x.0, x.1)) (content, rest) h.1 in
          let p = counted_ok n bytes a.0.0 a.0.1 a.1 in
          let made : Option (List ℕ) × List ℕ = (Some a.0.0, a.0.1) in
          let whole : IsInt start (pos (length a.0.0)) (a.0.0 ++ a.0.1) = subst (λ (m : ℕ). IsInt start (pos m) (a.0.0 ++ a.0.1)) p.1 (subst (λ (r : List ℕ). IsInt start (pos n) r) p.0 word) in
          subst (λ (q : Option (List ℕ) × List ℕ). IsBytes start q.0 q.1) (ok_is made (content, rest) a.2) whole
    ]
nullable_ok (negsuc n) bytes content rest e start word =
    let made : Option (List ℕ) × List ℕ = (None, bytes) in
    subst (λ (q : Option (List ℕ) × List ℕ). IsBytes start q.0 q.1) (ok_is made (content, rest) e) (n, word)

bytes_word : (bytes : List ℕ) (content : Option (List ℕ)) (rest : List ℕ) → bytes_at bytes ≡ Ok (content, rest) → IsBytes bytes content rest
unfolding bytes_at
bytes_word bytes content rest e =
    let a = bind_ok (int_at bytes) (λ n. nullable_at n.0 n.1) (content, rest) e in
    nullable_ok a.0.0 a.0.1 content rest a.2 bytes (int_agrees.is_word bytes a.0.0 a.0.1 a.1)

bytes_read : (bytes : List ℕ) (content : Option (List ℕ)) (rest : List ℕ) → IsBytes bytes content rest → bytes_at bytes ≡ Ok (content, rest)
unfolding bytes_at
bytes_read bytes None rest word = rw (int_agrees.is_read bytes (negsuc word.0) rest word.1) refl
bytes_read bytes (Some content) rest word = rw (int_agrees.is_read bytes (pos (length content)) (content ++ rest) word, not_low (length content), counted_read content rest) refl

pub bytes_agrees : Agrees bytes_at IsBytes
bytes_agrees = record { is_word = bytes_word; is_read = bytes_read }

value_ok : (n : ℤ) (bytes : List ℕ) (v : Value) (rest : List ℕ) → value_of_length n bytes ≡ Ok (v, rest) → (start : List ℕ) → IsInt start n bytes → IsValue start v rest
value_ok (pos n) bytes v rest e start word =
    let g = chosen (int_lt (pos n) (pos 0)) (Ok (values.Null, bytes)) (counted_at n bytes >>= λ x. Ok (values.Given x.0, x.1)) (Ok (v, rest)) e in
    elim g [
      | inl h ↦ absurd (cc (not_low n, h.0))
      | inr h ↦
          let a = bind_ok (counted_at n bytes) (λ x. Ok (values.Given x.0, x.1)) (v, rest) h.1 in
          let p = counted_ok n bytes a.0.0 a.0.1 a.1 in
          let made : Value × List ℕ = (values.Given a.0.0, a.0.1) in
          let whole : IsInt start (pos (length a.0.0)) (a.0.0 ++ a.0.1) = subst (λ (m : ℕ). IsInt start (pos m) (a.0.0 ++ a.0.1)) p.1 (subst (λ (r : List ℕ). IsInt start (pos n) r) p.0 word) in
          subst (λ (q : Value × List ℕ). IsValue start q.0 q.1) (ok_is made (v, rest) a.2) whole
    ]
value_ok (negsuc zero) bytes v rest e start word =
    let made : Value × List ℕ = (values.Null, bytes) in
    subst (λ (q : Value × List ℕ). IsValue start q.0 q.1) (ok_is made (v, rest) e) word
value_ok (negsuc (suc zero)) bytes v rest e start word =
    let made : Value × List ℕ = (values.NotSet, bytes) in
    subst (λ (q : Value × List ℕ). IsValue start q.0 q.1) (ok_is made (v, rest) e) word
value_ok (negsuc (suc (suc n))) bytes v rest e start word =
    let low : int_lt (negsuc (suc (suc n))) (negsuc 1) ≡ true = lt-ltb 1 (suc (suc n)) (omega arith) in
    absurd (cc (rw low at e))

value_word : (bytes : List ℕ) (v : Value) (rest : List ℕ) → value_at bytes ≡ Ok (v, rest) → IsValue bytes v rest
unfolding value_at
value_word bytes v rest e =
    let a = bind_ok (int_at bytes) (λ n. value_of_length n.0 n.1) (v, rest) e in
    value_ok a.0.0 a.0.1 v rest a.2 bytes (int_agrees.is_word bytes a.0.0 a.0.1 a.1)

value_read : (bytes : List ℕ) (v : Value) (rest : List ℕ) → IsValue bytes v rest → value_at bytes ≡ Ok (v, rest)
unfolding value_at
value_read bytes values.Null rest word = rw (int_agrees.is_read bytes (negsuc 0) rest word) refl
value_read bytes values.NotSet rest word = rw (int_agrees.is_read bytes (negsuc 1) rest word) refl
value_read bytes (values.Given content) rest word = rw (int_agrees.is_read bytes (pos (length content)) (content ++ rest) word, not_low (length content), counted_read content rest) refl

pub value_agrees : Agrees value_at IsValue
value_agrees = record { is_word = value_word; is_read = value_read }

-- ---- lists

items_word : {A : Type 0} (read : List ℕ → Read A) (N : List ℕ → A → List ℕ → Type 0) → Agrees read N
    → (n : ℕ) (bytes : List ℕ) (xs : List A) (rest : List ℕ) → items_at read n bytes ≡ Ok (xs, rest) → AreWords N bytes xs rest × (n ≡ length xs)
unfolding items_at
items_word {A} read N agrees zero bytes xs rest e =
    let made : List A × List ℕ = ([], bytes) in
    subst (λ (q : List A × List ℕ). AreWords N bytes q.0 q.1 × (0 ≡ length q.0)) (ok_is made (xs, rest) e) (refl, refl)
items_word {A} read N agrees (suc n) bytes xs rest e =
    let a = bind_ok (read bytes) (λ first. items_at read n first.1 >>= λ others. Ok (first.0 ∷ others.0, others.1)) (xs, rest) e in
    let b = bind_ok (items_at read n a.0.1) (λ others. Ok (a.0.0 ∷ others.0, others.1)) (xs, rest) a.2 in
    let first = agrees.is_word bytes a.0.0 a.0.1 a.1 in
    let others = items_word read N agrees n a.0.1 b.0.0 b.0.1 b.1 in
    let made : List A × List ℕ = (a.0.0 ∷ b.0.0, b.0.1) in
    subst (λ (q : List A × List ℕ). AreWords N bytes q.0 q.1 × (suc n ≡ length q.0)) (ok_is made (xs, rest) b.2) ((a.0.1, first, others.0), ap suc others.1)

items_read : {A : Type 0} (read : List ℕ → Read A) (N : List ℕ → A → List ℕ → Type 0) → Agrees read N
    → (bytes : List ℕ) (xs : List A) (rest : List ℕ) → AreWords N bytes xs rest → items_at read (length xs) bytes ≡ Ok (xs, rest)
unfolding items_at
items_read {A} read N agrees bytes [] rest word = ap (λ (r : List ℕ). Ok ([], r)) word
items_read read N agrees bytes (x ∷ xs) rest word =
    rw (agrees.is_read bytes x word.0 word.1, items_read read N agrees word.0 xs rest word.2) refl

-- so many words
pub items_agree : {A : Type 0} (read : List ℕ → Read A) (N : List ℕ → A → List ℕ → Type 0) → Agrees read N
    → (n : ℕ) → Agrees (items_at read n) (λ bytes xs rest. AreWords N bytes xs rest × (n ≡ length xs))
items_agree {A} read N agrees n = record {
  is_word = items_word read N agrees n;
  is_read = λ bytes xs rest word. ap (λ (k : ℕ). items_at read k bytes) word.1 ∙ items_read read N agrees bytes xs rest word.0;
}

pub list_agrees : {A : Type 0} (read : List ℕ → Read A) (N : List ℕ → A → List ℕ → Type 0) → Agrees read N → Agrees (list_at read) (IsList N)
unfolding list_at
list_agrees {A} read N agrees = record {
  is_word = λ bytes xs rest e.
      let a = bind_ok (short_at bytes) (λ n. items_at read n.0 n.1) (xs, rest) e in
      let p = items_word read N agrees a.0.0 a.0.1 xs rest a.2 in
      (a.0.1, subst (λ (n : ℕ). IsShort bytes n a.0.1) p.1 (short_agrees.is_word bytes a.0.0 a.0.1 a.1), p.0);
  is_read = λ bytes xs rest word.
      rw (short_agrees.is_read bytes (length xs) word.0 word.1) (items_read read N agrees word.0 xs rest word.2);
}

-- ---- parts

part_word : {A : Type 0} (read : List ℕ → Read A) (N : List ℕ → A → List ℕ → Type 0) → Agrees read N
    → (set : Bool) (bytes : List ℕ) (o : Option A) (rest : List ℕ) → part_at set read bytes ≡ Ok (o, rest) → IsPart set N bytes o rest
part_word {A} read N agrees false bytes o rest e =
    let made : Option A × List ℕ = (None, bytes) in
    subst (λ (q : Option A × List ℕ). IsPart false N bytes q.0 q.1) (ok_is made (o, rest) e) (refl, refl)
part_word {A} read N agrees true bytes o rest e =
    let a = bind_ok (read bytes) (λ x. Ok (Some x.0, x.1)) (o, rest) e in
    let made : Option A × List ℕ = (Some a.0.0, a.0.1) in
    subst (λ (q : Option A × List ℕ). IsPart true N bytes q.0 q.1) (ok_is made (o, rest) a.2) (refl, agrees.is_word bytes a.0.0 a.0.1 a.1)

part_read : {A : Type 0} (read : List ℕ → Read A) (N : List ℕ → A → List ℕ → Type 0) → Agrees read N
    → (set : Bool) (bytes : List ℕ) (o : Option A) (rest : List ℕ) → IsPart set N bytes o rest → part_at set read bytes ≡ Ok (o, rest)
part_read {A} read N agrees false bytes None rest word = ap (λ (r : List ℕ). Ok (None, r)) word.1
part_read read N agrees true bytes None rest word = absurd (cc (word.0))
part_read read N agrees false bytes (Some x) rest word = absurd (cc (word.0))
part_read read N agrees true bytes (Some x) rest word = rw (agrees.is_read bytes x rest word.1) refl

pub part_agrees : {A : Type 0} (read : List ℕ → Read A) (N : List ℕ → A → List ℕ → Type 0) → Agrees read N → (set : Bool) → Agrees (part_at set read) (IsPart set N)
part_agrees {A} read N agrees set = record { is_word = part_word read N agrees set; is_read = part_read read N agrees set }

-- ---- a value made of one, or of two

-- what is read, seen by a function
abbrev pub made : {A B : Type 0} → (A → B) → A × List ℕ → Read B
made f x = Ok (f x.0, x.1)

pub mapped_ok : {A B : Type 0} (read : Read A) (f : A → B) (y : B) (rest : List ℕ) → (read >>= made f) ≡ Ok (y, rest) → (x : A) × (read ≡ Ok (x, rest)) × (f x ≡ y)
mapped_ok {A} {B} (Ok x) f y rest e =
    let p = ok_is (f x.0, x.1) (y, rest) e in
    (x.0, ap (λ (r : List ℕ). Ok (x.0, r)) (ap (λ (q : B × List ℕ). q.1) p), ap (λ (q : B × List ℕ). q.0) p)
mapped_ok (Err d) f y rest e = absurd cc

pub two_ok : {A B C : Type 0} (r : List ℕ → Read A) (s : List ℕ → Read B) (N : List ℕ → A → List ℕ → Type 0) (M : List ℕ → B → List ℕ → Type 0) → Agrees r N → Agrees s M
    → (make : A → B → C) (bytes : List ℕ) (c : C) (rest : List ℕ) → (r bytes >>= λ x. s x.1 >>= made (make x.0)) ≡ Ok (c, rest)
    → (x : A) × (y : B) × (middle : List ℕ) × N bytes x middle × M middle y rest × (make x y ≡ c)
two_ok {A} {B} {C} r s N M first second make bytes c rest e =
    let a = bind_ok (r bytes) (λ x. s x.1 >>= made (make x.0)) (c, rest) e in
    let b = mapped_ok (s a.0.1) (make a.0.0) c rest a.2 in
    (a.0.0, b.0, a.0.1, first.is_word bytes a.0.0 a.0.1 a.1, second.is_word a.0.1 b.0 rest b.1, b.2)

pub ok_same : {A : Type 0} (x y : A) → (let r : Result A BodyError = Ok x in r) ≡ Ok y → x ≡ y
ok_same x y e = cc

-- ---- bodies

pub ended_ok : {A : Type 0} (x : A) (rest : List ℕ) (y : A) → ended x rest ≡ Ok y → (rest ≡ []) × (x ≡ y)
ended_ok {A} x rest y e = go (eqb (length rest) 0) refl e
  where
    go : (b : Bool) → eqb (length rest) 0 ≡ b → (let r : Result A BodyError = cond b (Ok x) (Err (Trailing (length rest))) in r) ≡ Ok y → (rest ≡ []) × (x ≡ y)
    go true t e = (nil_from_length rest (eqb-true _ _ t), cc (e))
    go false t e = absurd (cc (e))

pub whole_ok : {A : Type 0} (total : ℕ) (read : Read A) (y : A) → whole total read ≡ Ok y → read ≡ Ok (y, [])
whole_ok {A} total (Ok x) y e =
    let p = ended_ok x.0 x.1 y e in
    ap (λ (r : List ℕ). Ok (x.0, r)) p.0 ∙ ap (λ (v : A). Ok (v, [])) p.1
whole_ok total (Err f) y e = absurd (cc (e))
