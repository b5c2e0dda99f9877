-- What is read is a word, and a word is read.
use Rattle.std.proofs.Common.{◌≡◌, ℕ, ◌≤◌, Bool, true, false, cond, ltb, leb, eqb, inl, inr, List, [], ◌∷◌, ◌++◌, length, take, drop, Option, Some, None, Result, Ok, Err, refl, sym, ap, subst, ◌∙◌, arith}
use Rattle.std.specs.Prelude.{◌⊎◌, ℤ}
use Rattle.std.specs.Int.{Width, w16, w32, w64, byte_len, cast_signed, from_be_bytes}
use Rattle.std.proofs.lemmas.Bool.{ltb-false, le-ltb, le-leb, leb-true, eqb-true}
use Rattle.std.proofs.lemmas.List.{take_at, drop_at, take-append-drop, length-append, length-take}
use Rattle.cs_base.specs.declared.ids.ReqId.{ReqId}
use Rattle.stored_fields.specs.declared.fault.Fault.{Fault}
use Rattle.stored_fields.specs.declared.fault.Fault.TheVariants as faults
use Rattle.stored_fields.specs.Fields.{IsU8, IsNumber, IsU16, IsU32, IsU64, IsI64, IsFlag, IsNode, IsRequest, IsField, IsOptional}
use Rattle.stored_fields.specs.Reading.{◌>>=◌, Read, u8_at, number_at, u16_at, u32_at, u64_at, i64_at, flag_of, flag_at, node_of, node_at, request_at, content_at, field_at, part_of, optional_at}

-- ---- steps

-- the value of a step that did not fail
pub bind_ok : {A B : Type 0} (r : Result A Fault) (f : A → Result B Fault) (y : B) → (r >>= f) ≡ Ok y → (x : A) × (r ≡ Ok x) × (f x ≡ Ok y)
bind_ok (Ok x) f y e = (x, refl, e)
bind_ok (Err d) f y e = absurd cc

-- a test that did not fail
pub guard_ok : {A : Type 0} (b : Bool) (d : Fault) (x y : A) → cond b (Err d) (Ok x) ≡ Ok y → (b ≡ false) × (x ≡ y)
guard_ok true d x y e = absurd cc
guard_ok false d x y e = (refl, cc)

-- a test that was passed
pub passed_ok : {A : Type 0} (b : Bool) (d : Fault) (x y : A) → cond b (Ok x) (Err d) ≡ Ok y → (b ≡ true) × (x ≡ y)
passed_ok true d x y e = (refl, cc)
passed_ok false d x y e = absurd cc

-- which way a test went
pub chosen : {A : Type 0} (b : Bool) (x y z : A) → cond b x y ≡ z → ((b ≡ true) × (x ≡ z)) ⊎ ((b ≡ false) × (y ≡ z))
chosen true x y z e = inl (refl, e)
chosen false x y z e = inr (refl, e)

abbrev done : {A : Type 0} → A → Result A Fault
done x = Ok x

pub ok_is : {A : Type 0} (x y : A) → done x ≡ done y → x ≡ y
ok_is x y e = cc

-- what reading gives are the words
pub record Agrees {A : Type 0} (read : List ℕ → Read A) (N : List ℕ → A → List ℕ → Type 0) : Type 0 where
  pub is_word : (bytes : List ℕ) (x : A × List ℕ) → read bytes ≡ Ok x → N bytes x.0 x.1
  pub is_read : (bytes : List ℕ) (x : A) (rest : List ℕ) → N bytes x rest → read bytes ≡ Ok (x, rest)

-- ---- numbers

u8_word : (bytes : List ℕ) (x : ℕ × List ℕ) → u8_at bytes ≡ Ok x → IsU8 bytes x.0 x.1
u8_word [] x e = absurd cc
u8_word (n ∷ bytes) x e = ap (λ (q : ℕ × List ℕ). q.0 ∷ q.1) (ok_is (n, bytes) x e)

pub u8_agrees : Agrees u8_at IsU8
u8_agrees = record { is_word = u8_word; is_read = λ bytes n rest word. ap u8_at word }

number_word : (w : Width) (bytes : List ℕ) (x : ℕ × List ℕ) → number_at w bytes ≡ Ok x → IsNumber w bytes x.0 x.1
number_word w bytes x e =
    let g = guard_ok (ltb (length bytes) (byte_len w)) (faults.Short (length bytes)) (from_be_bytes w (take (byte_len w) bytes), drop (byte_len w) bytes) x e in
    let long : byte_len w ≤ length bytes = ltb-false _ _ g.0 in
    subst (λ (q : ℕ × List ℕ). IsNumber w bytes q.0 q.1) g.1
    (record {
      digits = take (byte_len w) bytes;
      parts = sym (take-append-drop (byte_len w) bytes);
      count = omega (arith, length-take (byte_len w) bytes);
      value = refl;
    })

number_read : (w : Width) (bytes : List ℕ) (n : ℕ) (rest : List ℕ) → IsNumber w bytes n rest → number_at w bytes ≡ Ok (n, rest)
number_read w bytes n rest word =
    let long : ltb (length (word.digits ++ rest)) (byte_len w) ≡ false = le-ltb _ _ (omega (arith, length-append word.digits rest, word.count)) in
    ap (number_at w) word.parts
    ∙ rw (long, take_at word.digits rest (byte_len w) word.count, drop_at word.digits rest (byte_len w) word.count) (ap (λ (m : ℕ). Ok (m, rest)) (sym word.value))

pub number_agrees : (w : Width) → Agrees (number_at w) (IsNumber w)
number_agrees w = record { is_word = number_word w; is_read = number_read w }

pub u16_agrees : Agrees u16_at IsU16
u16_agrees = number_agrees w16

pub u32_agrees : Agrees u32_at IsU32
u32_agrees = number_agrees w32

pub u64_agrees : Agrees u64_at IsU64
u64_agrees = number_agrees w64

i64_word : (bytes : List ℕ) (x : ℤ × List ℕ) → i64_at bytes ≡ Ok x → IsI64 bytes x.0 x.1
i64_word bytes x e =
    let a = bind_ok (u64_at bytes) (λ n. Ok (cast_signed w64 n.0, n.1)) x e in
    let made : ℤ × List ℕ = (cast_signed w64 a.0.0, a.0.1) in
    subst (λ (q : ℤ × List ℕ). IsI64 bytes q.0 q.1) (ok_is made x a.2) (a.0.0, number_word w64 bytes a.0 a.1, refl)

i64_read : (bytes : List ℕ) (n : ℤ) (rest : List ℕ) → IsI64 bytes n rest → i64_at bytes ≡ Ok (n, rest)
i64_read bytes n rest word = rw (number_read w64 bytes word.0 rest word.1) (ap (λ (m : ℤ). Ok (m, rest)) (sym word.2))

pub i64_agrees : Agrees i64_at IsI64
i64_agrees = record { is_word = i64_word; is_read = i64_read }

-- ---- bytes that tell of something

flag_of_word : (left n : ℕ) (behind start : List ℕ) (x : Bool × List ℕ) → IsU8 start n behind → flag_of left (n, behind) ≡ Ok x → IsFlag start x.0 x.1
flag_of_word left n behind start x word e =
    let no : Bool × List ℕ = (false, behind) in
    let yes : Bool × List ℕ = (true, behind) in
    let f = chosen (eqb n 0) (Ok no) (cond (eqb n 1) (Ok yes) (Err (faults.Tag left))) (Ok x) e in
    elim f [
      | inl h ↦ subst (λ (q : Bool × List ℕ). IsFlag start q.0 q.1) (ok_is no x h.1) (subst (λ (m : ℕ). IsU8 start m behind) (eqb-true n 0 h.0) word)
      | inr h ↦
          let g = passed_ok (eqb n 1) (faults.Tag left) yes x h.1 in
          subst (λ (q : Bool × List ℕ). IsFlag start q.0 q.1) g.1 (subst (λ (m : ℕ). IsU8 start m behind) (eqb-true n 1 g.0) word)
    ]

flag_word : (bytes : List ℕ) (x : Bool × List ℕ) → flag_at bytes ≡ Ok x → IsFlag bytes x.0 x.1
unfolding flag_at
flag_word bytes x e =
    let a = bind_ok (u8_at bytes) (flag_of (length bytes)) x e in
    flag_of_word (length bytes) a.0.0 a.0.1 bytes x (u8_word bytes a.0 a.1) a.2

flag_read : (bytes : List ℕ) (flag : Bool) (rest : List ℕ) → IsFlag bytes flag rest → flag_at bytes ≡ Ok (flag, rest)
unfolding flag_at
flag_read bytes false rest word = ap flag_at word
flag_read bytes true rest word = ap flag_at word

pub flag_agrees : Agrees flag_at IsFlag
flag_agrees = record { is_word = flag_word; is_read = flag_read }

node_word : (bytes : List ℕ) (x : ℕ × List ℕ) → node_at bytes ≡ Ok x → IsNode bytes x.0 x.1
unfolding node_at
node_word bytes x e =
    let a = bind_ok (u8_at bytes) (node_of (length bytes)) x e in
    let g = passed_ok (leb a.0.0 6) (faults.Tag (length bytes)) a.0 x a.2 in
    subst (λ (q : ℕ × List ℕ). IsNode bytes q.0 q.1) g.1 (u8_word bytes a.0 a.1, leb-true a.0.0 6 g.0)

node_read : (bytes : List ℕ) (node : ℕ) (rest : List ℕ) → IsNode bytes node rest → node_at bytes ≡ Ok (node, rest)
unfolding node_at
node_read bytes node rest word = ap node_at word.0 ∙ rw (le-leb node 6 word.1) refl

pub node_agrees : Agrees node_at IsNode
node_agrees = record { is_word = node_word; is_read = node_read }

request_word : (bytes : List ℕ) (x : ReqId × List ℕ) → request_at bytes ≡ Ok x → IsRequest bytes x.0 x.1
unfolding request_at
request_word bytes x e =
    let a = bind_ok (node_at bytes) (λ node. u64_at node.1 >>= λ time. Ok (record { node = node.0; time = time.0 }, time.1)) x e in
    let b = bind_ok (u64_at a.0.1) (λ time. Ok (record { node = a.0.0; time = time.0 }, time.1)) x a.2 in
    let made : ReqId × List ℕ = (record { node = a.0.0; time = b.0.0 }, b.0.1) in
    subst (λ (q : ReqId × List ℕ). IsRequest bytes q.0 q.1) (ok_is made x b.2)
    (a.0.1, node_word bytes a.0 a.1, number_word w64 a.0.1 b.0 b.1)

request_read : (bytes : List ℕ) (r : ReqId) (rest : List ℕ) → IsRequest bytes r rest → request_at bytes ≡ Ok (r, rest)
unfolding request_at
request_read bytes r rest word = rw (node_read bytes r.node word.0 word.1, number_read w64 word.0 r.time rest word.2) refl

pub request_agrees : Agrees request_at IsRequest
request_agrees = record { is_word = request_word; is_read = request_read }

-- ---- byte fields

field_word : (bytes : List ℕ) (x : List ℕ × List ℕ) → field_at bytes ≡ Ok x → IsField bytes x.0 x.1
unfolding field_at
field_word bytes x e =
    let a = bind_ok (u32_at bytes) (λ n. content_at (length bytes) n.0 n.1) x e in
    let g = guard_ok (ltb (length a.0.1) a.0.0) (faults.Short (length bytes)) (take a.0.0 a.0.1, drop a.0.0 a.0.1) x a.2 in
    let long : a.0.0 ≤ length a.0.1 = ltb-false _ _ g.0 in
    let count : a.0.0 ≡ length (take a.0.0 a.0.1) = omega (arith, length-take a.0.0 a.0.1) in
    let split : a.0.1 ≡ take a.0.0 a.0.1 ++ drop a.0.0 a.0.1 = sym (take-append-drop a.0.0 a.0.1) in
    let word : IsU32 bytes (length (take a.0.0 a.0.1)) a.0.1 = subst (λ (n : ℕ). IsU32 bytes n a.0.1) count (number_word w32 bytes a.0 a.1) in
    subst (λ (q : List ℕ × List ℕ). IsField bytes q.0 q.1) g.1 (subst (λ (r : List ℕ). IsU32 bytes (length (take a.0.0 a.0.1)) r) split word)

field_read : (bytes content rest : List ℕ) → IsField bytes content rest → field_at bytes ≡ Ok (content, rest)
unfolding field_at
field_read bytes content rest word =
    let long : ltb (length (content ++ rest)) (length content) ≡ false = le-ltb _ _ (omega (arith, length-append content rest)) in
    rw (number_read w32 bytes (length content) (content ++ rest) word, long, take_at content rest (length content) refl, drop_at content rest (length content) refl) refl

pub field_agrees : Agrees field_at IsField
field_agrees = record { is_word = field_word; is_read = field_read }

-- ---- parts that may not be there

part_word : {A : Type 0} (read : List ℕ → Read A) (N : List ℕ → A → List ℕ → Type 0) → Agrees read N
    → (there : Bool) (bytes start : List ℕ) (x : Option A × List ℕ) → IsFlag start there bytes → part_of read there bytes ≡ Ok x → IsOptional N start x.0 x.1
part_word {A} read N agrees false bytes start x flag e =
    let made : Option A × List ℕ = (None, bytes) in
    subst (λ (q : Option A × List ℕ). IsOptional N start q.0 q.1) (ok_is made x e) flag
part_word {A} read N agrees true bytes start x flag e =
    let a = bind_ok (read bytes) (λ y. Ok (Some y.0, y.1)) x e in
    let made : Option A × List ℕ = (Some a.0.0, a.0.1) in
    subst (λ (q : Option A × List ℕ). IsOptional N start q.0 q.1) (ok_is made x a.2) (bytes, flag, agrees.is_word bytes a.0 a.1)

optional_word : {A : Type 0} (read : List ℕ → Read A) (N : List ℕ → A → List ℕ → Type 0) → Agrees read N
    → (bytes : List ℕ) (x : Option A × List ℕ) → optional_at read bytes ≡ Ok x → IsOptional N bytes x.0 x.1
unfolding optional_at
optional_word {A} read N agrees bytes x e =
    let a = bind_ok (flag_at bytes) (λ there. part_of read there.0 there.1) x e in
    part_word read N agrees a.0.0 a.0.1 bytes x (flag_word bytes a.0 a.1) a.2

optional_read : {A : Type 0} (read : List ℕ → Read A) (N : List ℕ → A → List ℕ → Type 0) → Agrees read N
    → (bytes : List ℕ) (x : Option A) (rest : List ℕ) → IsOptional N bytes x rest → optional_at read bytes ≡ Ok (x, rest)
unfolding optional_at
optional_read read N agrees bytes None rest word = rw (flag_read bytes false rest word) refl
optional_read read N agrees bytes (Some x) rest word = rw (flag_read bytes true word.0 word.1, agrees.is_read word.0 x rest word.2) refl

pub optional_agrees : {A : Type 0} (read : List ℕ → Read A) (N : List ℕ → A → List ℕ → Type 0) → Agrees read N → Agrees (optional_at read) (IsOptional N)
optional_agrees read N agrees = record { is_word = optional_word read N agrees; is_read = optional_read read N agrees }
