-- Texts, and bytes that they lack.
use Rattle.std.proofs.Common.{◌≡◌, ℕ, zero, suc, ◌<◌, Bool, true, false, not, List, [], ◌∷◌, ◌++◌, length, take, cond, get_or, refl, sym, ◌∙◌, ap, subst, arith, eqb, IsUtf8, take_all}
use Rattle.std.specs.Prelude.{◌==◌, nat_lt}
use Rattle.std.specs.List.{list_all, All, AllByRecursion}
use Rattle.std.specs.Str.{is_utf8}
use Rattle.std.specs.Str.Lossy.{utf8_valid_len, valid_len_up_to}
use Rattle.std.proofs.lemmas.Bool.{and_from, and_parts, eqb-true, eq-eqb, ltb-true, not-true, cond_both}
use Rattle.std.proofs.lemmas.List.Elements.{All-from_recursion}
use Rattle.std.proofs.lemmas.List.Folds.{list_all-append}
use Rattle.std.proofs.lemmas.Str.{IsUtf8-nil, IsUtf8-drop, IsUtf8-from_ascii, IsUtf8-from_is_utf8, utf8_valid_len-IsUtf8, IsCharBoundary-after_ascii}
use Rattle.script_words.specs.Words.{is_text, is_space, without_spaces}

-- ---- bytes that a text lacks

-- no byte is this one
abbrev pub lacks : ℕ → List ℕ → Bool
lacks c bytes = list_all (λ b. not (b == c)) bytes

pub lacks_both : (c : ℕ) (xs ys : List ℕ) → lacks c xs ≡ true → lacks c ys ≡ true → lacks c (xs ++ ys) ≡ true
lacks_both c xs ys h k = list_all-append (λ b. not (b == c)) xs ys ∙ and_from (lacks c xs) (lacks c ys) h k

pub lacks_parts : (c : ℕ) (xs ys : List ℕ) → lacks c (xs ++ ys) ≡ true → (lacks c xs ≡ true) × (lacks c ys ≡ true)
lacks_parts c xs ys h = and_parts (lacks c xs) (lacks c ys) (sym (list_all-append (λ b. not (b == c)) xs ys) ∙ h)

lacks_by_recursion : (c : ℕ) (bytes : List ℕ) → lacks c bytes ≡ true → AllByRecursion (λ b. (b == c) ≡ false) bytes
lacks_by_recursion c [] h = tt
lacks_by_recursion c (b ∷ bytes) h =
    let parts = and_parts (not (eqb b c)) (lacks c bytes) h in
    (not-true (eqb b c) parts.0, lacks_by_recursion c bytes parts.1)

pub lacks_all : (c : ℕ) (bytes : List ℕ) → lacks c bytes ≡ true → All (λ b. (b == c) ≡ false) bytes
lacks_all c bytes h = All-from_recursion (λ (b : ℕ). (b == c) ≡ false) bytes (lacks_by_recursion c bytes h)

-- a test that a stricter one passes
pub passes_too : (p q : ℕ → Bool) → ((b : ℕ) → p b ≡ true → q b ≡ true) → (bytes : List ℕ) → list_all p bytes ≡ true → list_all q bytes ≡ true
passes_too p q more [] h = refl
passes_too p q more (b ∷ bytes) h =
    let parts = and_parts (p b) (list_all p bytes) h in
    and_from (q b) (list_all q bytes) (more b parts.0) (passes_too p q more bytes parts.1)

-- ---- texts

front_is_text : (bytes : List ℕ) (most : ℕ) → IsUtf8 (take (valid_len_up_to bytes most) bytes)
front_is_text bytes zero = IsUtf8-nil
front_is_text bytes (suc most) =
    cond_both (is_utf8 (take (suc most) bytes)) (suc most) (valid_len_up_to bytes most) (λ n. IsUtf8 (take n bytes)) (λ is. IsUtf8-from_is_utf8 (take (suc most) bytes) is) (λ _. front_is_text bytes most)

pub text_is_utf8 : (bytes : List ℕ) → is_text bytes ≡ true → IsUtf8 bytes
unfolding utf8_valid_len
text_is_utf8 bytes is =
    subst IsUtf8 (ap (λ (n : ℕ). take n bytes) (eqb-true (utf8_valid_len bytes) (length bytes) is) ∙ take_all (length bytes) bytes (omega arith)) (front_is_text bytes (length bytes))

pub utf8_is_text : (bytes : List ℕ) → IsUtf8 bytes → is_text bytes ≡ true
utf8_is_text bytes is = eq-eqb (utf8_valid_len bytes) (length bytes) (utf8_valid_len-IsUtf8 bytes is)

abbrev pub is_ascii : List ℕ → Bool
is_ascii bytes = list_all (λ b. nat_lt b 128) bytes

ascii_at : (bytes : List ℕ) → is_ascii bytes ≡ true → (i : ℕ) → get_or bytes i 0 < 128
ascii_at [] h i = omega arith
ascii_at (b ∷ bytes) h zero = ltb-true b 128 (and_parts (nat_lt b 128) (is_ascii bytes) h).0
ascii_at (b ∷ bytes) h (suc i) = ascii_at bytes (and_parts (nat_lt b 128) (is_ascii bytes) h).1 i

pub ascii_is_utf8 : (bytes : List ℕ) → is_ascii bytes ≡ true → IsUtf8 bytes
ascii_is_utf8 bytes h = IsUtf8-from_ascii bytes (ascii_at bytes h)

-- behind an ASCII byte
pub utf8_tail : (b : ℕ) (bytes : List ℕ) → b < 128 → IsUtf8 (b ∷ bytes) → IsUtf8 bytes
utf8_tail b bytes small is = IsUtf8-drop (b ∷ bytes) 1 is (IsCharBoundary-after_ascii (b ∷ bytes) 0 is (omega arith) small)

pub utf8_without_spaces : (bytes : List ℕ) → IsUtf8 bytes → IsUtf8 (without_spaces bytes)
utf8_without_spaces [] is = is
utf8_without_spaces (b ∷ bytes) is =
    cond_both (is_space b) (without_spaces bytes) (b ∷ bytes) IsUtf8 (λ space. let same = eqb-true b 32 space in utf8_without_spaces bytes (utf8_tail b bytes (omega (arith, same)) is)) (λ _. is)

pub lacks_without_spaces : (c : ℕ) (bytes : List ℕ) → lacks c bytes ≡ true → lacks c (without_spaces bytes) ≡ true
lacks_without_spaces c [] h = refl
lacks_without_spaces c (b ∷ bytes) h =
    cond_both (is_space b) (without_spaces bytes) (b ∷ bytes) (λ (bs : List ℕ). lacks c bs ≡ true) (λ _. lacks_without_spaces c bytes (and_parts (not (eqb b c)) (lacks c bytes) h).1) (λ _. h)

-- spaces are taken away once
pub without_spaces_again : (bytes : List ℕ) → without_spaces (without_spaces bytes) ≡ without_spaces bytes
without_spaces_again [] = refl
without_spaces_again (b ∷ bytes) = by_test (is_space b) refl (without_spaces_again bytes)
  where
    by_test : (t : Bool) → is_space b ≡ t → without_spaces (without_spaces bytes) ≡ without_spaces bytes → without_spaces (cond t (without_spaces bytes) (b ∷ bytes)) ≡ cond t (without_spaces bytes) (b ∷ bytes)
    by_test true h again = again
    by_test false h again = ap (λ (t : Bool). cond t (without_spaces bytes) (b ∷ bytes)) h
