-- The bytes of characters.
use Rattle.std.proofs.Common.{◌≡◌, ◌<◌, ◌≤◌, ◌+◌, ◌/◌, ◌&&◌, ℕ, zero, suc, Bool, true, false, ltb, List, [], ◌∷◌, ◌++◌, arith, refl, sym, ◌∙◌, subst, ⊎_elim}
use Rattle.std.specs.Str.{IsUtf8}
use Rattle.std.proofs.lemmas.Bool.Decides.{nat_tests}
use lib.Utf8.{encode, encodes, next, scalar, scalars, scalar_cases}
use Rattle.cql_values.specs.Value.{IsBytes}
use Rattle.cql_values.proofs.Words.{by_lt}
use Rattle.cql_values.proofs.Quotes.{cond_true, cond_false}

below_test : (m n : ℕ) → m < n → ltb m n ≡ true
below_test m n h = grind (arith, nat_tests)

above_test : (m n : ℕ) → n ≤ m → ltb m n ≡ false
above_test m n h = grind (arith, nat_tests)

pub encode_1 : (c : ℕ) → c < 128 → encode c ≡ c ∷ []
unfolding encode
encode_1 c h = cond_true (ltb c 128) _ _ (below_test c 128 h)

pub encode_2 : (c : ℕ) → 128 ≤ c → c < 2048 → encode c ≡ (192 + c / 64) ∷ next c ∷ []
unfolding encode
encode_2 c l h = cond_false (ltb c 128) _ _ (above_test c 128 l) ∙ cond_true (ltb c 2048) _ _ (below_test c 2048 h)

pub encode_3 : (c : ℕ) → 2048 ≤ c → c < 65536 → encode c ≡ (224 + c / 4096) ∷ next (c / 64) ∷ next c ∷ []
unfolding encode
encode_3 c l h =
    cond_false (ltb c 128) _ _ (above_test c 128 (omega arith))
    ∙ cond_false (ltb c 2048) _ _ (above_test c 2048 l)
    ∙ cond_true (ltb c 65536) _ _ (below_test c 65536 h)

pub encode_4 : (c : ℕ) → 65536 ≤ c → encode c ≡ (240 + c / 262144) ∷ next (c / 4096) ∷ next (c / 64) ∷ next c ∷ []
unfolding encode
encode_4 c l =
    cond_false (ltb c 128) _ _ (above_test c 128 (omega arith))
    ∙ cond_false (ltb c 2048) _ _ (above_test c 2048 (omega arith))
    ∙ cond_false (ltb c 65536) _ _ (above_test c 65536 l)

pub below_all : (c : ℕ) → scalar c ≡ true → c < 1114112
below_all c s = ⊎_elim (λ l. omega arith) (λ h. h.1) (scalar_cases c s)

pub both_true : (x y : Bool) → (x && y) ≡ true → (x ≡ true) × (y ≡ true)
both_true true y h = (refl, h)
both_true false y h = absurd (cc)

-- ---- each byte is a byte

pub small_append : (xs ys : List ℕ) → IsBytes xs → IsBytes ys → IsBytes (xs ++ ys)
small_append [] ys small_x small_y i = small_y i
small_append (x ∷ xs) ys small_x small_y zero = small_x 0
small_append (x ∷ xs) ys small_x small_y (suc i) = small_append xs ys (λ j. small_x (suc j)) small_y i

pub small_nil : IsBytes []
small_nil i = omega arith

pub small_cons : (x : ℕ) (xs : List ℕ) → x < 256 → IsBytes xs → IsBytes (x ∷ xs)
small_cons x xs low small zero = low
small_cons x xs low small (suc i) = small i

small_next : (c : ℕ) (xs : List ℕ) → IsBytes xs → IsBytes (next c ∷ xs)
small_next c xs small = small_cons (next c) xs (omega arith) small

small_char : (c : ℕ) → scalar c ≡ true → IsBytes (encode c)
small_char c s =
    let top = below_all c s in
    by_lt c 128
    (λ h. subst IsBytes (sym (encode_1 c h)) (small_cons c [] (omega arith) small_nil))
    (λ l. by_lt c 2048
    (λ h. subst IsBytes (sym (encode_2 c l h)) (small_cons (192 + c / 64) (next c ∷ []) (omega arith) (small_next c [] small_nil)))
    (λ m. by_lt c 65536
    (λ h. subst IsBytes (sym (encode_3 c m h)) (small_cons (224 + c / 4096) (next (c / 64) ∷ next c ∷ []) (omega arith) (small_next (c / 64) (next c ∷ []) (small_next c [] small_nil))))
    (λ n. subst IsBytes (sym (encode_4 c n))
    (small_cons (240 + c / 262144) (next (c / 4096) ∷ next (c / 64) ∷ next c ∷ []) (omega arith)
    (small_next (c / 4096) (next (c / 64) ∷ next c ∷ []) (small_next (c / 64) (next c ∷ []) (small_next c [] small_nil)))))))

small_chars : (cs : List ℕ) → scalars cs ≡ true → IsBytes (encodes cs)
small_chars [] s = small_nil
small_chars (c ∷ cs) s =
    let p = both_true (scalar c) (scalars cs) s in
    small_append (encode c) (encodes cs) (small_char c p.0) (small_chars cs p.1)

pub small_text : (text : List ℕ) → IsUtf8 text → IsBytes text
small_text text u = subst IsBytes u.1.1 (small_chars u.0 u.1.0)
