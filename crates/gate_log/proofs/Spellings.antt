-- Entries as they are spelled, one after another.
use Rattle.std.proofs.Common.{◌≡◌, inl, inr, Option, Some, None, MatchOption, IfSome, ℕ, ◌+◌, ◌*◌, ◌^◌, ◌<◌, List, [], ◌∷◌, ◌++◌, length, get_or, take, drop, refl, sym, ◌∙◌, ap, arith, append_assoc, length-take, take-append-drop}
use Rattle.std.specs.Int.{w32, to_be_bytes}
use Rattle.std.proofs.lemmas.Nat.{be_bytes_4}
use Rattle.std.proofs.lemmas.List.{get_or-take, get_or_past}
use Rattle.std.proofs.lemmas.Bool.{cases_lt}
use Rattle.gate_log.specs.Format.{spelling, spellings, AreShort}

spellings-append : (es fs : List (List ℕ)) → spellings (es ++ fs) ≡ spellings es ++ spellings fs
spellings-append [] fs = refl
spellings-append (e ∷ es) fs = ap (λ (l : List ℕ). spelling e ++ l) (spellings-append es fs) ∙ sym (append_assoc (spelling e) (spellings es) (spellings fs))

-- one entry more
pub spellings-push : (es : List (List ℕ)) (e rest : List ℕ) → spellings (es ++ e ∷ []) ++ rest ≡ spellings es ++ (spelling e ++ rest)
spellings-push [] e rest = append_assoc (spelling e) [] rest
spellings-push (x ∷ es) e rest =
    append_assoc (spelling x) (spellings (es ++ e ∷ [])) rest
    ∙ ap (λ (l : List ℕ). spelling x ++ l) (spellings-push es e rest)
    ∙ sym (append_assoc (spelling x) (spellings es) (spelling e ++ rest))

pub short_push : (es : List (List ℕ)) (e : List ℕ) → AreShort es → length e < 2 ^ 32 → AreShort (es ++ e ∷ [])
short_push [] e short fits = (fits, tt)
short_push (x ∷ es) e short fits = (short.0, short_push es e short.1 fits)

-- four bytes are those of the number that they give
front_is : (front : List ℕ) (n : ℕ) → length front ≡ 4 → ((i : ℕ) → get_or front i 0 < 256)
    → n ≡ ((get_or front 0 0 * 16777216 + get_or front 1 0 * 65536) + get_or front 2 0 * 256) + get_or front 3 0 → to_be_bytes w32 n ≡ front
front_is [] n four low is = absurd (omega arith)
front_is (a ∷ []) n four low is = absurd (omega arith)
front_is (a ∷ b ∷ []) n four low is = absurd (omega arith)
front_is (a ∷ b ∷ c ∷ []) n four low is = absurd (omega arith)
front_is (a ∷ b ∷ c ∷ d ∷ []) n four low is = be_bytes_4 (a ∷ b ∷ c ∷ d ∷ []) n refl low is
front_is (a ∷ b ∷ c ∷ d ∷ e ∷ more) n four low is = absurd (omega arith)

low_front : (bytes : List ℕ) (k : ℕ) → ((i : ℕ) → get_or bytes i 0 < 256) → (i : ℕ) → get_or (take k bytes) i 0 < 256
low_front bytes k low i = elim (cases_lt i k) [
  | inl within ↦ rw (get_or-take k bytes i 0 within) (low i)
  | inr past ↦ rw (get_or_past (take k bytes) i 0 (omega (arith, length-take k bytes))) (omega arith)
]

-- what follows from what is said of a `Some`
pub some_then : {X : Type 0} (A : Type 0) (o : Option X) (P Q : X → Type 0) → MatchOption o A P → ((x : X) → P x → Q x) → IfSome o Q
some_then A None P Q m f = tt
some_then A (Some x) P Q m f = f x m

-- what stands behind an open gate is a length, an entry of that length, and the rest
pub parts_of : (bytes front behind entry rest : List ℕ) (n : ℕ) → ((i : ℕ) → get_or bytes i 0 < 256) → front ≡ take 4 bytes → behind ≡ drop 4 bytes → length behind + 4 ≡ length bytes
    → n ≡ ((get_or front 0 0 * 16777216 + get_or front 1 0 * 65536) + get_or front 2 0 * 256) + get_or front 3 0 → entry ≡ take n behind → rest ≡ drop n behind → length entry ≡ n
    → bytes ≡ to_be_bytes w32 (length entry) ++ entry ++ rest
parts_of bytes front behind entry rest n low front_of behind_of long number entry_of rest_of size =
    let four : length front ≡ 4 = omega (arith, ap length front_of, length-take 4 bytes) in
    let low' : (i : ℕ) → get_or front i 0 < 256 = λ i. rw front_of (low_front bytes 4 low i) in
    let spelled : to_be_bytes w32 (length entry) ≡ front = ap (λ (k : ℕ). to_be_bytes w32 k) size ∙ front_is front n four low' number in
    let split : entry ++ rest ≡ behind = ap (λ (l : List ℕ). l ++ rest) entry_of ∙ ap (λ (l : List ℕ). take n behind ++ l) rest_of ∙ take-append-drop n behind in
    sym (take-append-drop 4 bytes) ∙ ap (λ (l : List ℕ). l ++ drop 4 bytes) (sym front_of) ∙ ap (λ (l : List ℕ). front ++ l) (sym behind_of ∙ sym split)
    ∙ ap (λ (l : List ℕ). l ++ (entry ++ rest)) (sym spelled) ∙ sym (append_assoc (to_be_bytes w32 (length entry)) entry rest)
