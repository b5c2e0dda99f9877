-- A file reads in one way.
use Rattle.std.proofs.Common.{◌≡◌, ◌≢◌, inl, inr, ℕ, ◌+◌, ◌^◌, ◌<◌, List, [], ◌∷◌, ◌++◌, length, get_or, take, drop, refl, sym, ◌∙◌, ap, subst, arith, append_assoc, length-append}
use Rattle.std.specs.Int.{w32, to_be_bytes, from_be_bytes}
use Rattle.std.proofs.lemmas.Nat.{from_be_bytes-to_be_bytes_4}
use Rattle.std.proofs.lemmas.List.{take_at, drop_at}
use Rattle.gate_log.specs.Format.{spelling, spellings, AreShort, Reads, Breaks, IsDamaged, IsOneReading}

-- no entry stands at the beginning
abbrev IsStuck : List ℕ → Type 0
IsStuck bytes = (e rest : List ℕ) → length e < 2 ^ 32 → bytes ≡ spelling e ++ rest → ⊥

stuck_closed : (gate : ℕ) (rest : List ℕ) → gate ≢ 197 → IsStuck (gate ∷ rest)
stuck_closed gate rest closed e more fits is = closed (ap (λ (l : List ℕ). get_or l 0 0) is)

stuck_breaks : (bytes : List ℕ) (field : ℕ) → Breaks bytes field → IsStuck bytes
stuck_breaks bytes field (inl none) e more fits is = cc
stuck_breaks bytes field (inr (back, opens, short, there)) e more fits is =
    let behind_is : back ≡ to_be_bytes w32 (length e) ++ (e ++ more) = ap (λ (l : List ℕ). drop 1 l) (sym opens ∙ is) in
    let long : length back ≡ 4 + (length e + length more) = ap length behind_is ∙ omega (arith, length-append e more) in
    let number : from_be_bytes w32 (take 4 back) ≡ length e = ap (λ (l : List ℕ). from_be_bytes w32 (take 4 l)) behind_is ∙ from_be_bytes-to_be_bytes_4 (length e) fits in
    elim short [ inl few ↦ omega (arith, long) | inr passes ↦ omega (arith, long, number) ]

-- entries that spell the same bytes are the same
one_entry : (e f s t : List ℕ) → length e < 2 ^ 32 → length f < 2 ^ 32 → spelling e ++ s ≡ spelling f ++ t → (e ≡ f) × (s ≡ t)
one_entry e f s t fits fits' same =
    let sizes : length e ≡ length f =
    sym (from_be_bytes-to_be_bytes_4 (length e) fits) ∙ ap (λ (l : List ℕ). from_be_bytes w32 (take 4 (drop 1 l))) same ∙ from_be_bytes-to_be_bytes_4 (length f) fits' in
    let tails : e ++ s ≡ f ++ t = ap (λ (l : List ℕ). drop 5 l) same in (
      sym (take_at e s (length e) refl) ∙ ap (λ (l : List ℕ). take (length e) l) tails ∙ take_at f t (length e) (sym sizes),
      sym (drop_at e s (length e) refl) ∙ ap (λ (l : List ℕ). drop (length e) l) tails ∙ drop_at f t (length e) (sym sizes),
    )

one_split : (es fs : List (List ℕ)) (s t : List ℕ) → IsStuck s → IsStuck t → AreShort es → AreShort fs → spellings es ++ s ≡ spellings fs ++ t → (es ≡ fs) × (s ≡ t)
one_split [] [] s t ends ends' short short' same = (refl, same)
one_split [] (f ∷ fs) s t ends ends' short short' same = absurd (ends f (spellings fs ++ t) short'.0 (same ∙ append_assoc (spelling f) (spellings fs) t))
one_split (e ∷ es) [] s t ends ends' short short' same = absurd (ends' e (spellings es ++ s) short.0 (sym same ∙ append_assoc (spelling e) (spellings es) s))
one_split (e ∷ es) (f ∷ fs) s t ends ends' short short' same =
    let first = one_entry e f (spellings es ++ s) (spellings fs ++ t) short.0 short'.0 (sym (append_assoc (spelling e) (spellings es) s) ∙ same ∙ append_assoc (spelling f) (spellings fs) t) in
    let rest = one_split es fs s t ends ends' short.1 short'.1 first.1 in
    ((λ i. first.0 i ∷ rest.0 i), rest.1)

pub same_entries : (file : List ℕ) (es fs : List (List ℕ)) → Reads es file → Reads fs file → es ≡ fs
same_entries file es fs a b =
    (one_split es fs (a.gate ∷ a.rest) (b.gate ∷ b.rest) (stuck_closed a.gate a.rest a.closed) (stuck_closed b.gate b.rest b.closed) a.short b.short (sym a.split ∙ b.split)).0

breaks_open : (gate : ℕ) (rest : List ℕ) (p : ℕ) → Breaks (gate ∷ rest) p → gate ≡ 197
breaks_open gate rest p (inl none) = absurd (cc none.0)
breaks_open gate rest p (inr b) = ap (λ (l : List ℕ). get_or l 0 0) b.1

not_both : (file : List ℕ) (es : List (List ℕ)) (p : ℕ) → Reads es file → IsDamaged p file → ⊥
not_both file es p a (fs, b) =
    let same = one_split es fs (a.gate ∷ a.rest) b.rest (stuck_closed a.gate a.rest a.closed) (stuck_breaks b.rest b.field b.breaks) a.short b.short (sym a.split ∙ b.split) in
    a.closed (breaks_open a.gate a.rest b.field (subst (λ (l : List ℕ). Breaks l b.field) (sym same.1) b.breaks))

one_break : (bytes : List ℕ) (p q : ℕ) → Breaks bytes p → Breaks bytes q → p ≡ q
one_break bytes p q (inl a) (inl b) = a.1 ∙ sym b.1
one_break bytes p q (inl a) (inr b) = absurd (cc (a.0, b.1))
one_break bytes p q (inr a) (inl b) = absurd (cc (a.1, b.0))
one_break bytes p q (inr a) (inr b) = a.3 ∙ sym b.3

one_damage : (file : List ℕ) (p q : ℕ) → IsDamaged p file → IsDamaged q file → p ≡ q
one_damage file p q (es, a) (fs, b) =
    let same = one_split es fs a.rest b.rest (stuck_breaks a.rest a.field a.breaks) (stuck_breaks b.rest b.field b.breaks) a.short b.short (sym a.split ∙ b.split) in
    let fields : a.field ≡ b.field = one_break b.rest a.field b.field (subst (λ (l : List ℕ). Breaks l a.field) same.1 a.breaks) b.breaks in
    let sizes : length (spellings es) ≡ length (spellings fs) = ap (λ (gs : List (List ℕ)). length (spellings gs)) same.0 in
    let one = a.there in
    let two = b.there in
    omega (arith, one, two, fields, sizes)

pub one_reading : (file : List ℕ) → IsOneReading file
one_reading file = (same_entries file, not_both file, one_damage file)
