-- A file reads in one way.
use Rattle.std.proofs.Common.{◌≡◌, ◌≢◌, inl, inr, ℕ, ◌+◌, ◌^◌, ◌<◌, List, [], ◌∷◌, ◌++◌, length, get_or, take, drop, Ok, refl, sym, ◌∙◌, ap, subst, arith, append_assoc, length-append}
use Rattle.std.specs.Int.{w32, to_be_bytes, from_be_bytes}
use Rattle.std.proofs.lemmas.Nat.{from_be_bytes-to_be_bytes_4}
use Rattle.std.proofs.lemmas.List.{take_at, drop_at}
use Rattle.stored_fields.specs.declared.fault.CodecError.{CodecError}
use Rattle.stored_fields.specs.declared.fault.CodecError.TheVariants as errors
use Rattle.stored_fields.proofs.Laws.{reads_words, one_reading}
use Rattle.gate_log.specs.Format.{spelling, spellings, AreShort, Breaks}
use Rattle.row_change.specs.declared.entry.LogEntry.{LogEntry}
use Rattle.row_change.specs.Grammar.{IsEntry}
use Rattle.row_change.specs.Reading.{entry_at, entry_in}
use Rattle.row_change.proofs.Words.{entry_agrees}
use Rattle.commit_log.specs.Format.{AreEntries, ReadsEntries, IsAt, BreaksEntry, BreaksInEntry, BreaksAtGate, IsDamaged, IsOneReading}

-- ---- what a word is

abbrev IsWord : List ℕ → Type 0
IsWord word = (e : LogEntry) × IsEntry word e []

abbrev AreAllWords : List (List ℕ) → Type 0
AreAllWords [] = Unit {0}
AreAllWords (w ∷ ws) = IsWord w × AreAllWords ws

all_words : (ws : List (List ℕ)) (es : List LogEntry) → AreEntries ws es → AreAllWords ws
all_words [] es each = tt
all_words (w ∷ ws) [] each = absurd each
all_words (w ∷ ws) (e ∷ es) each = ((e, each.0), all_words ws es each.1)

one_list : (ws : List (List ℕ)) (es fs : List LogEntry) → AreEntries ws es → AreEntries ws fs → es ≡ fs
one_list [] [] [] a b = refl
one_list [] [] (f ∷ fs) a b = absurd b
one_list [] (e ∷ es) fs a b = absurd a
one_list (w ∷ ws) [] fs a b = absurd a
one_list (w ∷ ws) (e ∷ es) [] a b = absurd b
one_list (w ∷ ws) (e ∷ es) (f ∷ fs) a b =
    let first : e ≡ f = one_reading entry_at IsEntry entry_agrees w e f a.0 b.0 in
    let rest : es ≡ fs = one_list ws es fs a.1 b.1 in
    λ i. first i ∷ rest i

no_word : (w : List ℕ) (offset : ℕ) → BreaksEntry w offset → IsWord w → ⊥
no_word w offset b (e, is) =
    let read : entry_in w ≡ Ok e = (reads_words entry_at IsEntry entry_agrees w e).1 is in
    cc (b.refused, read)

one_at : (e : CodecError) (i j : ℕ) → IsAt e i → IsAt e j → i ≡ j
one_at (errors.Short at) i j a b = sym a ∙ b
one_at (errors.Tag at) i j a b = sym a ∙ b
one_at (errors.Order at) i j a b = sym a ∙ b
one_at (errors.Trailing at) i j a b = sym a ∙ b
one_at errors.NoMemory i j a b = absurd a

one_offset : (w : List ℕ) (i j : ℕ) → BreaksEntry w i → BreaksEntry w j → i ≡ j
one_offset w i j a b =
    let same : a.error ≡ b.error = cc (a.refused, b.refused) in
    one_at b.error i j (subst (λ (e : CodecError). IsAt e i) same a.there) b.there

-- ---- what stands at the front

-- no word of an entry does
abbrev IsStuck : List ℕ → Type 0
IsStuck bytes = (w rest : List ℕ) → length w < 2 ^ 32 → IsWord w → bytes ≡ spelling w ++ rest → ⊥

one_word : (v w s t : List ℕ) → length v < 2 ^ 32 → length w < 2 ^ 32 → spelling v ++ s ≡ spelling w ++ t → (v ≡ w) × (s ≡ t)
one_word v w s t fits fits' same =
    let sizes : length v ≡ length w =
    sym (from_be_bytes-to_be_bytes_4 (length v) fits) ∙ ap (λ (l : List ℕ). from_be_bytes w32 (take 4 (drop 1 l))) same ∙ from_be_bytes-to_be_bytes_4 (length w) fits' in
    let tails : v ++ s ≡ w ++ t = ap (λ (l : List ℕ). drop 5 l) same in (
      sym (take_at v s (length v) refl) ∙ ap (λ (l : List ℕ). take (length v) l) tails ∙ take_at w t (length v) (sym sizes),
      sym (drop_at v s (length v) refl) ∙ ap (λ (l : List ℕ). drop (length v) l) tails ∙ drop_at w t (length v) (sym sizes),
    )

nothing_stands : (bytes : List ℕ) (field : ℕ) → Breaks bytes field → (w rest : List ℕ) → length w < 2 ^ 32 → bytes ≡ spelling w ++ rest → ⊥
nothing_stands bytes field (inl none) w rest fits is = cc
nothing_stands bytes field (inr (back, opens, short, there)) w rest fits is =
    let behind_is : back ≡ to_be_bytes w32 (length w) ++ (w ++ rest) = ap (λ (l : List ℕ). drop 1 l) (sym opens ∙ is) in
    let long : length back ≡ 4 + (length w + length rest) = ap length behind_is ∙ omega (arith, length-append w rest) in
    let number : from_be_bytes w32 (take 4 back) ≡ length w = ap (λ (l : List ℕ). from_be_bytes w32 (take 4 l)) behind_is ∙ from_be_bytes-to_be_bytes_4 (length w) fits in
    elim short [ inl few ↦ omega (arith, long) | inr passes ↦ omega (arith, long, number) ]

stuck_closed : (gate : ℕ) (rest : List ℕ) → gate ≢ 197 → IsStuck (gate ∷ rest)
stuck_closed gate rest closed w more fits word is = closed (ap (λ (l : List ℕ). get_or l 0 0) is)

stuck_breaks : (bytes : List ℕ) (field : ℕ) → Breaks bytes field → IsStuck bytes
stuck_breaks bytes field b w rest fits word is = nothing_stands bytes field b w rest fits is

stuck_entry : (v rest : List ℕ) (offset : ℕ) → length v < 2 ^ 32 → BreaksEntry v offset → IsStuck (spelling v ++ rest)
stuck_entry v rest offset fits b w more fits' word is =
    let same : v ≡ w = (one_word v w rest more fits fits' is).0 in
    no_word v offset b (subst IsWord (sym same) word)

one_split : (ws vs : List (List ℕ)) (s t : List ℕ) → IsStuck s → IsStuck t → AreShort ws → AreShort vs → AreAllWords ws → AreAllWords vs → spellings ws ++ s ≡ spellings vs ++ t → (ws ≡ vs) × (s ≡ t)
one_split [] [] s t ends ends' short short' all all' same = (refl, same)
one_split [] (v ∷ vs) s t ends ends' short short' all all' same = absurd (ends v (spellings vs ++ t) short'.0 all'.0 (same ∙ append_assoc (spelling v) (spellings vs) t))
one_split (w ∷ ws) [] s t ends ends' short short' all all' same = absurd (ends' w (spellings ws ++ s) short.0 all.0 (sym same ∙ append_assoc (spelling w) (spellings ws) s))
one_split (w ∷ ws) (v ∷ vs) s t ends ends' short short' all all' same =
    let first = one_word w v (spellings ws ++ s) (spellings vs ++ t) short.0 short'.0 (sym (append_assoc (spelling w) (spellings ws) s) ∙ same ∙ append_assoc (spelling v) (spellings vs) t) in
    let rest = one_split ws vs s t ends ends' short.1 short'.1 all.1 all'.1 first.1 in
    ((λ i. first.0 i ∷ rest.0 i), rest.1)

-- ---- files

-- words that are entries', and what is behind them, where no further one stands
record Stops (words : List (List ℕ)) (tail file : List ℕ) : Type 0 where
  split : file ≡ spellings words ++ tail
  short : AreShort words
  all : AreAllWords words
  stuck : IsStuck tail

one_stop : (ws vs : List (List ℕ)) (s t file : List ℕ) → Stops ws s file → Stops vs t file → (ws ≡ vs) × (s ≡ t)
one_stop ws vs s t file a b = one_split ws vs s t a.stuck b.stuck a.short b.short a.all b.all (sym a.split ∙ b.split)

stops_closed : (es : List LogEntry) (file : List ℕ) (a : ReadsEntries es file) → Stops a.words (a.reads.gate ∷ a.reads.rest) file
stops_closed es file a = record {
  split = a.reads.split;
  short = a.reads.short;
  all = all_words a.words es a.each;
  stuck = stuck_closed a.reads.gate a.reads.rest a.reads.closed;
}

stops_entry : (p : ℕ) (file : List ℕ) (a : BreaksInEntry p file) → Stops a.words (spelling a.word ++ a.rest) file
stops_entry p file a = record {
  split = a.split;
  short = a.short;
  all = all_words a.words a.entries a.each;
  stuck = stuck_entry a.word a.rest a.offset a.fits a.breaks;
}

stops_gate : (p : ℕ) (file : List ℕ) (a : BreaksAtGate p file) → Stops a.words a.breaks.rest file
stops_gate p file a = record {
  split = a.breaks.split;
  short = a.breaks.short;
  all = all_words a.words a.entries a.each;
  stuck = stuck_breaks a.breaks.rest a.breaks.field a.breaks.breaks;
}

pub same_entries : (file : List ℕ) (es fs : List LogEntry) → ReadsEntries es file → ReadsEntries fs file → es ≡ fs
same_entries file es fs a b =
    let same = one_stop a.words b.words (a.reads.gate ∷ a.reads.rest) (b.reads.gate ∷ b.reads.rest) file (stops_closed es file a) (stops_closed fs file b) in
    one_list b.words es fs (subst (λ (ws : List (List ℕ)). AreEntries ws es) same.0 a.each) b.each

breaks_open : (gate : ℕ) (rest : List ℕ) (p : ℕ) → Breaks (gate ∷ rest) p → gate ≡ 197
breaks_open gate rest p (inl none) = absurd (cc none.0)
breaks_open gate rest p (inr b) = ap (λ (l : List ℕ). get_or l 0 0) b.1

not_both : (file : List ℕ) (es : List LogEntry) (p : ℕ) → ReadsEntries es file → IsDamaged p file → ⊥
not_both file es p a (inl b) =
    let same = one_stop a.words b.words (a.reads.gate ∷ a.reads.rest) (spelling b.word ++ b.rest) file (stops_closed es file a) (stops_entry p file b) in
    a.reads.closed (ap (λ (l : List ℕ). get_or l 0 0) same.1)
not_both file es p a (inr b) =
    let same = one_stop a.words b.words (a.reads.gate ∷ a.reads.rest) b.breaks.rest file (stops_closed es file a) (stops_gate p file b) in
    a.reads.closed (breaks_open a.reads.gate a.reads.rest b.breaks.field (subst (λ (l : List ℕ). Breaks l b.breaks.field) (sym same.1) b.breaks.breaks))

one_break : (bytes : List ℕ) (p q : ℕ) → Breaks bytes p → Breaks bytes q → p ≡ q
one_break bytes p q (inl a) (inl b) = a.1 ∙ sym b.1
one_break bytes p q (inl a) (inr b) = absurd (cc (a.0, b.1))
one_break bytes p q (inr a) (inl b) = absurd (cc (a.1, b.0))
one_break bytes p q (inr a) (inr b) = a.3 ∙ sym b.3

-- an entry breaks where another one's word and the log do not
entry_and_gate : (file : List ℕ) (p q : ℕ) → BreaksInEntry p file → BreaksAtGate q file → ⊥
entry_and_gate file p q a b =
    let same = one_stop a.words b.words (spelling a.word ++ a.rest) b.breaks.rest file (stops_entry p file a) (stops_gate q file b) in
    nothing_stands b.breaks.rest b.breaks.field b.breaks.breaks a.word a.rest a.fits (sym same.1)

same_length : (ws vs : List (List ℕ)) → ws ≡ vs → length (spellings ws) ≡ length (spellings vs)
same_length ws vs same = ap (λ (us : List (List ℕ)). length (spellings us)) same

one_damage : (file : List ℕ) (p q : ℕ) → IsDamaged p file → IsDamaged q file → p ≡ q
one_damage file p q (inl a) (inl b) =
    let same = one_stop a.words b.words (spelling a.word ++ a.rest) (spelling b.word ++ b.rest) file (stops_entry p file a) (stops_entry q file b) in
    let word = (one_word a.word b.word a.rest b.rest a.fits b.fits same.1).0 in
    let offsets : a.offset ≡ b.offset = one_offset b.word a.offset b.offset (subst (λ (w : List ℕ). BreaksEntry w a.offset) word a.breaks) b.breaks in
    let sizes = same_length a.words b.words same.0 in
    let one = a.there in
    let two = b.there in
    omega (arith, one, two, offsets, sizes)
one_damage file p q (inl a) (inr b) = absurd (entry_and_gate file p q a b)
one_damage file p q (inr a) (inl b) = absurd (entry_and_gate file q p b a)
one_damage file p q (inr a) (inr b) =
    let same = one_stop a.words b.words a.breaks.rest b.breaks.rest file (stops_gate p file a) (stops_gate q file b) in
    let fields : a.breaks.field ≡ b.breaks.field = one_break b.breaks.rest a.breaks.field b.breaks.field (subst (λ (l : List ℕ). Breaks l a.breaks.field) same.1 a.breaks.breaks) b.breaks.breaks in
    let sizes = same_length a.words b.words same.0 in
    let one = a.breaks.there in
    let two = b.breaks.there in
    omega (arith, one, two, fields, sizes)

pub one_way : (file : List ℕ) → IsOneReading file
one_way file = (same_entries file, not_both file, one_damage file)
