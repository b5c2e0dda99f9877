-- What a crash leaves while an entry is appended, and while a file is cut behind its gate.
use Rattle.std.proofs.Common.{◌≡◌, ◌≢◌, ◌⊎◌, inl, inr, ℕ, ◌+◌, ◌^◌, ◌<◌, min, List, [], ◌∷◌, ◌++◌, length, get_or, take, drop, sym, ◌∙◌, ap, arith, append_assoc, length-append, take-append-drop}
use Rattle.std.specs.Int.{w32, to_be_bytes}
use Rattle.std.proofs.lemmas.Bool.{cases_eq}
use Rattle.std.proofs.lemmas.List.{append-nil, take_at, drop_at, take_all, drop_all, drop_more}
use Rattle.cs_store.specs.Disk.{overwritten, Torn, Cut}
use Rattle.gate_log.specs.Format.{spellings, AreShort, Reads}
use Rattle.gate_log.proofs.Spellings.{spellings-push, short_push}

-- what stands behind the gate of an entry
abbrev pub behind : List ℕ → List ℕ
behind bytes = to_be_bytes w32 (length bytes) ++ bytes ++ 0 ∷ []

pub length-behind : (bytes : List ℕ) → length (behind bytes) ≡ length bytes + 5
length-behind bytes = omega (arith, length-append bytes (0 ∷ []))

-- the file at rest, with its closed gate byte at this place
module _ (es : List (List ℕ)) (byte gate : ℕ) (closed : byte ≢ 197) (short : AreShort es) (place : gate ≡ length (spellings es)) where
  abbrev file : List ℕ
  file = spellings es ++ byte ∷ []

  pub length-file : length file ≡ gate + 1
  length-file = omega (arith, length-append (spellings es) (byte ∷ []))

  -- whatever is behind the gate, the entries are the same
  pub front_reads : (c : List ℕ) → take (gate + 1) c ≡ file → Reads es c
  front_reads c front = record {
    gate = byte;
    rest = drop (gate + 1) c;
    split = sym (take-append-drop (gate + 1) c) ∙ ap (λ (l : List ℕ). l ++ drop (gate + 1) c) front ∙ append_assoc (spellings es) (byte ∷ []) (drop (gate + 1) c);
    closed = closed;
    short = short;
  }

  pub torn_behind : (n : ℕ) (c : List ℕ) → Torn (gate + 1) n file c → Reads es c
  torn_behind n c torn =
      let whole : min (gate + 1) (length file) ≡ gate + 1 = omega (arith, length-file) in
      let front : take (gate + 1) c ≡ file =
      ap (λ (k : ℕ). take k c) (sym whole) ∙ torn.before ∙ take_all (gate + 1) file (omega (arith, length-file)) in
      front_reads c front

  pub written_behind : (bytes : List ℕ) → overwritten file (gate + 1) bytes ≡ file ++ bytes
  written_behind bytes =
      ap (λ (l : List ℕ). l ++ bytes ++ drop (gate + 1 + length bytes) file) (take_all (gate + 1) file (omega (arith, length-file)))
      ∙ ap (λ (l : List ℕ). file ++ bytes ++ l) (drop_all (gate + 1 + length bytes) file (omega (arith, length-file)))
      ∙ append-nil (file ++ bytes)

  module _ (bytes : List ℕ) (fits : length bytes < 2 ^ 32) where
    -- the entry is written, and its gate is still closed
    abbrev pub staged : List ℕ
    staged = file ++ behind bytes

    pub length-staged : length staged ≡ gate + length bytes + 6
    length-staged = omega (arith, length-file, length-append file (behind bytes), length-behind bytes)

    split_staged : staged ≡ spellings es ++ byte ∷ behind bytes
    split_staged = append_assoc (spellings es) (byte ∷ []) (behind bytes)

    front : take gate staged ≡ spellings es
    front = ap (λ (l : List ℕ). take gate l) split_staged ∙ take_at (spellings es) (byte ∷ behind bytes) gate (sym place)

    back : drop (gate + 1) staged ≡ behind bytes
    back = drop_at file (behind bytes) (gate + 1) length-file

    -- with the gate open, the entry is the last one
    opened : spellings es ++ 197 ∷ behind bytes ≡ spellings (es ++ bytes ∷ []) ++ 0 ∷ []
    opened = sym (spellings-push es bytes (0 ∷ []))

    pub reads_more : (c : List ℕ) → c ≡ spellings es ++ 197 ∷ behind bytes → Reads (es ++ bytes ∷ []) c
    reads_more c is = record { gate = 0; rest = []; split = is ∙ opened; closed = λ (e : 0 ≡ 197). cc; short = short_push es bytes short fits }

    -- the entry stands whole in each outcome of the write of its gate
    pub torn_gate : (c : List ℕ) → Torn gate 1 staged c → Reads es c ⊎ Reads (es ++ bytes ∷ []) c
    torn_gate c torn =
        let low = torn.no_shorter in
        let high = torn.no_longer in
        let long : length c ≡ length staged = omega (arith, low, high, length-staged) in
        let whole : min gate (length staged) ≡ gate = omega (arith, length-staged) in
        let before : take gate c ≡ spellings es = ap (λ (k : ℕ). take k c) (sym whole) ∙ torn.before ∙ front in
        let all : take (length staged) c ≡ c = take_all (length staged) c (omega (arith, long)) in
        let after : drop (gate + 1) c ≡ behind bytes = ap (λ (l : List ℕ). drop (gate + 1) l) (sym all) ∙ torn.after ∙ back in
        let x = get_or c gate 0 in
        let rest : drop gate c ≡ x ∷ behind bytes = drop_more c gate 0 (omega (arith, long, length-staged)) ∙ ap (λ (l : List ℕ). x ∷ l) after in
        let is : c ≡ spellings es ++ x ∷ behind bytes = sym (take-append-drop gate c) ∙ ap (λ (l : List ℕ). l ++ drop gate c) before ∙ ap (λ (l : List ℕ). spellings es ++ l) rest in
        elim (cases_eq x 197) [
          | inl open_gate ↦ inr (reads_more c (is ∙ ap (λ (k : ℕ). spellings es ++ k ∷ behind bytes) open_gate))
          | inr shut ↦ inl (record { gate = x; rest = behind bytes; split = is; closed = shut; short = short })
        ]

    pub written_gate : overwritten staged gate (197 ∷ []) ≡ spellings es ++ 197 ∷ behind bytes
    written_gate =
        ap (λ (l : List ℕ). l ++ (197 ∷ []) ++ drop (gate + 1) staged) front
        ∙ ap (λ (l : List ℕ). spellings es ++ (197 ∷ []) ++ l) back
        ∙ append_assoc (spellings es) (197 ∷ []) (behind bytes)

    pub gate_written : overwritten staged gate (197 ∷ []) ≡ spellings (es ++ bytes ∷ []) ++ 0 ∷ []
    gate_written = written_gate ∙ opened

    pub next_place : gate + (length bytes + 5) ≡ length (spellings (es ++ bytes ∷ []))
    next_place =
        let l = ap length (sym opened) in
        omega (arith, l, length-append (spellings es) (197 ∷ behind bytes), length-append (spellings (es ++ bytes ∷ [])) (0 ∷ []), length-behind bytes)

-- a file that reads as these entries, and what is behind the gate
module _ (es : List (List ℕ)) (byte gate : ℕ) (rest c : List ℕ) (closed : byte ≢ 197) (short : AreShort es) (place : gate ≡ length (spellings es)) where
  abbrev whole : List ℕ
  whole = spellings es ++ byte ∷ rest

  cut_whole : take (gate + 1) whole ≡ spellings es ++ byte ∷ []
  cut_whole =
      ap (λ (l : List ℕ). take (gate + 1) l) (sym (append_assoc (spellings es) (byte ∷ []) rest))
      ∙ take_at (spellings es ++ byte ∷ []) rest (gate + 1) (omega (arith, length-append (spellings es) (byte ∷ [])))

  -- any cut behind the gate keeps the entries
  pub cut_reads : Cut (gate + 1) whole c → Reads es c
  cut_reads cut =
      let size : length whole ≡ gate + 1 + length rest = omega (arith, length-append (spellings es) (byte ∷ rest)) in
      let within : min (gate + 1) (length whole) ≡ gate + 1 = omega (arith, size) in
      front_reads es byte gate closed short place c (ap (λ (k : ℕ). take k c) (sym within) ∙ cut.before ∙ cut_whole)

  pub cut_done : c ≡ take (gate + 1) whole → c ≡ spellings es ++ byte ∷ []
  cut_done is = is ∙ cut_whole
