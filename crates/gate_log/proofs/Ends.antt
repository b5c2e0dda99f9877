-- Entries in one buffer.
use Rattle.std.proofs.Common.{◌≡◌, ℕ, zero, suc, ◌+◌, ◌-◌, ◌<◌, ◌≤◌, List, [], ◌∷◌, ◌++◌, length, get_or, take, drop, refl, sym, ◌∙◌, ap, subst, arith, length-append, length-take, length-drop}
use Rattle.std.proofs.lemmas.List.{take_at, take_all, drop_at, drop-drop}
use Rattle.gate_log.specs.Entries.{pieces, IsSplit, last_end}
use Rattle.gate_log.specs.Format.{spelling, spellings, AreShort, Reads, IsNext, IsClosed, Breaks, BreaksBehind}
use Rattle.gate_log.proofs.Spellings.{spellings-push, short_push}

pieces-push : (start : ℕ) (bytes ends : List ℕ) (e : ℕ) → pieces start bytes (ends ++ e ∷ []) ≡ pieces start bytes ends ++ take (e - (last_end start ends + 5)) (drop (last_end start ends + 5) bytes) ∷ []
pieces-push start bytes [] e = refl
pieces-push start bytes (x ∷ ends) e = ap (λ (es : List (List ℕ)). take (x - (start + 5)) (drop (start + 5) bytes) ∷ es) (pieces-push x bytes ends e)

split_push : (start : ℕ) (bytes ends : List ℕ) (e : ℕ) → IsSplit start bytes ends → last_end start ends + 5 ≤ e → e ≤ length bytes → IsSplit start bytes (ends ++ e ∷ [])
split_push start bytes [] e split behind within = (behind, within)
split_push start bytes (x ∷ ends) e split behind within = (split.0, split_push x bytes ends e split.1 behind within)

last_end-push : (start : ℕ) (ends : List ℕ) (e : ℕ) → last_end start (ends ++ e ∷ []) ≡ e
last_end-push start [] e = refl
last_end-push start (x ∷ ends) e = last_end-push x ends e

pub split_within : (start : ℕ) (bytes ends : List ℕ) → IsSplit start bytes ends → start ≤ length bytes
split_within start bytes [] split = split
split_within start bytes (x ∷ ends) split = let rest = split_within x bytes ends split.1 in let behind = split.0 in omega (arith, rest, behind)

pub length-pieces : (start : ℕ) (bytes ends : List ℕ) → length (pieces start bytes ends) ≡ length ends
length-pieces start bytes [] = refl
length-pieces start bytes (x ∷ ends) = ap suc (length-pieces x bytes ends)

-- the entries before one take the bytes up to it
pub starts : (start : ℕ) (bytes ends : List ℕ) (i : ℕ) → IsSplit start bytes ends → i ≤ length ends → start + length (spellings (take i (pieces start bytes ends))) ≡ last_end start (take i ends)
starts start bytes ends zero split le = omega arith
starts start bytes [] (suc i) split le = absurd (omega arith)
starts start bytes (x ∷ ends) (suc i) split le =
    let piece = take (x - (start + 5)) (drop (start + 5) bytes) in
    let rest = starts x bytes ends i split.1 (omega arith) in
    let within = split_within x bytes ends split.1 in
    let behind = split.0 in
    omega (arith, rest, within, behind, length-append (spelling piece) (spellings (take i (pieces x bytes ends))), length-take (x - (start + 5)) (drop (start + 5) bytes), length-drop (start + 5) bytes)

pub last_end-take : (start : ℕ) (ends : List ℕ) (i : ℕ) → i < length ends → last_end start (take (suc i) ends) ≡ get_or ends i 0
last_end-take start [] i lt = absurd (omega arith)
last_end-take start (x ∷ ends) zero lt = refl
last_end-take start (x ∷ ends) (suc i) lt = last_end-take x ends i (omega arith)

-- one of the entries
pub piece_at : (start : ℕ) (bytes ends : List ℕ) (i : ℕ) → i < length ends → get_or (pieces start bytes ends) i [] ≡ take (get_or ends i 0 - (last_end start (take i ends) + 5)) (drop (last_end start (take i ends) + 5) bytes)
piece_at start bytes [] i lt = absurd (omega arith)
piece_at start bytes (x ∷ ends) zero lt = refl
piece_at start bytes (x ∷ ends) (suc i) lt = piece_at x bytes ends i (omega arith)

pub end_within : (start : ℕ) (bytes ends : List ℕ) (i : ℕ) → IsSplit start bytes ends → i < length ends → (last_end start (take i ends) + 5 ≤ get_or ends i 0) × (get_or ends i 0 ≤ length bytes)
end_within start bytes [] i split lt = absurd (omega arith)
end_within start bytes (x ∷ ends) zero split lt = (split.0, split_within x bytes ends split.1)
end_within start bytes (x ∷ ends) (suc i) split lt = end_within x bytes ends i split.1 (omega arith)

-- the entries so far stand before the gate
pub record Scanned (bytes ends : List ℕ) (gate : ℕ) : Type 0 where
  pub front : bytes ≡ spellings (pieces 0 bytes ends) ++ drop gate bytes
  pub size : gate ≡ length (spellings (pieces 0 bytes ends))
  pub last : last_end 0 ends ≡ gate
  pub split : IsSplit 0 bytes ends
  pub within : gate ≤ length bytes
  pub short : AreShort (pieces 0 bytes ends)

pub scan_begins : (bytes : List ℕ) → Scanned bytes [] 0
scan_begins bytes = record { front = refl; size = refl; last = refl; split = omega arith; within = omega arith; short = tt }

module _ (bytes ends : List ℕ) (gate : ℕ) (so_far : Scanned bytes ends gate) where
  module _ (entry rest : List ℕ) (next : IsNext entry rest (drop gate bytes)) where
    behind_is : drop (gate + 5) bytes ≡ entry ++ rest
    behind_is = sym (drop-drop 5 gate bytes) ∙ ap (λ (l : List ℕ). drop 5 l) next.split

    rest_is : drop (gate + (5 + length entry)) bytes ≡ rest
    rest_is = sym (drop-drop (5 + length entry) gate bytes) ∙ ap (λ (l : List ℕ). drop (5 + length entry) l) next.split ∙ drop_at (spelling entry) rest (5 + length entry) (omega arith)

    pub fits : gate + (5 + length entry) ≤ length bytes
    fits =
        let long = ap length behind_is in
        let all = ap length next.split in
        omega (arith, long, all, so_far.within, length-drop gate bytes, length-append entry rest, length-append (spelling entry) rest)

    piece_is : take (gate + (5 + length entry) - (last_end 0 ends + 5)) (drop (last_end 0 ends + 5) bytes) ≡ entry
    piece_is =
        ap (λ (k : ℕ). take (gate + (5 + length entry) - (k + 5)) (drop (k + 5) bytes)) so_far.last
        ∙ ap (λ (l : List ℕ). take (gate + (5 + length entry) - (gate + 5)) l) behind_is
        ∙ take_at entry rest (gate + (5 + length entry) - (gate + 5)) (omega arith)

    pieces_are : pieces 0 bytes (ends ++ (gate + (5 + length entry)) ∷ []) ≡ pieces 0 bytes ends ++ entry ∷ []
    pieces_are = pieces-push 0 bytes ends (gate + (5 + length entry)) ∙ ap (λ (l : List ℕ). pieces 0 bytes ends ++ l ∷ []) piece_is

    pub scan_more : Scanned bytes (ends ++ (gate + (5 + length entry)) ∷ []) (gate + (5 + length entry))
    scan_more =
        let grown = spellings-push (pieces 0 bytes ends) entry rest in
        let long = ap length grown in
        let size = so_far.size in
        record {
          front = so_far.front ∙ ap (λ (l : List ℕ). spellings (pieces 0 bytes ends) ++ l) next.split ∙ sym grown
              ∙ ap (λ (es : List (List ℕ)). spellings es ++ rest) (sym pieces_are) ∙ ap (λ (l : List ℕ). spellings (pieces 0 bytes (ends ++ (gate + (5 + length entry)) ∷ [])) ++ l) (sym rest_is);
          size = subst (λ (es : List (List ℕ)). gate + (5 + length entry) ≡ length (spellings es)) (sym pieces_are)
              (omega (arith, long, size, length-append (spellings (pieces 0 bytes ends ++ entry ∷ [])) rest, length-append (spellings (pieces 0 bytes ends)) (spelling entry ++ rest), length-append (spelling entry) rest));
          last = last_end-push 0 ends (gate + (5 + length entry));
          split = split_push 0 bytes ends (gate + (5 + length entry)) so_far.split (let last = so_far.last in omega (arith, last)) fits;
          within = fits;
          short = subst AreShort (sym pieces_are) (short_push (pieces 0 bytes ends) entry so_far.short next.short);
        }

  pub scan_reads : IsClosed (drop gate bytes) → Reads (pieces 0 bytes ends) bytes
  scan_reads closed = record {
    gate = closed.gate;
    rest = closed.rest;
    split = so_far.front ∙ ap (λ (l : List ℕ). spellings (pieces 0 bytes ends) ++ l) closed.split;
    closed = closed.closed;
    short = so_far.short;
  }

  pub scan_breaks : (field : ℕ) → Breaks (drop gate bytes) field → BreaksBehind (pieces 0 bytes ends) (gate + field) bytes
  scan_breaks field breaks = record {
    rest = drop gate bytes;
    field = field;
    split = so_far.front;
    short = so_far.short;
    breaks = breaks;
    there = ap (λ (k : ℕ). k + field) so_far.size;
  }

-- the same of a value that sees the buffer as its entries
module _ (bytes ends : List ℕ) (entries : List (List ℕ)) (seen : pieces 0 bytes ends ≡ entries) where
  pub count_is : length ends ≡ length entries
  count_is = sym (length-pieces 0 bytes ends) ∙ ap length seen

  pub place_is : (i : ℕ) → IsSplit 0 bytes ends → i ≤ length ends → last_end 0 (take i ends) ≡ length (spellings (take i entries))
  place_is i split within =
      let there = starts 0 bytes ends i split within in
      let same = ap (λ (es : List (List ℕ)). length (spellings (take i es))) seen in
      omega (arith, there, same)

  pub entry_is : (i start end : ℕ) → i < length ends → start ≡ last_end 0 (take i ends) + 5 → end ≡ get_or ends i 0 → take (end - start) (drop start bytes) ≡ get_or entries i []
  entry_is i start end within begins stops =
      ap (λ (k : ℕ). take (k - start) (drop start bytes)) stops ∙ ap (λ (k : ℕ). take (get_or ends i 0 - k) (drop k bytes)) begins
      ∙ sym (piece_at 0 bytes ends i within) ∙ ap (λ (es : List (List ℕ)). get_or es i []) seen

-- all the entries
pub all_places : (entries : List (List ℕ)) (n place : ℕ) → n ≡ length entries → place ≡ length (spellings (take n entries)) → place ≡ length (spellings entries)
all_places entries n place all is = is ∙ ap (λ (es : List (List ℕ)). length (spellings es)) (take_all n entries (omega (arith, all)))

-- an end is in the buffer
pub gate_within : (bytes ends : List ℕ) (i : ℕ) → IsSplit 0 bytes ends → i ≤ length ends → last_end 0 (take i ends) ≤ length bytes
gate_within bytes ends zero split within = omega arith
gate_within bytes ends (suc i) split within =
    let is = last_end-take 0 ends i (omega arith) in
    let there = (end_within 0 bytes ends i split (omega arith)).1 in
    omega (arith, is, there)

pub gate_at : (ends : List ℕ) (i x : ℕ) → 0 < i → i ≤ length ends → x ≡ get_or ends (i - 1) 0 → x ≡ last_end 0 (take i ends)
gate_at ends zero x some within read = absurd (omega arith)
gate_at ends (suc i) x some within read =
    let e : suc i - 1 ≡ i = omega arith in
    let lt : i < length ends = omega arith in
    read ∙ ap (λ (k : ℕ). get_or ends k 0) e ∙ sym (last_end-take 0 ends i lt)
