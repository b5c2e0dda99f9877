-- The parts of a key are those of which it was made.
use Rattle.std.proofs.Common.{◌≡◌, ◌≢◌, ◌<◌, ◌+◌, ◌&&◌, ℕ, suc, ◌∷◌, ◌++◌, [], true, cond, eqb, List, Option, Some, None, length, take, drop, map, flat_map, refl, sym, ap, ◌∙◌, arith, append_assoc}
use Rattle.std.specs.Prelude.{nat_lt}
use Rattle.std.proofs.Math.Seq.{take-append_seam, drop-append-add, get_or-append_seam}
use Rattle.std.proofs.lemmas.Bool.Decides.{nat_tests}
use Rattle.std.proofs.lemmas.List.{length-append}
use Rattle.std.proofs.lemmas.Nat.{from_be_bytes-to_be_bytes_2}
use Rattle.key_restrictions.specs.Rows.{framed, joined}
use Rattle.row_values.specs.Keys.{ended, part_in, behind_in, part_length, first_part, behind_part, framed_parts}
use Rattle.row_values.specs.Laws.{AreShort, KeysComeBack}
use Rattle.row_values.proofs.Parts.{parts_are_framed}

-- a part with its zero byte, and what comes behind it
abbrev ended_part : List ℕ → List ℕ → List ℕ
ended_part part later = (part ++ 0 ∷ []) ++ later

ended_is : (part later : List ℕ) → ended_part part later ≡ part ++ 0 ∷ later
ended_is part later = append_assoc part (0 ∷ []) later

below : (n k : ℕ) → nat_lt n (n + (k + 1)) ≡ true
below n k = grind (arith, nat_tests)

more : (part later : List ℕ) → nat_lt (length part) (length (part ++ 0 ∷ later)) ≡ true
more part later =
    let one : suc (length later) ≡ length later + 1 = omega arith in
    ap (nat_lt (length part)) (length-append part (0 ∷ later) ∙ ap (λ (k : ℕ). length part + k) one) ∙ below (length part) (length later)

part_ends : (part later : List ℕ) → ended (length part) (part ++ 0 ∷ later) ≡ Some (length part)
part_ends part later =
    (λ i. cond (more part later i && eqb (get_or-append_seam part 0 later 0 i) 0) (Some (length part)) None)

part_stands : (part later : List ℕ) → length part < 65536 → part_length (framed part ++ later) ≡ Some (length part)
part_stands part later h =
    (λ i. ended (from_be_bytes-to_be_bytes_2 (length part) h i) (ended_is part later i)) ∙ part_ends part later

first : (part later : List ℕ) → length part < 65536 → first_part (framed part ++ later) ≡ Some part
first part later h =
    ap (part_in (framed part ++ later)) (part_stands part later h)
    ∙ ap Some (ap (take (length part)) (ended_is part later) ∙ take-append_seam part (0 ∷ later))

beyond : (n high low : ℕ) (bytes : List ℕ) → drop (n + 3) (high ∷ low ∷ bytes) ≡ drop (n + 1) bytes
beyond n high low bytes = let e : n + 3 ≡ suc (suc (n + 1)) = omega arith in ap (λ (k : ℕ). drop k (high ∷ low ∷ bytes)) e

behind : (part later : List ℕ) → length part < 65536 → behind_part (framed part ++ later) ≡ later
behind part later h =
    ap (behind_in (framed part ++ later)) (part_stands part later h)
    ∙ (beyond (length part) _ _ (ended_part part later)
    ∙ (ap (drop (length part + 1)) (ended_is part later) ∙ drop-append-add part (0 ∷ later) 1))

all_framed : (parts : List (List ℕ)) → AreShort parts → framed_parts (length parts) (flat_map framed parts) ≡ map Some parts
all_framed [] h = refl
all_framed (part ∷ parts) h =
    let later = flat_map framed parts in
    (λ i. first part later h.0 i ∷ framed_parts (length parts) (behind part later h.0 i))
    ∙ ap (λ (ps : List (Option (List ℕ))). Some part ∷ ps) (all_framed parts h.1)

several : (n : ℕ) → suc (suc n) ≢ 1
several n h = omega arith

pub keys_come_back : KeysComeBack
keys_come_back [] h = refl
keys_come_back (part ∷ []) h = refl
keys_come_back (part ∷ next ∷ parts) h =
    sym (parts_are_framed (length (part ∷ next ∷ parts)) (joined (part ∷ next ∷ parts)) (several (length parts))) ∙ all_framed (part ∷ next ∷ parts) h
