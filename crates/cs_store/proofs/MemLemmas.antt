-- Files in memory.
use Rattle.std.proofs.Common.{◌≡◌, ℕ, ◌+◌, ◌≤◌, min, max, List, ◌++◌, length, take, drop, sym, ◌∙◌, ap, arith, append_assoc, length-append, length-take, length-drop}
use Rattle.std.proofs.lemmas.List.{take-take, take-append-le, length-take-le}
use Rattle.cs_store.specs.Disk.{overwritten}
use Rattle.cs_store.specs.MemParts.{IsSound}

pub length-overwritten : (old : List ℕ) (at : ℕ) (bytes : List ℕ) → at ≤ length old → length (overwritten old at bytes) ≡ max (length old) (at + length bytes)
length-overwritten old at bytes within =
    let n = length bytes in
    omega (arith, length-append (take at old ++ bytes) (drop (at + n) old), length-append (take at old) bytes, length-take at old, length-drop (at + n) old)

-- below the place a write changes nothing
pub take-overwritten : (k : ℕ) (old : List ℕ) (at : ℕ) (bytes : List ℕ) → k ≤ at → at ≤ length old → take k (overwritten old at bytes) ≡ take k old
take-overwritten k old at bytes below within =
    let size : length (take at old) ≡ at = length-take-le at old within in
    ap (λ (l : List ℕ). take k l) (append_assoc (take at old) bytes (drop (at + length bytes) old))
    ∙ take-append-le k (take at old) (bytes ++ drop (at + length bytes) old) (omega arith)
    ∙ take-take k at old below

pub written_sound : (kept lost torn : List ℕ) (settled room room' at : ℕ) (bytes other : List ℕ) → IsSound kept lost torn settled room → at ≤ length kept → at + length bytes ≤ room → room ≤ room' → length other ≡ length bytes
    → IsSound (overwritten kept at bytes) lost (overwritten torn at other) (min settled at) room'
written_sound kept lost torn settled room room' at bytes other sound within fits more size =
    let low = min settled at in
    let kept_same : take low (overwritten kept at bytes) ≡ take low kept = take-overwritten low kept at bytes (omega arith) within in
    let torn_same : take low (overwritten torn at other) ≡ take low torn = take-overwritten low torn at other (omega arith) (omega (arith, sound.size)) in
    let lower : (l : List ℕ) → take low (take settled l) ≡ take low l = λ l. take-take low settled l (omega arith) in
    record {
      within_kept = omega (arith, length-overwritten kept at bytes within, sound.within_kept);
      within_lost = omega (arith, sound.within_lost);
      lost_alike = sym (lower lost) ∙ ap (λ (l : List ℕ). take low l) sound.lost_alike ∙ lower kept ∙ sym kept_same;
      torn_alike = torn_same ∙ sym (lower torn) ∙ ap (λ (l : List ℕ). take low l) sound.torn_alike ∙ lower kept ∙ sym kept_same;
      size = omega (arith, length-overwritten kept at bytes within, length-overwritten torn at other (omega (arith, sound.size)), sound.size, size);
      kept_fits = omega (arith, length-overwritten kept at bytes within, sound.kept_fits);
      lost_fits = omega (arith, sound.lost_fits);
    }
