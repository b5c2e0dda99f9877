-- What the calls of a log make of the entries of a file.
use Rattle.std.proofs.Common.{◌≡◌, inl, inr, ⊎_elim, ℕ, ◌+◌, ◌^◌, ◌<◌, List, [], ◌∷◌, ◌++◌, length, take, ◌∙◌, ap, subst}
use Rattle.cs_store.specs.Disk.{Disk, overwritten, Torn, Cut, LeavesOnly}
use Rattle.gate_log.specs.Format.{spellings, Reads, Adds, IsBeforeOrAfter}
use Rattle.gate_log.specs.Place.{Place, IsAtRest}
use Rattle.gate_log.proofs.Crash.{behind, torn_behind, written_behind, torn_gate, gate_written, next_place, cut_reads, cut_done}
use Rattle.gate_log.proofs.Spellings.{short_push}
use Rattle.gate_log.proofs.Readings.{same_entries}

-- a file at rest reads as its entries
pub reads_at_rest : (gate : ℕ) (file : List ℕ) (rest : IsAtRest gate file) → Reads rest.entries file
reads_at_rest gate file rest = record { gate = rest.byte; rest = []; split = rest.split; closed = rest.closed; short = rest.short }

module _ (gate : ℕ) (file bytes : List ℕ) (rest : IsAtRest gate file) where
  those : (entries : List (List ℕ)) → Reads entries file → rest.entries ≡ entries
  those entries reads = same_entries file rest.entries entries (reads_at_rest gate file rest) reads

  pub after_first : (n : ℕ) (c : List ℕ) → Torn (gate + 1) n file c → IsBeforeOrAfter bytes file c
  after_first n c torn entries reads =
      let stays = torn_behind rest.entries rest.byte gate rest.closed rest.short rest.place n c (subst (λ (l : List ℕ). Torn (gate + 1) n l c) rest.split torn) in
      inl (subst (λ (es : List (List ℕ)). Reads es c) (those entries reads) stays)

  module _ (fits : length bytes < 2 ^ 32) (stage : List ℕ) (is_stage : stage ≡ overwritten file (gate + 1) (behind bytes)) where
    abbrev done : List ℕ
    done = overwritten stage gate (197 ∷ [])

    staged_is : stage ≡ spellings rest.entries ++ rest.byte ∷ [] ++ behind bytes
    staged_is =
        is_stage ∙ ap (λ (l : List ℕ). overwritten l (gate + 1) (behind bytes)) rest.split
        ∙ written_behind rest.entries rest.byte gate rest.closed rest.short rest.place (behind bytes)

    pub after_second : (c : List ℕ) → Torn gate 1 stage c → IsBeforeOrAfter bytes file c
    after_second c torn entries reads =
        let cases = torn_gate rest.entries rest.byte gate rest.closed rest.short rest.place bytes fits c (subst (λ (l : List ℕ). Torn gate 1 l c) staged_is torn) in
        ⊎_elim
        (λ without. inl (subst (λ (es : List (List ℕ)). Reads es c) (those entries reads) without))
        (λ with. inr (subst (λ (es : List (List ℕ)). Reads (es ++ bytes ∷ []) c) (those entries reads) with))
        cases

    done_is : done ≡ spellings (rest.entries ++ bytes ∷ []) ++ 0 ∷ []
    done_is =
        ap (λ (l : List ℕ). overwritten l gate (197 ∷ [])) staged_is
        ∙ gate_written rest.entries rest.byte gate rest.closed rest.short rest.place bytes fits

    pub rests : IsAtRest (gate + (length bytes + 5)) done
    rests = record {
      entries = rest.entries ++ bytes ∷ [];
      byte = 0;
      split = done_is;
      closed = λ (e : 0 ≡ 197). cc;
      short = short_push rest.entries bytes rest.short fits;
      place = next_place rest.entries rest.byte gate rest.closed rest.short rest.place bytes fits;
    }

    pub adds : Adds bytes file done
    unfolding rests
    adds entries reads =
        subst (λ (es : List (List ℕ)). Reads (es ++ bytes ∷ []) done) (those entries reads) (reads_at_rest (gate + (length bytes + 5)) done rests)

-- the same at another name of the log
pub same_log : (p q : Place) → p ≡ q → (bytes : List ℕ) (old new : Disk) → LeavesOnly p.file (IsBeforeOrAfter bytes (old.seen p.file)) old new → LeavesOnly q.file (IsBeforeOrAfter bytes (old.seen q.file)) old new
same_log p q same bytes old new only = subst (λ (r : Place). LeavesOnly r.file (IsBeforeOrAfter bytes (old.seen r.file)) old new) same only

-- a file that is cut behind its gate
module _ (entries : List (List ℕ)) (gate : ℕ) (file : List ℕ) (reads : Reads entries file) (place : gate ≡ length (spellings entries)) where
  pub cut_keeps : (c : List ℕ) → Cut (gate + 1) file c → Reads entries c
  cut_keeps c cut = cut_reads entries reads.gate gate reads.rest c reads.closed reads.short place (subst (λ (l : List ℕ). Cut (gate + 1) l c) reads.split cut)

  pub cut_rests : IsAtRest gate (take (gate + 1) file)
  cut_rests = record {
    entries = entries;
    byte = reads.gate;
    split = cut_done entries reads.gate gate reads.rest (take (gate + 1) file) reads.closed reads.short place (ap (λ (l : List ℕ). take (gate + 1) l) reads.split);
    closed = reads.closed;
    short = reads.short;
    place = place;
  }

  pub cut_same : Reads entries (take (gate + 1) file)
  cut_same = record {
    gate = reads.gate;
    rest = [];
    split = cut_done entries reads.gate gate reads.rest (take (gate + 1) file) reads.closed reads.short place (ap (λ (l : List ℕ). take (gate + 1) l) reads.split);
    closed = reads.closed;
    short = reads.short;
  }
