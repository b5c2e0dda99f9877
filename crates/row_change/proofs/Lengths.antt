-- The spelling of an entry has the length that it counts for. A row of an acceptor has seven ballots.
use Rattle.std.proofs.Common.{◌≡◌, ℕ, ◌+◌, ◌*◌, List, [], ◌∷◌, ◌++◌, length, true, Option, Some, None, refl, sym, ap, ◌∙◌, arith}
use Rattle.std.specs.List.{flat_map, sum_by, AllByRecursion}
use Rattle.std.proofs.lemmas.List.{length-append}
use Rattle.std.proofs.lemmas.List.Sums.{sum_by-cons}
use Rattle.changes.specs.Lengths.{changes_length, partition_length, mutation_length, held_length}
use Rattle.stored_fields.specs.Spelling.{u8, u32, u64, i64, flag, request, optional}
use Rattle.stored_fields.proofs.Spelled.{length-u32, length-u64, length-i64, length-request}
use Rattle.stored_changes.specs.Spelling.{change, changes, partition, mutation}
use Rattle.stored_changes.proofs.Lengths.{length-change, length-changes, length-partition, length-mutation}
use Rattle.row_change.specs.declared.entry.Stamped.{Stamped}
use Rattle.row_change.specs.declared.entry.PaxosRow.{PaxosRow}
use Rattle.row_change.specs.declared.entry.Hint.{Hint}
use Rattle.row_change.specs.declared.entry.Mark as mark
use Rattle.row_change.specs.declared.entry.LogEntry.{LogEntry}
use Rattle.row_change.specs.declared.entry.LogItem.{LogItem}
use Rattle.row_change.specs.declared.entry.LogItem.TheVariants.{Data, Paxos, HintAdd, HintGone, Ceiling, Mark, Purge}
use Rattle.row_change.specs.Grammar.{kind_of}
use Rattle.row_change.specs.Lengths.{stamped_length, row_length, item_fields_length, item_length, entry_length}
use Rattle.row_change.specs.Spelling.{stamped, numbers, row, hint, mark_bytes, item_fields, item, entry, ItemInRange, EntryInRange}

abbrev four : List ℕ → List ℕ → List ℕ → List ℕ → List ℕ
four a b c d = a ++ b ++ c ++ d

length-four : (a b c d : List ℕ) (k l m n : ℕ) → length a ≡ k → length b ≡ l → length c ≡ m → length d ≡ n → length (four a b c d) ≡ k + l + m + n
length-four a b c d k l m n p q r s = omega (arith, p, q, r, s, length-append a b, length-append (a ++ b) c, length-append (a ++ b ++ c) d)

length-two : (a b : List ℕ) (k l : ℕ) → length a ≡ k → length b ≡ l → length (a ++ b) ≡ k + l
length-two a b k l p q = omega (arith, p, q, length-append a b)

length-stamped : (s : Stamped) → length (stamped s) ≡ 8 + 9 + 8 + changes_length s.update.changes
length-stamped s =
    length-four (u64 s.ballot) (request s.update.request) (u64 s.update.base) (changes s.update.changes) 8 9 8 (changes_length s.update.changes)
    (length-u64 s.ballot) (length-request s.update.request) (length-u64 s.update.base) (length-changes s.update.changes)

length-stamp : (s : Option Stamped) → length (optional stamped s) ≡ stamped_length s
length-stamp None = refl
length-stamp (Some s) =
    let one : length (flag true ++ stamped s) ≡ 1 + (8 + 9 + 8 + changes_length s.update.changes) = length-two (flag true) (stamped s) 1 (8 + 9 + 8 + changes_length s.update.changes) refl (length-stamped s) in
    one ∙ omega arith

length-numbers : (ns : List ℕ) → length (numbers ns) ≡ 8 * length ns
length-numbers [] = refl
length-numbers (n ∷ ns) = omega (arith, length-append (u64 n) (numbers ns), length-u64 n, length-numbers ns)

length-row : (r : PaxosRow) → length r.took ≡ 7 → length (row r) ≡ row_length r
length-row r seven =
    let took : length (numbers r.took) ≡ 56 = length-numbers r.took ∙ ap (λ (n : ℕ). 8 * n) seven in
    length-four (u64 r.promised) (numbers r.took) (optional stamped r.accepted) (optional stamped r.commit) 8 56 (stamped_length r.accepted) (stamped_length r.commit)
    (length-u64 r.promised) took (length-stamp r.accepted) (length-stamp r.commit)

length-hint : (h : Hint) → length (hint h) ≡ 1 + 8 + 8 + mutation_length h.mutation
length-hint h =
    length-four (u8 h.peer) (u64 h.number) (u64 h.born) (mutation h.mutation) 1 8 8 (mutation_length h.mutation) refl (length-u64 h.number) (length-u64 h.born) (length-mutation h.mutation)

length-mark : (m : mark.Mark) → length (mark_bytes m) ≡ 32
length-mark m =
    length-four (i64 m.range.after) (i64 m.range.upto) (u64 m.snapshot) (u64 m.sent) 8 8 8 8 (length-i64 m.range.after) (length-i64 m.range.upto) (length-u64 m.snapshot) (length-u64 m.sent)

length-fields : (i : LogItem) → ItemInRange i → length (item_fields i) ≡ item_fields_length i
length-fields (Data arrival m) range = length-two (u64 arrival) (mutation m) 8 (mutation_length m) (length-u64 arrival) (length-mutation m)
length-fields (Paxos p r) range = length-two (partition p) (row r) (partition_length p) (row_length r) (length-partition p) (length-row r range.1.count)
length-fields (HintAdd h) range = length-hint h
length-fields (HintGone peer number) range = length-two (u8 peer) (u64 number) 1 8 refl (length-u64 number)
length-fields (Ceiling time) range = length-u64 time
length-fields (Mark m) range = length-mark m
length-fields (Purge c) range = length-two (partition c.partition) (change c.held) (partition_length c.partition) (held_length c.held) (length-partition c.partition) (length-change c.held)

length-item : (i : LogItem) → ItemInRange i → length (item i) ≡ item_length i
length-item i range = length-two (u8 (kind_of i)) (item_fields i) 1 (item_fields_length i) refl (length-fields i range)

length-items : (items : List LogItem) → AllByRecursion ItemInRange items → length (flat_map item items) ≡ sum_by item_length items
length-items [] range = refl
length-items (i ∷ items) range =
    length-append (item i) (flat_map item items)
    ∙ ap (λ (n : ℕ). n + length (flat_map item items)) (length-item i range.0)
    ∙ ap (λ (n : ℕ). item_length i + n) (length-items items range.1)
    ∙ sym (sum_by-cons item_length i items)

pub length-entry : (e : LogEntry) → EntryInRange e → length (entry e) ≡ entry_length e
length-entry e range = length-two (u32 (length e.items)) (flat_map item e.items) 4 (sum_by item_length e.items) (length-u32 (length e.items)) (length-items e.items range)
