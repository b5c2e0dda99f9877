-- The spelling of changes has the length that they count for.
use Rattle.std.proofs.Common.{◌≡◌, ℕ, ◌+◌, List, [], ◌∷◌, ◌++◌, length, true, Option, Some, None, refl, sym, ap, ◌∙◌, arith}
use Rattle.std.specs.List.{flat_map, sum_by}
use Rattle.std.proofs.lemmas.List.{length-append}
use Rattle.std.proofs.lemmas.List.Sums.{sum_by-cons}
use Rattle.changes.specs.declared.Bound.{Bound}
use Rattle.changes.specs.declared.Held.{Held}
use Rattle.changes.specs.declared.Mutation.{Mutation}
use Rattle.changes.specs.declared.Partition.{Partition}
use Rattle.changes.specs.declared.Place.{Place}
use Rattle.changes.specs.declared.Place.TheVariants.{Cell, Marker, RowGone, RangeGone, PartGone}
use Rattle.changes.specs.Lengths.{bound_length, place_length, value_length, held_length, changes_length, partition_length, mutation_length}
use Rattle.stored_fields.specs.Spelling.{u8, u16, u32, u64, i64, flag, request, field, optional}
use Rattle.stored_fields.proofs.Spelled.{length-u16, length-u32, length-u64, length-i64, length-flag, length-request, length-field}
use Rattle.stored_changes.specs.Grammar.{tag_of}
use Rattle.stored_changes.specs.Spelling.{bound, place_fields, place, value, change, changes, partition, mutation}

length-bound : (b : Bound) → length (bound b) ≡ bound_length b
length-bound b = omega (arith, length-append (flag b.after) (field b.at), length-flag b.after, length-field b.at)

length-place_fields : (p : Place) → length (place_fields p) ≡ place_length p
length-place_fields (Cell row column) = omega (arith, length-append (field row) (u8 column), length-field row)
length-place_fields (Marker row) = length-field row
length-place_fields (RowGone row) = length-field row
length-place_fields (RangeGone from upto) = omega (arith, length-append (bound from) (bound upto), length-bound from, length-bound upto)
length-place_fields PartGone = refl

length-cell : (v : Option (List ℕ)) (row : List ℕ) (column : ℕ) → length (optional field v) ≡ value_length (Cell row column) v
length-cell None row column = refl
length-cell (Some content) row column = omega (arith, length-append (flag true) (field content), length-field content)

length-value : (p : Place) (v : Option (List ℕ)) → length (value p v) ≡ value_length p v
length-value (Cell row column) v = length-cell v row column
length-value (Marker row) v = refl
length-value (RowGone row) v = refl
length-value (RangeGone from upto) v = refl
length-value PartGone v = refl

pub length-change : (x : Held) → length (change x) ≡ held_length x
length-change x =
    let tag : length (place x.place) ≡ 1 + place_length x.place = omega (arith, length-append (u8 (tag_of x.place)) (place_fields x.place), length-place_fields x.place) in
    omega (
      arith,
      tag,
      length-value x.place x.value,
      length-i64 x.timestamp,
      length-u64 x.submitted,
      length-request x.request,
      length-append (place x.place) (value x.place x.value),
      length-append (place x.place ++ value x.place x.value) (i64 x.timestamp),
      length-append (place x.place ++ value x.place x.value ++ i64 x.timestamp) (u64 x.submitted),
      length-append (place x.place ++ value x.place x.value ++ i64 x.timestamp ++ u64 x.submitted) (request x.request),
    )

length-each : (xs : List Held) → length (flat_map change xs) ≡ sum_by held_length xs
length-each [] = refl
length-each (x ∷ xs) =
    length-append (change x) (flat_map change xs)
    ∙ ap (λ (n : ℕ). n + length (flat_map change xs)) (length-change x)
    ∙ ap (λ (n : ℕ). held_length x + n) (length-each xs)
    ∙ sym (sum_by-cons held_length x xs)

pub length-changes : (xs : List Held) → length (changes xs) ≡ changes_length xs
length-changes xs = omega (arith, length-append (u32 (length xs)) (flat_map change xs), length-u32 (length xs), length-each xs)

pub length-partition : (p : Partition) → length (partition p) ≡ partition_length p
length-partition p =
    omega (arith, length-u16 p.table, length-i64 p.token, length-field p.key, length-append (u16 p.table) (i64 p.token), length-append (u16 p.table ++ i64 p.token) (field p.key))

pub length-mutation : (m : Mutation) → length (mutation m) ≡ mutation_length m
length-mutation m = omega (arith, length-append (partition m.partition) (changes m.changes), length-partition m.partition, length-changes m.changes)
