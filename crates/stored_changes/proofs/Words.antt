-- What is read is a word, and a word is read.
use Rattle.std.proofs.Common.{◌≡◌, ℕ, Bool, true, false, cond, eqb, inl, inr, List, [], length, Option, Some, None, Ok, Err, refl, sym, ap, subst, ◌∙◌}
use Rattle.std.proofs.lemmas.Bool.{eqb-true}
use Rattle.changes.specs.declared.Bound.{Bound}
use Rattle.changes.specs.declared.Held.{Held}
use Rattle.changes.specs.declared.Mutation.{Mutation}
use Rattle.changes.specs.declared.Partition.{Partition}
use Rattle.changes.specs.declared.Place.{Place}
use Rattle.changes.specs.declared.Place.TheVariants.{Cell, Marker, RowGone, RangeGone, PartGone}
use Rattle.stored_fields.specs.declared.fault.Fault.TheVariants.{Tag}
use Rattle.stored_fields.specs.Fields.{IsU8, IsU32, IsU64, IsI64, IsRequest, IsField, IsOptional}
use Rattle.stored_fields.specs.Reading.{◌>>=◌, Read, u8_at, u16_at, u32_at, u64_at, i64_at, flag_at, request_at, field_at, optional_at}
use Rattle.stored_fields.proofs.Words.{bind_ok, passed_ok, chosen, ok_is, Agrees, u8_agrees, u16_agrees, u32_agrees, u64_agrees, i64_agrees, flag_agrees, request_agrees, field_agrees, optional_agrees}
use Rattle.stored_fields.proofs.Lists.{AgreesBehind, items_words, items_read}
use Rattle.stored_changes.specs.Grammar.{IsBound, tag_of, ArePlaceFields, IsPlace, IsValue, IsChange, AreChanges, IsPartition, IsMutation}
use Rattle.stored_changes.specs.Reading.{bound_at, cell_at, marker_at, row_gone_at, range_gone_at, fields_of, place_at, value_at, behind_place_at, ascends, placed_at, change_at, place_of, counted_at, changes_at, partition_at, mutation_at}
use Rattle.stored_changes.proofs.Order.{Ascends, sorted_from_following, following_from_sorted}

-- ---- bounds

bound_word : (bytes : List ℕ) (x : Bound × List ℕ) → bound_at bytes ≡ Ok x → IsBound bytes x.0 x.1
unfolding bound_at
bound_word bytes x e =
    let a = bind_ok (flag_at bytes) (λ after. field_at after.1 >>= λ at. Ok (record { at = at.0; after = after.0 }, at.1)) x e in
    let b = bind_ok (field_at a.0.1) (λ at. Ok (record { at = at.0; after = a.0.0 }, at.1)) x a.2 in
    let made : Bound × List ℕ = (record { at = b.0.0; after = a.0.0 }, b.0.1) in
    subst (λ (q : Bound × List ℕ). IsBound bytes q.0 q.1) {x = made} (ok_is made x b.2)
    (a.0.1, flag_agrees.is_word bytes a.0 a.1, field_agrees.is_word a.0.1 b.0 b.1)

bound_read : (bytes : List ℕ) (b : Bound) (rest : List ℕ) → IsBound bytes b rest → bound_at bytes ≡ Ok (b, rest)
unfolding bound_at
bound_read bytes b rest word = rw (flag_agrees.is_read bytes b.after word.0 word.1, field_agrees.is_read word.0 b.at rest word.2) refl

pub bound_agrees : Agrees bound_at IsBound
bound_agrees = record { is_word = bound_word; is_read = bound_read }

-- ---- places

-- the fields of a place with this tag
abbrev IsTagged : ℕ → List ℕ → Place × List ℕ → Type 0
IsTagged tag bytes x = (tag_of x.0 ≡ tag) × ArePlaceFields bytes x.0 x.1

cell_word : (bytes : List ℕ) (x : Place × List ℕ) → cell_at bytes ≡ Ok x → IsTagged 1 bytes x
unfolding cell_at
cell_word bytes x e =
    let a = bind_ok (field_at bytes) (λ row. u8_at row.1 >>= λ column. Ok (Cell row.0 column.0, column.1)) x e in
    let b = bind_ok (u8_at a.0.1) (λ column. Ok (Cell a.0.0 column.0, column.1)) x a.2 in
    let made : Place × List ℕ = (Cell a.0.0 b.0.0, b.0.1) in
    subst (IsTagged 1 bytes) {x = made} (ok_is made x b.2) (refl, (a.0.1, field_agrees.is_word bytes a.0 a.1, u8_agrees.is_word a.0.1 b.0 b.1))

marker_word : (bytes : List ℕ) (x : Place × List ℕ) → marker_at bytes ≡ Ok x → IsTagged 2 bytes x
marker_word bytes x e =
    let a = bind_ok (field_at bytes) (λ row. Ok (Marker row.0, row.1)) x e in
    let made : Place × List ℕ = (Marker a.0.0, a.0.1) in
    subst (IsTagged 2 bytes) {x = made} (ok_is made x a.2) (refl, field_agrees.is_word bytes a.0 a.1)

row_gone_word : (bytes : List ℕ) (x : Place × List ℕ) → row_gone_at bytes ≡ Ok x → IsTagged 3 bytes x
row_gone_word bytes x e =
    let a = bind_ok (field_at bytes) (λ row. Ok (RowGone row.0, row.1)) x e in
    let made : Place × List ℕ = (RowGone a.0.0, a.0.1) in
    subst (IsTagged 3 bytes) {x = made} (ok_is made x a.2) (refl, field_agrees.is_word bytes a.0 a.1)

range_gone_word : (bytes : List ℕ) (x : Place × List ℕ) → range_gone_at bytes ≡ Ok x → IsTagged 4 bytes x
unfolding range_gone_at
range_gone_word bytes x e =
    let a = bind_ok (bound_at bytes) (λ from. bound_at from.1 >>= λ upto. Ok (RangeGone from.0 upto.0, upto.1)) x e in
    let b = bind_ok (bound_at a.0.1) (λ upto. Ok (RangeGone a.0.0 upto.0, upto.1)) x a.2 in
    let made : Place × List ℕ = (RangeGone a.0.0 b.0.0, b.0.1) in
    subst (IsTagged 4 bytes) {x = made} (ok_is made x b.2) (refl, (a.0.1, bound_word bytes a.0 a.1, bound_word a.0.1 b.0 b.1))

part_gone_word : (bytes : List ℕ) (left : ℕ) (tag : ℕ) (x : Place × List ℕ) → cond (eqb tag 5) (Ok (PartGone, bytes)) (Err (Tag left)) ≡ Ok x → (tag ≡ 5) × IsTagged 5 bytes x
part_gone_word bytes left tag x e =
    let made : Place × List ℕ = (PartGone, bytes) in
    let g = passed_ok (eqb tag 5) (Tag left) made x e in
    (eqb-true tag 5 g.0, subst (IsTagged 5 bytes) g.1 (refl, refl))

-- one test of the tag
tested : (bytes : List ℕ) (x : Place × List ℕ) (tag k : ℕ) (read others : Read Place) → (read ≡ Ok x → IsTagged k bytes x) → (others ≡ Ok x → IsTagged tag bytes x)
    → cond (eqb tag k) read others ≡ Ok x → IsTagged tag bytes x
tested bytes x tag k read others here next e = elim (chosen (eqb tag k) read others (Ok x) e) [
  | inl h ↦ subst (λ (t : ℕ). IsTagged t bytes x) (sym (eqb-true tag k h.0)) (here h.1)
  | inr h ↦ next h.1
]

fields_word : (left tag : ℕ) (bytes : List ℕ) (x : Place × List ℕ) → fields_of left tag bytes ≡ Ok x → IsTagged tag bytes x
fields_word left tag bytes x e =
    tested bytes x tag 1 _ _ (cell_word bytes x) (λ e. tested bytes x tag 2 _ _ (marker_word bytes x) (λ e. tested bytes x tag 3 _ _ (row_gone_word bytes x)
    (λ e. tested bytes x tag 4 _ _ (range_gone_word bytes x)
    (λ e. let g = part_gone_word bytes left tag x e in subst (λ (t : ℕ). IsTagged t bytes x) (sym g.0) g.1) e) e) e) e

place_word : (bytes : List ℕ) (x : Place × List ℕ) → place_at bytes ≡ Ok x → IsPlace bytes x.0 x.1
unfolding place_at
place_word bytes x e =
    let a = bind_ok (u8_at bytes) (λ tag. fields_of (length bytes) tag.0 tag.1) x e in
    let p = fields_word (length bytes) a.0.0 a.0.1 x a.2 in
    (a.0.1, subst (λ (t : ℕ). IsU8 bytes t a.0.1) (sym p.0) (u8_agrees.is_word bytes a.0 a.1), p.1)

cell_read : (bytes row : List ℕ) (column : ℕ) (rest : List ℕ) → ArePlaceFields bytes (Cell row column) rest → cell_at bytes ≡ Ok (Cell row column, rest)
unfolding cell_at
cell_read bytes row column rest word = rw (field_agrees.is_read bytes row word.0 word.1, u8_agrees.is_read word.0 column rest word.2) refl

range_gone_read : (bytes : List ℕ) (from upto : Bound) (rest : List ℕ) → ArePlaceFields bytes (RangeGone from upto) rest → range_gone_at bytes ≡ Ok (RangeGone from upto, rest)
unfolding range_gone_at
range_gone_read bytes from upto rest word = rw (bound_read bytes from word.0 word.1, bound_read word.0 upto rest word.2) refl

place_read : (bytes : List ℕ) (p : Place) (rest : List ℕ) → IsPlace bytes p rest → place_at bytes ≡ Ok (p, rest)
unfolding place_at
place_read bytes (Cell row column) rest word = ap place_at word.1 ∙ cell_read word.0 row column rest word.2
place_read bytes (Marker row) rest word = ap place_at word.1 ∙ rw (field_agrees.is_read word.0 row rest word.2) refl
place_read bytes (RowGone row) rest word = ap place_at word.1 ∙ rw (field_agrees.is_read word.0 row rest word.2) refl
place_read bytes (RangeGone from upto) rest word = ap place_at word.1 ∙ range_gone_read word.0 from upto rest word.2
place_read bytes PartGone rest word = ap place_at word.1 ∙ ap (λ (r : List ℕ). Ok (PartGone, r)) word.2

pub place_agrees : Agrees place_at IsPlace
place_agrees = record { is_word = place_word; is_read = place_read }

-- ---- values

abbrev cell_value_agrees : Agrees (optional_at field_at) (IsOptional IsField)
cell_value_agrees = optional_agrees field_at IsField field_agrees

abbrev Value : Type 0
Value = Option (List ℕ) × List ℕ

value_word : (p : Place) (bytes : List ℕ) (x : Value) → value_at p bytes ≡ Ok x → IsValue p bytes x.0 x.1
value_word (Cell row column) bytes x e = cell_value_agrees.is_word bytes x e
value_word (Marker row) bytes x e = let made : Value = (Some [], bytes) in subst (λ (q : Value). (q.0 ≡ Some []) × (bytes ≡ q.1)) {x = made} (ok_is made x e) (refl, refl)
value_word (RowGone row) bytes x e = let made : Value = (None, bytes) in subst (λ (q : Value). (q.0 ≡ None) × (bytes ≡ q.1)) {x = made} (ok_is made x e) (refl, refl)
value_word (RangeGone from upto) bytes x e = let made : Value = (None, bytes) in subst (λ (q : Value). (q.0 ≡ None) × (bytes ≡ q.1)) {x = made} (ok_is made x e) (refl, refl)
value_word PartGone bytes x e = let made : Value = (None, bytes) in subst (λ (q : Value). (q.0 ≡ None) × (bytes ≡ q.1)) {x = made} (ok_is made x e) (refl, refl)

stays : (bytes rest : List ℕ) (a b : Option (List ℕ)) → b ≡ a → bytes ≡ rest → (let read : Read (Option (List ℕ)) = Ok (a, bytes) in read) ≡ Ok (b, rest)
stays bytes rest a b p q = ap (λ (v : Option (List ℕ)). Ok (v, bytes)) (sym p) ∙ ap (λ (r : List ℕ). Ok (b, r)) q

value_read : (p : Place) (bytes : List ℕ) (v : Option (List ℕ)) (rest : List ℕ) → IsValue p bytes v rest → value_at p bytes ≡ Ok (v, rest)
value_read (Cell row column) bytes v rest word = cell_value_agrees.is_read bytes v rest word
value_read (Marker row) bytes v rest word = stays bytes rest (Some []) v word.0 word.1
value_read (RowGone row) bytes v rest word = stays bytes rest None v word.0 word.1
value_read (RangeGone from upto) bytes v rest word = stays bytes rest None v word.0 word.1
value_read PartGone bytes v rest word = stays bytes rest None v word.0 word.1

-- ---- changes

-- what stands behind the place of a change
pub record IsBehindPlace (bytes : List ℕ) (x : Held) (rest : List ℕ) : Type 0 where
  pub behind_value : List ℕ
  pub behind_timestamp : List ℕ
  pub behind_submitted : List ℕ
  pub value : IsValue x.place bytes x.value behind_value
  pub timestamp : IsI64 behind_value x.timestamp behind_timestamp
  pub submitted : IsU64 behind_timestamp x.submitted behind_submitted
  pub request : IsRequest behind_submitted x.request rest

behind_place_word : (p : Place) (bytes : List ℕ) (x : Held × List ℕ) → behind_place_at p bytes ≡ Ok x → IsBehindPlace bytes x.0 x.1 × (p ≡ x.0.place)
unfolding behind_place_at
behind_place_word p bytes x e =
    let a = bind_ok (value_at p bytes) (λ value. i64_at value.1 >>= λ timestamp. u64_at timestamp.1 >>= λ submitted. request_at submitted.1 >>= λ request.
    Ok (record { place = p; value = value.0; timestamp = timestamp.0; submitted = submitted.0; request = request.0 }, request.1)) x e in
    let b = bind_ok (i64_at a.0.1) (λ timestamp. u64_at timestamp.1 >>= λ submitted. request_at submitted.1 >>= λ request.
    Ok (record { place = p; value = a.0.0; timestamp = timestamp.0; submitted = submitted.0; request = request.0 }, request.1)) x a.2 in
    let d = bind_ok (u64_at b.0.1) (λ submitted. request_at submitted.1 >>= λ request.
    Ok (record { place = p; value = a.0.0; timestamp = b.0.0; submitted = submitted.0; request = request.0 }, request.1)) x b.2 in
    let f = bind_ok (request_at d.0.1) (λ request.
    Ok (record { place = p; value = a.0.0; timestamp = b.0.0; submitted = d.0.0; request = request.0 }, request.1)) x d.2 in
    let made : Held × List ℕ = (record { place = p; value = a.0.0; timestamp = b.0.0; submitted = d.0.0; request = f.0.0 }, f.0.1) in
    let whole : IsBehindPlace bytes made.0 made.1 = record {
      behind_value = a.0.1;
      behind_timestamp = b.0.1;
      behind_submitted = d.0.1;
      value = value_word p bytes a.0 a.1;
      timestamp = i64_agrees.is_word a.0.1 b.0 b.1;
      submitted = u64_agrees.is_word b.0.1 d.0 d.1;
      request = request_agrees.is_word d.0.1 f.0 f.1;
    } in
    subst (λ (q : Held × List ℕ). IsBehindPlace bytes q.0 q.1 × (p ≡ q.0.place)) {x = made} (ok_is made x f.2) (whole, refl)

behind_place_read : (bytes : List ℕ) (x : Held) (rest : List ℕ) → IsBehindPlace bytes x rest → behind_place_at x.place bytes ≡ Ok (x, rest)
unfolding behind_place_at
behind_place_read bytes x rest word =
    rw (
      value_read x.place bytes x.value word.behind_value word.value,
      i64_agrees.is_read word.behind_value x.timestamp word.behind_timestamp word.timestamp,
      u64_agrees.is_read word.behind_timestamp x.submitted word.behind_submitted word.submitted,
      request_agrees.is_read word.behind_submitted x.request rest word.request,
    ) refl

change_word : (before : Option Place) (bytes : List ℕ) (x : Held × List ℕ) → change_at before bytes ≡ Ok x → IsChange bytes x.0 x.1 × Ascends before x.0
unfolding change_at
change_word before bytes x e =
    let a = bind_ok (place_at bytes) (λ place. placed_at (length bytes) (ascends before place.0) place.0 place.1) x e in
    let place : IsPlace bytes a.0.0 a.0.1 = place_word bytes a.0 a.1 in
    go a.0.0 a.0.1 place (ascends before a.0.0) refl a.2
  where
    go : (p : Place) (behind : List ℕ) → IsPlace bytes p behind → (b : Bool) → ascends before p ≡ b → placed_at (length bytes) b p behind ≡ Ok x → IsChange bytes x.0 x.1 × Ascends before x.0
    go p behind place false t e = absurd cc
    go p behind place true t e =
        let w = behind_place_word p behind x e in (
          record {
            behind_place = behind;
            behind_value = w.0.behind_value;
            behind_timestamp = w.0.behind_timestamp;
            behind_submitted = w.0.behind_submitted;
            place = subst (λ (q : Place). IsPlace bytes q behind) w.1 place;
            value = w.0.value;
            timestamp = w.0.timestamp;
            submitted = w.0.submitted;
            request = w.0.request;
          },
          subst (λ (q : Place). ascends before q ≡ true) w.1 t,
        )

change_read : (before : Option Place) (bytes : List ℕ) (x : Held) (rest : List ℕ) → IsChange bytes x rest → Ascends before x → change_at before bytes ≡ Ok (x, rest)
unfolding change_at
change_read before bytes x rest word above =
    let behind : behind_place_at x.place word.behind_place ≡ Ok (x, rest) = behind_place_read word.behind_place x rest (record {
      behind_value = word.behind_value;
      behind_timestamp = word.behind_timestamp;
      behind_submitted = word.behind_submitted;
      value = word.value;
      timestamp = word.timestamp;
      submitted = word.submitted;
      request = word.request;
    }) in
    rw (place_read bytes x.place word.behind_place word.place, above) behind

pub change_agrees_behind : AgreesBehind change_at IsChange Ascends
change_agrees_behind = record { is_word = change_word; is_read = change_read }

-- a change with none before it
pub change_agrees : Agrees (change_at None) IsChange
change_agrees = record { is_word = λ bytes x e. (change_word None bytes x e).0; is_read = λ bytes x rest word. change_read None bytes x rest word refl }

changes_word : (bytes : List ℕ) (x : List Held × List ℕ) → changes_at bytes ≡ Ok x → AreChanges bytes x.0 x.1
unfolding changes_at
changes_word bytes x e =
    let a = bind_ok (u32_at bytes) (λ count. counted_at count.0 count.1) x e in
    let p = items_words change_at place_of IsChange Ascends change_agrees_behind a.0.0 None a.0.1 x a.2 in
    record {
      behind_count = a.0.1;
      count = subst (λ (n : ℕ). IsU32 bytes n a.0.1) p.1 (u32_agrees.is_word bytes a.0 a.1);
      changes = p.0;
      order = sorted_from_following x.0 p.2;
    }

changes_read : (bytes : List ℕ) (xs : List Held) (rest : List ℕ) → AreChanges bytes xs rest → changes_at bytes ≡ Ok (xs, rest)
unfolding changes_at
changes_read bytes xs rest word =
    rw (u32_agrees.is_read bytes (length xs) word.behind_count word.count)
    (items_read change_at place_of IsChange Ascends change_agrees_behind None word.behind_count xs rest word.changes (following_from_sorted xs word.order))

pub changes_agree : Agrees changes_at AreChanges
changes_agree = record { is_word = changes_word; is_read = changes_read }

-- ---- mutations

partition_word : (bytes : List ℕ) (x : Partition × List ℕ) → partition_at bytes ≡ Ok x → IsPartition bytes x.0 x.1
unfolding partition_at
partition_word bytes x e =
    let a = bind_ok (u16_at bytes) (λ table. i64_at table.1 >>= λ token. field_at token.1 >>= λ key. Ok (record { token = token.0; table = table.0; key = key.0 }, key.1)) x e in
    let b = bind_ok (i64_at a.0.1) (λ token. field_at token.1 >>= λ key. Ok (record { token = token.0; table = a.0.0; key = key.0 }, key.1)) x a.2 in
    let d = bind_ok (field_at b.0.1) (λ key. Ok (record { token = b.0.0; table = a.0.0; key = key.0 }, key.1)) x b.2 in
    let made : Partition × List ℕ = (record { token = b.0.0; table = a.0.0; key = d.0.0 }, d.0.1) in
    subst (λ (q : Partition × List ℕ). IsPartition bytes q.0 q.1) {x = made} (ok_is made x d.2)
    (record {
      behind_table = a.0.1;
      behind_token = b.0.1;
      table = u16_agrees.is_word bytes a.0 a.1;
      token = i64_agrees.is_word a.0.1 b.0 b.1;
      key = field_agrees.is_word b.0.1 d.0 d.1;
    })

partition_read : (bytes : List ℕ) (p : Partition) (rest : List ℕ) → IsPartition bytes p rest → partition_at bytes ≡ Ok (p, rest)
unfolding partition_at
partition_read bytes p rest word =
    rw (u16_agrees.is_read bytes p.table word.behind_table word.table, i64_agrees.is_read word.behind_table p.token word.behind_token word.token, field_agrees.is_read word.behind_token p.key rest word.key) refl

pub partition_agrees : Agrees partition_at IsPartition
partition_agrees = record { is_word = partition_word; is_read = partition_read }

mutation_word : (bytes : List ℕ) (x : Mutation × List ℕ) → mutation_at bytes ≡ Ok x → IsMutation bytes x.0 x.1
unfolding mutation_at
mutation_word bytes x e =
    let a = bind_ok (partition_at bytes) (λ partition. changes_at partition.1 >>= λ changes. Ok (record { partition = partition.0; changes = changes.0 }, changes.1)) x e in
    let b = bind_ok (changes_at a.0.1) (λ changes. Ok (record { partition = a.0.0; changes = changes.0 }, changes.1)) x a.2 in
    let made : Mutation × List ℕ = (record { partition = a.0.0; changes = b.0.0 }, b.0.1) in
    subst (λ (q : Mutation × List ℕ). IsMutation bytes q.0 q.1) {x = made} (ok_is made x b.2)
    (record { behind_partition = a.0.1; partition = partition_word bytes a.0 a.1; changes = changes_word a.0.1 b.0 b.1 })

mutation_read : (bytes : List ℕ) (m : Mutation) (rest : List ℕ) → IsMutation bytes m rest → mutation_at bytes ≡ Ok (m, rest)
unfolding mutation_at
mutation_read bytes m rest word = rw (partition_read bytes m.partition word.behind_partition word.partition, changes_read word.behind_partition m.changes rest word.changes) refl

pub mutation_agrees : Agrees mutation_at IsMutation
mutation_agrees = record { is_word = mutation_word; is_read = mutation_read }
