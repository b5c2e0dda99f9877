-- The spelling of a value is its word, and each word is spelled so.
use Rattle.std.proofs.Common.{◌≡◌, ℕ, List, [], ◌∷◌, ◌++◌, length, Option, Some, None, refl, sym, ap, subst, ◌∙◌, append_assoc}
use Rattle.std.specs.List.{flat_map, AllByRecursion}
use Rattle.changes.specs.declared.Bound.{Bound}
use Rattle.changes.specs.declared.Held.{Held}
use Rattle.changes.specs.declared.Mutation.{Mutation}
use Rattle.changes.specs.declared.Partition.{Partition}
use Rattle.changes.specs.declared.Place.{Place}
use Rattle.changes.specs.declared.Place.TheVariants.{Cell, Marker, RowGone, RangeGone, PartGone}
use Rattle.stored_fields.specs.Fields.{AreBytes, IsField, IsOptional, AreWords}
use Rattle.stored_fields.specs.Spelling.{u8, u16, u32, u64, i64, flag, request, field, optional, FitsField}
use Rattle.stored_fields.proofs.Spelled.{IsSpelled, Spells, Optionally, behind_are_bytes, u8_spells, u16_spells, u32_spells, u64_spells, i64_spells, flag_spells, request_spells, field_spells, optional_spells, words_spell}
use Rattle.stored_changes.specs.Grammar.{IsBound, tag_of, ArePlaceFields, IsPlace, IsValue, IsChange, AreChanges, IsPartition, IsMutation}
use Rattle.stored_changes.specs.Spelling.{bound, place_fields, place, value, change, changes, partition, mutation, PlaceFits, CellFits, ValueFits, ChangeFits, ColumnInRange, ChangeInRange, PartitionInRange, ChangesHaveWord, MutationHasWord}

-- ---- bounds

abbrev BoundFits : Bound → Type 0
BoundFits b = FitsField b.at

bound_word : (b : Bound) (rest : List ℕ) → BoundFits b → IsBound (bound b ++ rest) b rest
bound_word b rest fits =
    subst (λ (s : List ℕ). IsBound s b rest) (sym (append_assoc (flag b.after) (field b.at) rest))
    (field b.at ++ rest, flag_spells.is_word b.after (field b.at ++ rest) tt, field_spells.is_word b.at rest fits)

bound_spelled : (bytes : List ℕ) (b : Bound) (rest : List ℕ) → AreBytes bytes → IsBound bytes b rest → IsSpelled bound BoundFits bytes b rest
bound_spelled bytes b rest are word =
    let after = flag_spells.is_spelled bytes b.after word.0 are word.1 in
    let at = field_spells.is_spelled word.0 b.at rest after.behind word.2 in
    record {
      parts = after.parts ∙ ap (λ (s : List ℕ). flag b.after ++ s) at.parts ∙ sym (append_assoc (flag b.after) (field b.at) rest);
      fits = at.fits;
      behind = at.behind;
    }

-- ---- places

abbrev PlaceHasWord : Place → Type 0
PlaceHasWord p = PlaceFits p × ColumnInRange p

fields_word : (p : Place) (rest : List ℕ) → PlaceHasWord p → ArePlaceFields (place_fields p ++ rest) p rest
fields_word (Cell row column) rest fits =
    subst (λ (s : List ℕ). ArePlaceFields s (Cell row column) rest) (sym (append_assoc (field row) (u8 column) rest))
    (u8 column ++ rest, field_spells.is_word row (u8 column ++ rest) fits.0, u8_spells.is_word column rest fits.1)
fields_word (Marker row) rest fits = field_spells.is_word row rest fits.0
fields_word (RowGone row) rest fits = field_spells.is_word row rest fits.0
fields_word (RangeGone from upto) rest fits =
    subst (λ (s : List ℕ). ArePlaceFields s (RangeGone from upto) rest) (sym (append_assoc (bound from) (bound upto) rest))
    (bound upto ++ rest, bound_word from (bound upto ++ rest) fits.0.0, bound_word upto rest fits.0.1)
fields_word PartGone rest fits = refl

fields_spelled : (bytes : List ℕ) (p : Place) (rest : List ℕ) → AreBytes bytes → ArePlaceFields bytes p rest → IsSpelled place_fields PlaceHasWord bytes p rest
fields_spelled bytes (Cell row column) rest are word =
    let r = field_spells.is_spelled bytes row word.0 are word.1 in
    let c = u8_spells.is_spelled word.0 column rest r.behind word.2 in
    record {
      parts = r.parts ∙ ap (λ (s : List ℕ). field row ++ s) c.parts ∙ sym (append_assoc (field row) (u8 column) rest);
      fits = (r.fits, c.fits);
      behind = c.behind;
    }
fields_spelled bytes (Marker row) rest are word =
    let r = field_spells.is_spelled bytes row rest are word in record { parts = r.parts; fits = (r.fits, tt); behind = r.behind }
fields_spelled bytes (RowGone row) rest are word =
    let r = field_spells.is_spelled bytes row rest are word in record { parts = r.parts; fits = (r.fits, tt); behind = r.behind }
fields_spelled bytes (RangeGone from upto) rest are word =
    let f = bound_spelled bytes from word.0 are word.1 in
    let u = bound_spelled word.0 upto rest f.behind word.2 in
    record {
      parts = f.parts ∙ ap (λ (s : List ℕ). bound from ++ s) u.parts ∙ sym (append_assoc (bound from) (bound upto) rest);
      fits = ((f.fits, u.fits), tt);
      behind = u.behind;
    }
fields_spelled bytes PartGone rest are word = record { parts = word; fits = (tt, tt); behind = subst AreBytes word are }

place_word : (p : Place) (rest : List ℕ) → PlaceHasWord p → IsPlace (place p ++ rest) p rest
place_word p rest fits = (place_fields p ++ rest, refl, fields_word p rest fits)

place_spelled : (bytes : List ℕ) (p : Place) (rest : List ℕ) → AreBytes bytes → IsPlace bytes p rest → IsSpelled place PlaceHasWord bytes p rest
place_spelled bytes p rest are word =
    let f = fields_spelled word.0 p rest (behind_are_bytes bytes (u8 (tag_of p)) word.0 word.1 are) word.2 in
    record { parts = word.1 ∙ ap (λ (s : List ℕ). tag_of p ∷ s) f.parts; fits = f.fits; behind = f.behind }

pub place_spells : Spells IsPlace place PlaceHasWord
place_spells = record { is_word = place_word; is_spelled = place_spelled }

-- ---- values

cell_spells : Spells (IsOptional IsField) (optional field) (Optionally FitsField)
cell_spells = optional_spells IsField field FitsField field_spells

from_cell : (v : Option (List ℕ)) → CellFits v → Optionally FitsField v
from_cell None fits = tt
from_cell (Some content) fits = fits

to_cell : (v : Option (List ℕ)) → Optionally FitsField v → CellFits v
to_cell None fits = tt
to_cell (Some content) fits = fits

value_word : (p : Place) (v : Option (List ℕ)) (rest : List ℕ) → ValueFits p v → IsValue p (value p v ++ rest) v rest
value_word (Cell row column) v rest fits = cell_spells.is_word v rest (from_cell v fits)
value_word (Marker row) v rest fits = (fits, refl)
value_word (RowGone row) v rest fits = (fits, refl)
value_word (RangeGone from upto) v rest fits = (fits, refl)
value_word PartGone v rest fits = (fits, refl)

value_spelled : (p : Place) (bytes : List ℕ) (v : Option (List ℕ)) (rest : List ℕ) → AreBytes bytes → IsValue p bytes v rest → IsSpelled (value p) (ValueFits p) bytes v rest
value_spelled (Cell row column) bytes v rest are word =
    let s = cell_spells.is_spelled bytes v rest are word in record { parts = s.parts; fits = to_cell v s.fits; behind = s.behind }
value_spelled (Marker row) bytes v rest are word = record { parts = word.1; fits = word.0; behind = subst AreBytes word.1 are }
value_spelled (RowGone row) bytes v rest are word = record { parts = word.1; fits = word.0; behind = subst AreBytes word.1 are }
value_spelled (RangeGone from upto) bytes v rest are word = record { parts = word.1; fits = word.0; behind = subst AreBytes word.1 are }
value_spelled PartGone bytes v rest are word = record { parts = word.1; fits = word.0; behind = subst AreBytes word.1 are }

-- ---- changes

abbrev pub ChangeHasWord : Held → Type 0
ChangeHasWord x = ChangeFits x × ChangeInRange x

abbrev five : List ℕ → List ℕ → List ℕ → List ℕ → List ℕ → List ℕ
five a b c d e = a ++ b ++ c ++ d ++ e

regroup_five : (a b c d e rest : List ℕ) → five a b c d e ++ rest ≡ a ++ (b ++ (c ++ (d ++ (e ++ rest))))
regroup_five a b c d e rest = simp append_assoc

change_word : (x : Held) (rest : List ℕ) → ChangeHasWord x → IsChange (change x ++ rest) x rest
change_word x rest fits =
    let behind_submitted : List ℕ = request x.request ++ rest in
    let behind_timestamp : List ℕ = u64 x.submitted ++ (request x.request ++ rest) in
    let behind_value : List ℕ = i64 x.timestamp ++ (u64 x.submitted ++ (request x.request ++ rest)) in
    let behind_place : List ℕ = value x.place x.value ++ (i64 x.timestamp ++ (u64 x.submitted ++ (request x.request ++ rest))) in
    let word : IsChange (place x.place ++ (value x.place x.value ++ (i64 x.timestamp ++ (u64 x.submitted ++ (request x.request ++ rest))))) x rest = record {
      behind_place = behind_place;
      behind_value = behind_value;
      behind_timestamp = behind_timestamp;
      behind_submitted = behind_submitted;
      place = place_word x.place behind_place (fits.0.place, fits.1.column);
      value = value_word x.place x.value behind_value fits.0.value;
      timestamp = i64_spells.is_word x.timestamp behind_timestamp fits.1.timestamp;
      submitted = u64_spells.is_word x.submitted behind_submitted fits.1.submitted;
      request = request_spells.is_word x.request rest fits.1.request;
    } in
    subst (λ (s : List ℕ). IsChange s x rest) (sym (regroup_five (place x.place) (value x.place x.value) (i64 x.timestamp) (u64 x.submitted) (request x.request) rest)) word

change_spelled : (bytes : List ℕ) (x : Held) (rest : List ℕ) → AreBytes bytes → IsChange bytes x rest → IsSpelled change ChangeHasWord bytes x rest
change_spelled bytes x rest are word =
    let p = place_spelled bytes x.place word.behind_place are word.place in
    let v = value_spelled x.place word.behind_place x.value word.behind_value p.behind word.value in
    let t = i64_spells.is_spelled word.behind_value x.timestamp word.behind_timestamp v.behind word.timestamp in
    let s = u64_spells.is_spelled word.behind_timestamp x.submitted word.behind_submitted t.behind word.submitted in
    let r = request_spells.is_spelled word.behind_submitted x.request rest s.behind word.request in
    record {
      parts = p.parts
          ∙ ap (λ (b : List ℕ). place x.place ++ b) (v.parts
          ∙ ap (λ (b : List ℕ). value x.place x.value ++ b) (t.parts
          ∙ ap (λ (b : List ℕ). i64 x.timestamp ++ b) (s.parts
          ∙ ap (λ (b : List ℕ). u64 x.submitted ++ b) r.parts)))
          ∙ sym (regroup_five (place x.place) (value x.place x.value) (i64 x.timestamp) (u64 x.submitted) (request x.request) rest);
      fits = (record { place = p.fits.0; value = v.fits }, record { column = p.fits.1; timestamp = t.fits; submitted = s.fits; request = r.fits });
      behind = r.behind;
    }

pub change_spells : Spells IsChange change ChangeHasWord
change_spells = record { is_word = change_word; is_spelled = change_spelled }

both : (xs : List Held) → AllByRecursion ChangeFits xs → AllByRecursion ChangeInRange xs → AllByRecursion ChangeHasWord xs
both [] fit range = tt
both (x ∷ xs) fit range = ((fit.0, range.0), both xs fit.1 range.1)

first_of_both : (xs : List Held) → AllByRecursion ChangeHasWord xs → AllByRecursion ChangeFits xs
first_of_both [] all = tt
first_of_both (x ∷ xs) all = (all.0.0, first_of_both xs all.1)

second_of_both : (xs : List Held) → AllByRecursion ChangeHasWord xs → AllByRecursion ChangeInRange xs
second_of_both [] all = tt
second_of_both (x ∷ xs) all = (all.0.1, second_of_both xs all.1)

each_spells : Spells (AreWords IsChange) (flat_map change) (AllByRecursion ChangeHasWord)
each_spells = words_spell IsChange change ChangeHasWord change_spells

changes_word : (xs : List Held) (rest : List ℕ) → ChangesHaveWord xs → AreChanges (changes xs ++ rest) xs rest
changes_word xs rest fits =
    let word : AreChanges (u32 (length xs) ++ (flat_map change xs ++ rest)) xs rest = record {
      behind_count = flat_map change xs ++ rest;
      count = u32_spells.is_word (length xs) (flat_map change xs ++ rest) fits.0.count;
      changes = each_spells.is_word xs rest (both xs fits.0.each fits.1);
      order = fits.0.order;
    } in
    subst (λ (s : List ℕ). AreChanges s xs rest) (sym (append_assoc (u32 (length xs)) (flat_map change xs) rest)) word

changes_spelled : (bytes : List ℕ) (xs : List Held) (rest : List ℕ) → AreBytes bytes → AreChanges bytes xs rest → IsSpelled changes ChangesHaveWord bytes xs rest
changes_spelled bytes xs rest are word =
    let n = u32_spells.is_spelled bytes (length xs) word.behind_count are word.count in
    let e = each_spells.is_spelled word.behind_count xs rest n.behind word.changes in
    record {
      parts = n.parts ∙ ap (λ (b : List ℕ). u32 (length xs) ++ b) e.parts ∙ sym (append_assoc (u32 (length xs)) (flat_map change xs) rest);
      fits = (record { count = n.fits; each = first_of_both xs e.fits; order = word.order }, second_of_both xs e.fits);
      behind = e.behind;
    }

pub changes_spell : Spells AreChanges changes ChangesHaveWord
changes_spell = record { is_word = changes_word; is_spelled = changes_spelled }

-- ---- mutations

abbrev pub PartitionHasWord : Partition → Type 0
PartitionHasWord p = FitsField p.key × PartitionInRange p

abbrev three : List ℕ → List ℕ → List ℕ → List ℕ
three a b c = a ++ b ++ c

regroup_three : (a b c rest : List ℕ) → three a b c ++ rest ≡ a ++ (b ++ (c ++ rest))
regroup_three a b c rest = simp append_assoc

partition_word : (p : Partition) (rest : List ℕ) → PartitionHasWord p → IsPartition (partition p ++ rest) p rest
partition_word p rest fits =
    let word : IsPartition (u16 p.table ++ (i64 p.token ++ (field p.key ++ rest))) p rest = record {
      behind_table = i64 p.token ++ (field p.key ++ rest);
      behind_token = field p.key ++ rest;
      table = u16_spells.is_word p.table (i64 p.token ++ (field p.key ++ rest)) fits.1.table;
      token = i64_spells.is_word p.token (field p.key ++ rest) fits.1.token;
      key = field_spells.is_word p.key rest fits.0;
    } in
    subst (λ (s : List ℕ). IsPartition s p rest) (sym (regroup_three (u16 p.table) (i64 p.token) (field p.key) rest)) word

partition_spelled : (bytes : List ℕ) (p : Partition) (rest : List ℕ) → AreBytes bytes → IsPartition bytes p rest → IsSpelled partition PartitionHasWord bytes p rest
partition_spelled bytes p rest are word =
    let t = u16_spells.is_spelled bytes p.table word.behind_table are word.table in
    let n = i64_spells.is_spelled word.behind_table p.token word.behind_token t.behind word.token in
    let k = field_spells.is_spelled word.behind_token p.key rest n.behind word.key in
    record {
      parts = t.parts ∙ ap (λ (b : List ℕ). u16 p.table ++ b) (n.parts ∙ ap (λ (b : List ℕ). i64 p.token ++ b) k.parts) ∙ sym (regroup_three (u16 p.table) (i64 p.token) (field p.key) rest);
      fits = (k.fits, record { table = t.fits; token = n.fits });
      behind = k.behind;
    }

pub partition_spells : Spells IsPartition partition PartitionHasWord
partition_spells = record { is_word = partition_word; is_spelled = partition_spelled }

mutation_word : (m : Mutation) (rest : List ℕ) → MutationHasWord m → IsMutation (mutation m ++ rest) m rest
mutation_word m rest fits =
    subst (λ (s : List ℕ). IsMutation s m rest) (sym (append_assoc (partition m.partition) (changes m.changes) rest))
    (record {
      behind_partition = changes m.changes ++ rest;
      partition = partition_word m.partition (changes m.changes ++ rest) (fits.0.key, fits.1.partition);
      changes = changes_word m.changes rest (fits.0.changes, fits.1.changes);
    })

mutation_spelled : (bytes : List ℕ) (m : Mutation) (rest : List ℕ) → AreBytes bytes → IsMutation bytes m rest → IsSpelled mutation MutationHasWord bytes m rest
mutation_spelled bytes m rest are word =
    let p = partition_spelled bytes m.partition word.behind_partition are word.partition in
    let c = changes_spelled word.behind_partition m.changes rest p.behind word.changes in
    record {
      parts = p.parts ∙ ap (λ (b : List ℕ). partition m.partition ++ b) c.parts ∙ sym (append_assoc (partition m.partition) (changes m.changes) rest);
      fits = (record { key = p.fits.0; changes = c.fits.0 }, record { partition = p.fits.1; changes = c.fits.1 });
      behind = c.behind;
    }

pub mutation_spells : Spells IsMutation mutation MutationHasWord
mutation_spells = record { is_word = mutation_word; is_spelled = mutation_spelled }
