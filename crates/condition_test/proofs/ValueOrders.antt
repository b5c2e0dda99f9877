-- The bytes of values compare as the values do.
use Rattle.std.proofs.Common.{◌≡◌, ◌<◌, ◌^◌, ℕ, false, [], ◌++◌, Some, Result, Ok, refl, sym, ap, ◌∙◌, append-nil}
use Rattle.std.specs.Int.{w64, w128, to_be_bytes}
use Rattle.std.specs.Ordering.{nat_cmp, int_cmp, bool_cmp, ordering_then}
use Rattle.std.specs.Cmp.Lexicographic.{slice_cmp}
use Rattle.std.specs.declared.cmp.Ordering.{Ordering}
use Rattle.std.specs.declared.cmp.Ordering.TheVariants.{Less, Equal, Greater}
use Rattle.cql_values.specs.Order.{KeepsOrder, ascending_word, value_order}
use Rattle.cql_values.specs.Protocol.{decoded, value_bytes}
use Rattle.cql_values.specs.Value.{type_of, IsValue, uuid_time}
use Rattle.cql_values.specs.declared.error.ValueError.{ValueError}
use Rattle.statement_plan.specs.declared.operation.ValueOrder.TheVariants as order
use Rattle.cql_values.specs.declared.value.CqlValue.{CqlValue}
use Rattle.cql_values.specs.declared.value.CqlValue.TheVariants as values
use Rattle.condition_test.specs.Conditions.{time_of, value_cmp}
use Rattle.condition_test.specs.Laws.{ComparesAsValues}

then_equal : (o : Ordering) → ordering_then o Equal ≡ o
then_equal Less = refl
then_equal Equal = refl
then_equal Greater = refl

-- the words of a column in ascending order, with nothing behind them
kept : KeepsOrder → (v w : CqlValue) (o : Ordering) → IsValue v → IsValue w → value_order v w ≡ Some o → slice_cmp nat_cmp (ascending_word v) (ascending_word w) ≡ o
kept keeps v w o fits_v fits_w h =
    (λ i. slice_cmp nat_cmp (sym (append-nil (ascending_word v)) i) (sym (append-nil (ascending_word w)) i))
    ∙ keeps false v w o [] [] fits_v fits_w h
    ∙ then_equal o

-- each value is decoded from its bytes
abbrev pub Decodes : Type 0
Decodes = (v : CqlValue) → IsValue v → decoded (type_of v) (value_bytes v) ≡ Ok v

same_uuid : {a b : ℕ} → ◌≡◌ {A = Result CqlValue ValueError} (Ok (values.Uuid a)) (Ok (values.Uuid b)) → a ≡ b
same_uuid h = cc

time_is : Decodes → (uuid : ℕ) → uuid < 2 ^ 128 → time_of (to_be_bytes w128 uuid) ≡ uuid_time uuid
time_is decodes uuid small = ap uuid_time (same_uuid (decodes (values.Uuid uuid) small))

timed : KeepsOrder → Decodes → (a b : ℕ) → IsValue (values.Timeuuid a) → IsValue (values.Timeuuid b)
    → value_order (values.Timeuuid a) (values.Timeuuid b) ≡ Some (value_cmp order.Time (to_be_bytes w128 a) (to_be_bytes w128 b))
timed keeps decodes a b fits_a fits_b =
    let at_a = sym (time_is decodes a fits_a.0) in
    let at_b = sym (time_is decodes b fits_b.0) in
    let o = ordering_then (nat_cmp (uuid_time a) (uuid_time b)) (nat_cmp a b) in
    ap Some (sym (kept keeps (values.Timeuuid a) (values.Timeuuid b) o fits_a fits_b refl))
    ∙ (λ i. Some (slice_cmp nat_cmp (to_be_bytes w64 (at_a i) ++ to_be_bytes w128 a) (to_be_bytes w64 (at_b i) ++ to_be_bytes w128 b)))

pub compares : KeepsOrder → Decodes → ComparesAsValues
compares keeps decodes (values.Ascii a) (values.Ascii b) fits_a fits_b same other = refl
compares keeps decodes (values.Bigint a) (values.Bigint b) fits_a fits_b same other = ap Some (sym (kept keeps (values.Bigint a) (values.Bigint b) (int_cmp a b) fits_a fits_b refl))
compares keeps decodes (values.Blob a) (values.Blob b) fits_a fits_b same other = refl
compares keeps decodes (values.Boolean a) (values.Boolean b) fits_a fits_b same other = ap Some (sym (kept keeps (values.Boolean a) (values.Boolean b) (bool_cmp a b) fits_a fits_b refl))
compares keeps decodes (values.Int a) (values.Int b) fits_a fits_b same other = ap Some (sym (kept keeps (values.Int a) (values.Int b) (int_cmp a b) fits_a fits_b refl))
compares keeps decodes (values.Timestamp a) (values.Timestamp b) fits_a fits_b same other = ap Some (sym (kept keeps (values.Timestamp a) (values.Timestamp b) (int_cmp a b) fits_a fits_b refl))
compares keeps decodes (values.Uuid a) w fits_a fits_b same other = absurd (other refl)
compares keeps decodes (values.Text a) (values.Text b) fits_a fits_b same other = refl
compares keeps decodes (values.Timeuuid a) (values.Timeuuid b) fits_a fits_b same other = timed keeps decodes a b fits_a fits_b
compares keeps decodes (values.Smallint a) (values.Smallint b) fits_a fits_b same other = ap Some (sym (kept keeps (values.Smallint a) (values.Smallint b) (int_cmp a b) fits_a fits_b refl))
compares keeps decodes (values.Tinyint a) (values.Tinyint b) fits_a fits_b same other = ap Some (sym (kept keeps (values.Tinyint a) (values.Tinyint b) (int_cmp a b) fits_a fits_b refl))
compares keeps decodes v w fits_a fits_b same other = absurd (cc)
