use Rattle.std.proofs.Common.{◌≡◌, sym, ap, Bool, true, false, cond, List, ℕ, Result, Ok, Err, refl}
use Rattle.std.specs.Prelude.{is_ok}
use Rattle.std.proofs.lemmas.Str.{is_utf8-from_IsUtf8, IsUtf8-from_is_utf8}
use Rattle.std.specs.Str.{IsUtf8, is_utf8}
use Rattle.std.specs.Str.Lossy.{utf8_valid_len}
use Rattle.cql_values.specs.declared.error.ValueError.{ValueError}
use Rattle.cql_values.specs.declared.error.ValueError.TheVariants as errors
use Rattle.cql_values.specs.declared.value.CqlValue.{CqlValue}
use Rattle.cql_values.specs.declared.value.CqlValue.TheVariants as values
use Rattle.prepared_statement.proofs.faults.is_text.Goals as goal

abbrev text_if : List ℕ → Bool → Result CqlValue ValueError
text_if bytes b = cond b (Ok (values.Text bytes)) (Err (errors.NotUtf8 (utf8_valid_len bytes)))

no_utf8 : (bytes : List ℕ) → (IsUtf8 bytes → ⊥) → is_utf8 bytes ≡ false
no_utf8 bytes none = go (is_utf8 bytes) refl
  where
    go : (b : Bool) → is_utf8 bytes ≡ b → b ≡ false
    go true e = absurd (none (IsUtf8-from_is_utf8 bytes e))
    go false e = refl

pub returns-in-Ok : goal.returns-in-Ok
returns-in-Ok c = sym (ap (λ (b : Bool). is_ok (text_if c.args.bytes.now b)) (is_utf8-from_IsUtf8 c.args.bytes.now c.in-Ok.ensures.cases.1))

pub returns-in-Err : goal.returns-in-Err
returns-in-Err c = sym (ap (λ (b : Bool). is_ok (text_if c.args.bytes.now b)) (no_utf8 c.args.bytes.now c.in-Err.ensures.cases.0))
