-- Bytes are read exactly where they are UTF-8.
use Rattle.std.proofs.Common.{◌≡◌, sym, ap, ◌∙◌, Bool, true, false, cond, List, ℕ, Ok, Err, refl}
use Rattle.std.proofs.lemmas.Str.{is_utf8-from_IsUtf8, IsUtf8-from_is_utf8}
use Rattle.std.specs.Str.{IsUtf8, is_utf8}
use Rattle.std.specs.Str.Lossy.{utf8_valid_len}
use Rattle.cql_values.specs.declared.value.CqlValue.TheVariants as values
use Rattle.cql_values.specs.declared.error.ValueError.TheVariants as errors
use Rattle.cql_values.proofs.protocol.text.Goals as goal

no_utf8 : (bytes : List ℕ) → (IsUtf8 bytes → ⊥) → is_utf8 bytes ≡ false
no_utf8 bytes none = go (is_utf8 bytes) refl
  where
    go : (b : Bool) → is_utf8 bytes ≡ b → b ≡ false
    go true e = absurd (none (IsUtf8-from_is_utf8 bytes e))
    go false e = refl

pub returns-in_ok-from_str-in-Ok : goal.returns-in_ok-from_str-in-Ok
returns-in_ok-from_str-in-Ok c =
    let bytes = c.args.bytes.now in
    ap (λ (b : Bool). cond b (Ok (values.Text bytes)) (Err (errors.NotUtf8 (utf8_valid_len bytes)))) (is_utf8-from_IsUtf8 bytes c.in-Ok.ensures.cases.1)
    ∙ ap (λ (l : List ℕ). Ok (values.Text l)) (sym c.in-Ok.ensures.cases.0 ∙ sym c.in_ok-from_str-in-Ok.ensures)

pub returns-in-Err : goal.returns-in-Err
returns-in-Err c =
    let bytes = c.args.bytes.now in
    ap (λ (b : Bool). cond b (Ok (values.Text bytes)) (Err (errors.NotUtf8 (utf8_valid_len bytes)))) (no_utf8 bytes c.in-Err.ensures.cases.0)
    ∙ ap (λ (n : ℕ). Err (errors.NotUtf8 n)) (sym c.in-Err.ensures.valid_len ∙ sym c.valid_up_to.ensures)
