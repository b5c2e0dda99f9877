-- The lines of the head are read as what they were printed of.
use Rattle.std.proofs.Common.{◌≡◌, ℕ, ◌^◌, ◌<◌, Bool, true, false, List, [], ◌∷◌, Option, Some, None, Ok, Err, length, map, refl, ◌∙◌, ap, arith, leb, ℤ}
use Rattle.std.specs.Prelude.{◌&&◌, codes}
use Rattle.std.specs.List.{list_all}
use Rattle.std.specs.Option.{option_map}
use Rattle.std.specs.Fmt.{decimal, signed_decimal}
use Rattle.std.proofs.lemmas.Bool.{and_from, and_parts, cond-true, le-leb}
use Rattle.std.proofs.lemmas.List.{length-map}
use Rattle.fault_script.specs.declared.script.HeadStage.{HeadStage}
use Rattle.fault_script.specs.declared.script.HeadStage.TheVariants as stage
use Rattle.fault_script.specs.declared.script.HeadLine.{HeadLine}
use Rattle.fault_script.specs.declared.script.HeadLine.TheVariants as head
use Rattle.fault_script.specs.declared.script.Settings.{Settings}
use Rattle.fault_script.specs.declared.script.Fault.TheVariants as fault
use Rattle.fault_script.specs.Lines as lines
use Rattle.script_words.specs.Words.{words_of, behind, is_long, is_long_word, signed_value, is_signed_number, is_number, number_within, is_text, is_skipped, without_spaces}
use Rattle.fault_script.specs.Lines.{ring_of, with_factor, with_grace, with_expiry, head_words, head_of_words, head_of, head_line, statement_at, result_map, understood, are_apart, are_tokens, tokens_of}
use Rattle.script_print.specs.Printed.{number_line, ring_line, schema_line}
use Rattle.script_print.proofs.Bytes.{lacks, utf8_is_text}
use Rattle.script_print.proofs.LineWords.{IsWord, AreWords, words_back, line_is_inline}
use Rattle.script_print.proofs.NumberWords.{decimal_is_word, decimal_is_number, within_back, signed_is_word, signed_is_number, signed_back, plain_word}
use Rattle.script_print.proofs.EventFacts.{IsRest}
use Rattle.script_print.proofs.HeadFacts.{IsFitRing, Fits}

-- a line of the head: it says this, has no line feed and is not passed over
pub record IsHeadLine (s : HeadStage) (line : List ℕ) (said : HeadLine) : Type 0 where
  pub says : head_line s line ≡ Ok said
  pub inline : lacks 10 line ≡ true
  pub read : is_skipped line ≡ false

pub version_back : IsHeadLine stage.Version (codes "cassandra-script 1") (head.Next stage.Ring)
version_back =
    let word : IsWord (codes "cassandra-script") = plain_word (codes "cassandra-script") refl in
    let are : AreWords (codes "1" ∷ []) = (plain_word (codes "1") refl, tt) in
    record { says = ap (head_of_words stage.Version) (words_back (codes "cassandra-script") (codes "1" ∷ []) word are); inline = refl; read = refl }

-- ---- the ring

tokens_are_words : (ring : List ℤ) → list_all is_long ring ≡ true → AreWords (map signed_decimal ring)
tokens_are_words [] long = tt
tokens_are_words (z ∷ ring) long = let parts = and_parts (is_long z) (list_all is_long ring) long in (signed_is_word z parts.0, tokens_are_words ring parts.1)

tokens_are_numbers : (ring : List ℤ) → list_all is_long ring ≡ true → list_all is_signed_number (map signed_decimal ring) ≡ true
tokens_are_numbers [] long = refl
tokens_are_numbers (z ∷ ring) long =
    let parts = and_parts (is_long z) (list_all is_long ring) long in
    and_from (is_signed_number (signed_decimal z)) (list_all is_signed_number (map signed_decimal ring)) (signed_is_number z parts.0) (tokens_are_numbers ring parts.1)

tokens_are_long : (ring : List ℤ) → list_all is_long ring ≡ true → list_all is_long_word (map signed_decimal ring) ≡ true
tokens_are_long [] long = refl
tokens_are_long (z ∷ ring) long =
    let parts = and_parts (is_long z) (list_all is_long ring) long in
    and_from (is_long_word (signed_decimal z)) (list_all is_long_word (map signed_decimal ring)) (ap is_long (signed_back z parts.0) ∙ parts.0) (tokens_are_long ring parts.1)

values_back : (ring : List ℤ) → list_all is_long ring ≡ true → map signed_value (map signed_decimal ring) ≡ ring
values_back [] long = refl
values_back (z ∷ ring) long =
    let parts = and_parts (is_long z) (list_all is_long ring) long in
    ap (λ (y : ℤ). y ∷ map signed_value (map signed_decimal ring)) (signed_back z parts.0) ∙ ap (λ (r : List ℤ). z ∷ r) (values_back ring parts.1)

pub ring_back : (ring : List ℤ) → IsFitRing ring → IsHeadLine stage.Ring (ring_line ring) (head.Next (stage.Factor ring))
ring_back ring is =
    let words = map signed_decimal ring in
    let word : IsWord (codes "ring") = plain_word (codes "ring") refl in
    let are = tokens_are_words ring is.long in
    let count : length words ≡ length ring = length-map ring signed_decimal in
    let some = is.some in
    let few = is.few in
    let tokens : are_tokens words ≡ true =
    and_from (leb 1 (length words) && leb (length words) 7) (list_all is_signed_number words) (and_from (leb 1 (length words)) (leb (length words) 7) (le-leb 1 (length words) (omega (arith, some, count))) (le-leb (length words) 7 (omega (arith, few, count)))) (tokens_are_numbers ring is.long) in
    let found : tokens_of words ≡ Some ring =
    cond-true (list_all is_long_word words) (Some (map signed_value words)) None (tokens_are_long ring is.long) ∙ ap (λ (r : List ℤ). Some r) (values_back ring is.long) in
    record {
      says = ap (head_of_words stage.Ring) (words_back (codes "ring") words word are)
          ∙ ap (λ (t : Bool). result_map head.Next (ring_of (understood fault.Head t (tokens_of words)))) tokens
          ∙ ap (λ (r : Option (List ℤ)). result_map head.Next (ring_of (understood fault.Head true r))) found
          ∙ ap (result_map head.Next) (cond-true (are_apart ring) (Ok (stage.Factor ring)) (Err fault.Head) is.apart);
      inline = line_is_inline (codes "ring") words word are;
      read = refl;
    }

-- ---- the settings

pub factor_back : (ring : List ℤ) (factor : ℕ) → IsFitRing ring → Fits 1 (length ring) factor → IsHeadLine (stage.Factor ring) (number_line (codes "rf") factor) (head.Next (with_factor ring factor))
factor_back ring factor is fits =
    let few = is.few in
    let most = fits.1 in
    let small : factor < 2 ^ 64 = omega (arith, few, most) in
    let word : IsWord (codes "rf") = plain_word (codes "rf") refl in
    let are : AreWords (decimal factor ∷ []) = (decimal_is_word factor small, tt) in
    record {
      says = ap (head_of_words (stage.Factor ring)) (words_back (codes "rf") (decimal factor ∷ []) word are)
          ∙ ap (λ (t : Bool). result_map head.Next (understood fault.Head t (option_map (with_factor ring) (number_within 1 (length ring) (decimal factor))))) (decimal_is_number factor small)
          ∙ ap (λ (n : Option ℕ). result_map head.Next (understood fault.Head true (option_map (with_factor ring) n))) (within_back 1 (length ring) factor small fits.0);
      inline = line_is_inline (codes "rf") (decimal factor ∷ []) word are;
      read = refl;
    }

pub grace_back : (settings : Settings) (grace : ℕ) → Fits 0 100000000 grace → IsHeadLine (stage.Grace settings) (number_line (codes "grace") grace) (head.Next (with_grace settings grace))
grace_back settings grace fits =
    let most = fits.1 in
    let small : grace < 2 ^ 64 = omega (arith, most) in
    let word : IsWord (codes "grace") = plain_word (codes "grace") refl in
    let are : AreWords (decimal grace ∷ []) = (decimal_is_word grace small, tt) in
    record {
      says = ap (head_of_words (stage.Grace settings)) (words_back (codes "grace") (decimal grace ∷ []) word are)
          ∙ ap (λ (t : Bool). result_map head.Next (understood fault.Head t (option_map (with_grace settings) (number_within 0 100000000 (decimal grace))))) (decimal_is_number grace small)
          ∙ ap (λ (n : Option ℕ). result_map head.Next (understood fault.Head true (option_map (with_grace settings) n))) (within_back 0 100000000 grace small fits.0);
      inline = line_is_inline (codes "grace") (decimal grace ∷ []) word are;
      read = refl;
    }

-- whether a line `expiry` may stand here, and for which settings
abbrev pub MayHaveExpiry : HeadStage → Settings → Type 0
MayHaveExpiry stage.Version settings = ⊥
MayHaveExpiry stage.Ring settings = ⊥
MayHaveExpiry (stage.Factor ring) settings = ⊥
MayHaveExpiry (stage.Grace found) settings = found ≡ settings
MayHaveExpiry (stage.Expiry found) settings = found ≡ settings
MayHaveExpiry (stage.Schema found) settings = ⊥

expiry_words : (settings : Settings) (expiry : ℕ) → expiry < 2 ^ 64 → Fits 1000 100000 expiry → lines.later_line settings (codes "expiry" ∷ decimal expiry ∷ []) ≡ Ok (head.Next (with_expiry settings expiry))
expiry_words settings expiry small fits =
    ap (λ (t : Bool). result_map head.Next (understood fault.Head t (option_map (with_expiry settings) (number_within 1000 100000 (decimal expiry))))) (decimal_is_number expiry small)
    ∙ ap (λ (n : Option ℕ). result_map head.Next (understood fault.Head true (option_map (with_expiry settings) n))) (within_back 1000 100000 expiry small fits.0)

expiry_at : (s : HeadStage) (settings : Settings) (expiry : ℕ) → MayHaveExpiry s settings → expiry < 2 ^ 64 → Fits 1000 100000 expiry → head_words s (codes "expiry" ∷ decimal expiry ∷ []) ≡ Ok (head.Next (with_expiry settings expiry))
expiry_at stage.Version settings expiry may small fits = absurd may
expiry_at stage.Ring settings expiry may small fits = absurd may
expiry_at (stage.Factor ring) settings expiry may small fits = absurd may
expiry_at (stage.Grace found) settings expiry may small fits = expiry_words found expiry small fits ∙ ap (λ (s : Settings). Ok (head.Next (with_expiry s expiry))) may
expiry_at (stage.Expiry found) settings expiry may small fits = expiry_words found expiry small fits ∙ ap (λ (s : Settings). Ok (head.Next (with_expiry s expiry))) may
expiry_at (stage.Schema found) settings expiry may small fits = absurd may

pub expiry_back : (s : HeadStage) (settings : Settings) (expiry : ℕ) → MayHaveExpiry s settings → Fits 1000 100000 expiry → IsHeadLine s (number_line (codes "expiry") expiry) (head.Next (with_expiry settings expiry))
expiry_back s settings expiry may fits =
    let most = fits.1 in
    let small : expiry < 2 ^ 64 = omega (arith, most) in
    let word : IsWord (codes "expiry") = plain_word (codes "expiry") refl in
    let are : AreWords (decimal expiry ∷ []) = (decimal_is_word expiry small, tt) in
    record {
      says = ap (head_of_words s) (words_back (codes "expiry") (decimal expiry ∷ []) word are) ∙ expiry_at s settings expiry may small fits;
      inline = line_is_inline (codes "expiry") (decimal expiry ∷ []) word are;
      read = refl;
    }

-- ---- the schema

-- what the lines so far say
abbrev pub HasSettings : HeadStage → Settings → Type 0
HasSettings stage.Version settings = ⊥
HasSettings stage.Ring settings = ⊥
HasSettings (stage.Factor ring) settings = ⊥
HasSettings (stage.Grace found) settings = found ≡ settings
HasSettings (stage.Expiry found) settings = found ≡ settings
HasSettings (stage.Schema found) settings = found ≡ settings

statement_says : (s : HeadStage) (settings : Settings) (text : List ℕ) → HasSettings s settings → statement_at s text ≡ Ok (head.Schema settings text)
statement_says stage.Version settings text has = absurd has
statement_says stage.Ring settings text has = absurd has
statement_says (stage.Factor ring) settings text has = absurd has
statement_says (stage.Grace found) settings text has = ap (λ (s : Settings). Ok (head.Schema s text)) has
statement_says (stage.Expiry found) settings text has = ap (λ (s : Settings). Ok (head.Schema s text)) has
statement_says (stage.Schema found) settings text has = ap (λ (s : Settings). Ok (head.Schema s text)) has

pub statement_back : (s : HeadStage) (settings : Settings) (text : List ℕ) → HasSettings s settings → IsRest text → IsHeadLine s (schema_line text) (head.Schema settings text)
statement_back s settings text has is =
    let found : behind (codes "schema ") (schema_line text) ≡ Some text =
    cond-true (is_text text) (Some (without_spaces text)) None (utf8_is_text text is.text) ∙ ap (λ (t : List ℕ). Some t) is.trimmed in
    record { says = ap (head_of s (schema_line text)) found ∙ statement_says s settings text has; inline = is.inline; read = refl }

run_says : (s : HeadStage) (settings : Settings) → HasSettings s settings → head_words s (codes "run" ∷ []) ≡ Ok (head.Run settings)
run_says stage.Version settings has = absurd has
run_says stage.Ring settings has = absurd has
run_says (stage.Factor ring) settings has = absurd has
run_says (stage.Grace found) settings has = ap (λ (s : Settings). Ok (head.Run s)) has
run_says (stage.Expiry found) settings has = ap (λ (s : Settings). Ok (head.Run s)) has
run_says (stage.Schema found) settings has = ap (λ (s : Settings). Ok (head.Run s)) has

pub run_back : (s : HeadStage) (settings : Settings) → HasSettings s settings → IsHeadLine s (codes "run") (head.Run settings)
run_back s settings has =
    record { says = ap (head_of_words s) (words_back (codes "run") [] (plain_word (codes "run") refl) tt) ∙ run_says s settings has; inline = refl; read = refl }
