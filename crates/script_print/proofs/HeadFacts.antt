-- What holds of what a line of the head says: all that the printed head wants, to be read as the same.
use Rattle.std.proofs.Common.{◌≡◌, ℕ, ◌≤◌, Bool, true, false, List, [], ◌∷◌, Option, Some, None, Ok, Err, length, map, refl, ◌∙◌, cond, arith, leb, ℤ}
use Rattle.std.specs.Prelude.{◌&&◌, codes, IfOk, IfSome}
use Rattle.std.specs.List.{list_all}
use Rattle.std.specs.Str.{bytes_eq}
use Rattle.std.specs.Option.{option_map}
use Rattle.std.proofs.lemmas.Bool.{and_parts, leb-true}
use Rattle.std.proofs.lemmas.List.{length-map}
use Rattle.std.proofs.lemmas.List.Folds.{list_all-map}
use Rattle.fault_script.specs.declared.script.HeadStage.{HeadStage}
use Rattle.fault_script.specs.declared.script.HeadStage.TheVariants as stage
use Rattle.fault_script.specs.declared.script.HeadLine.{HeadLine}
use Rattle.fault_script.specs.declared.script.HeadLine.TheVariants as head
use Rattle.fault_script.specs.declared.script.Settings.{Settings}
use Rattle.fault_script.specs.declared.script.Fault.{Fault}
use Rattle.fault_script.specs.declared.script.Fault.TheVariants as fault
use Rattle.script_words.specs.Words.{words_of, behind, is_long, is_long_word, signed_value, is_signed_number, is_number, number_within}
use Rattle.fault_script.specs.Lines.{version_line, ring_line, ring_of, factor_line, first_settings, with_factor, is_first, with_grace, grace_line, with_expiry, expiry_line, run_line, later_line, option_line, head_words, head_of_words, statement_at, head_of, head_line, understood, are_apart, are_tokens, tokens_of}
use Rattle.script_print.proofs.Holding.{either_holds, some_where, understood_where, result_map_holds}
use Rattle.script_print.proofs.Bytes.{lacks}
use Rattle.script_print.proofs.NumberWords.{IsWithin}
use Rattle.script_print.proofs.EventFacts.{IsRest, number_fits, behind_fits}

-- ---- what holds

-- one to seven tokens within 64 bits, none twice
pub record IsFitRing (ring : List ℤ) : Type 0 where
  pub some : 1 ≤ length ring
  pub few : length ring ≤ 7
  pub long : list_all is_long ring ≡ true
  pub apart : are_apart ring ≡ true

-- a number within its bounds
abbrev pub Fits : ℕ → ℕ → ℕ → Type 0
Fits least most n = IsWithin least most n × (n ≤ most)

pub record IsFitSettings (settings : Settings) : Type 0 where
  pub ring : IsFitRing settings.ring
  pub factor : Fits 1 (length settings.ring) settings.factor
  pub grace : Fits 0 100000000 settings.grace
  pub expiry : Fits 1000 100000 settings.expiry

abbrev pub IsFitStage : HeadStage → Type 0
IsFitStage stage.Version = Unit {0}
IsFitStage stage.Ring = Unit {0}
IsFitStage (stage.Factor ring) = IsFitRing ring
IsFitStage (stage.Grace settings) = IsFitSettings settings
IsFitStage (stage.Expiry settings) = IsFitSettings settings
IsFitStage (stage.Schema settings) = IsFitSettings settings

abbrev pub IsFitLine : HeadLine → Type 0
IsFitLine (head.Next next) = IsFitStage next
IsFitLine (head.Schema settings text) = IsFitSettings settings × IsRest text
IsFitLine (head.Run settings) = IsFitSettings settings

version_fits : (words : List (List ℕ)) → IfOk (version_line words) IsFitStage
version_fits [] = tt
version_fits (word ∷ []) = tt
version_fits (word ∷ version ∷ []) = understood_where IsFitStage fault.Head (bytes_eq word (codes "cassandra-script") && bytes_eq version (codes "1")) (Some stage.Ring) (λ _. tt)
version_fits (word ∷ version ∷ more ∷ words) = tt

-- ---- the ring

words_fit : (words : List (List ℕ)) → are_tokens words ≡ true → list_all is_long_word words ≡ true → are_apart (map signed_value words) ≡ true → IsFitRing (map signed_value words)
words_fit words tokens long apart =
    let count = (and_parts (leb 1 (length words) && leb (length words) 7) (list_all is_signed_number words) tokens).0 in
    let bounds = and_parts (leb 1 (length words)) (leb (length words) 7) count in
    let some : 1 ≤ length words = leb-true 1 (length words) bounds.0 in
    let few : length words ≤ 7 = leb-true (length words) 7 bounds.1 in
    let same : length (map signed_value words) ≡ length words = length-map words signed_value in
    record { some = omega (arith, some, same); few = omega (arith, few, same); long = list_all-map is_long signed_value words ∙ long; apart = apart }

apart_fits : (ring : List ℤ) (apart : Bool) → (apart ≡ true → IsFitRing ring) → IfOk (cond apart (Ok (stage.Factor ring)) (Err fault.Head)) IsFitStage
apart_fits ring true is = is refl
apart_fits ring false is = tt

ring_of_fits : (f : Fault) (b : Bool) (ring : Option (List ℤ)) → (b ≡ true → IfSome ring (λ r. are_apart r ≡ true → IsFitRing r)) → IfOk (ring_of (understood f b ring)) IsFitStage
ring_of_fits f false ring h = tt
ring_of_fits f true None h = tt
ring_of_fits f true (Some ring) h = apart_fits ring (are_apart ring) (h refl)

ring_line_fits : (words : List (List ℕ)) → IfOk (ring_line words) IsFitStage
ring_line_fits [] = tt
ring_line_fits (word ∷ tokens) =
    ring_of_fits fault.Head (bytes_eq word (codes "ring") && are_tokens tokens) (tokens_of tokens)
    (λ is. some_where (λ (ring : List ℤ). are_apart ring ≡ true → IsFitRing ring) (list_all is_long_word tokens) (map signed_value tokens)
    (λ long apart. words_fit tokens (and_parts (bytes_eq word (codes "ring")) (are_tokens tokens) is).1 long apart))

-- ---- the settings

number_sets : (P : HeadStage → Type 0) (f : ℕ → HeadStage) (least most : ℕ) (number : Option ℕ) → IfSome number (Fits least most) → ((n : ℕ) → Fits least most n → P (f n)) → IfSome (option_map f number) P
number_sets P f least most None fits h = tt
number_sets P f least most (Some n) fits h = h n fits

first_fits : (ring : List ℤ) (factor : ℕ) → IsFitRing ring → Fits 1 (length ring) factor → IsFitSettings (first_settings ring factor)
first_fits ring factor is fits = record { ring = is; factor = fits; grace = (refl, omega arith); expiry = (refl, omega arith) }

factor_line_fits : (ring : List ℤ) (words : List (List ℕ)) → IsFitRing ring → IfOk (factor_line ring words) IsFitStage
factor_line_fits ring [] is = tt
factor_line_fits ring (word ∷ []) is = tt
factor_line_fits ring (word ∷ factor ∷ []) is =
    let number = number_within 1 (length ring) factor in
    understood_where IsFitStage fault.Head (bytes_eq word (codes "rf") && is_number factor) (option_map (with_factor ring) number)
    (λ _. number_sets IsFitStage (with_factor ring) 1 (length ring) number (number_fits 1 (length ring) factor) (λ n fits. first_fits ring n is fits))
factor_line_fits ring (word ∷ factor ∷ more ∷ words) is = tt

grace_line_fits : (settings : Settings) (words : List (List ℕ)) → IsFitSettings settings → IfOk (grace_line settings words) IsFitStage
grace_line_fits settings [] is = tt
grace_line_fits settings (word ∷ []) is = tt
grace_line_fits settings (word ∷ seconds ∷ []) is =
    let number = number_within 0 100000000 seconds in
    understood_where IsFitStage fault.Head (is_number seconds) (option_map (with_grace settings) number)
    (λ _. number_sets IsFitStage (with_grace settings) 0 100000000 number (number_fits 0 100000000 seconds) (λ n fits. record { ring = is.ring; factor = is.factor; grace = fits; expiry = is.expiry }))
grace_line_fits settings (word ∷ seconds ∷ more ∷ words) is = tt

expiry_line_fits : (settings : Settings) (words : List (List ℕ)) → IsFitSettings settings → IfOk (expiry_line settings words) IsFitStage
expiry_line_fits settings [] is = tt
expiry_line_fits settings (word ∷ []) is = tt
expiry_line_fits settings (word ∷ seconds ∷ []) is =
    let number = number_within 1000 100000 seconds in
    understood_where IsFitStage fault.Head (is_number seconds) (option_map (with_expiry settings) number)
    (λ _. number_sets IsFitStage (with_expiry settings) 1000 100000 number (number_fits 1000 100000 seconds) (λ n fits. record { ring = is.ring; factor = is.factor; grace = is.grace; expiry = fits }))
expiry_line_fits settings (word ∷ seconds ∷ more ∷ words) is = tt

run_line_fits : (settings : Settings) (words : List (List ℕ)) → IsFitSettings settings → IfOk (run_line settings words) IsFitLine
run_line_fits settings [] is = tt
run_line_fits settings (word ∷ []) is = understood_where IsFitLine fault.Head (bytes_eq word (codes "run")) (Some (head.Run settings)) (λ _. is)
run_line_fits settings (word ∷ more ∷ words) is = tt

later_line_fits : (settings : Settings) (words : List (List ℕ)) → IsFitSettings settings → IfOk (later_line settings words) IsFitLine
later_line_fits settings words is =
    either_holds IsFitLine (is_first (codes "expiry") words) _ _ (result_map_holds IsFitLine head.Next (expiry_line settings words) (expiry_line_fits settings words is)) (run_line_fits settings words is)

option_line_fits : (settings : Settings) (words : List (List ℕ)) → IsFitSettings settings → IfOk (option_line settings words) IsFitLine
option_line_fits settings words is =
    either_holds IsFitLine (is_first (codes "grace") words) _ _ (result_map_holds IsFitLine head.Next (grace_line settings words) (grace_line_fits settings words is)) (later_line_fits settings words is)

-- ---- a line

head_words_fit : (s : HeadStage) (words : List (List ℕ)) → IsFitStage s → IfOk (head_words s words) IsFitLine
head_words_fit stage.Version words is = result_map_holds IsFitLine head.Next (version_line words) (version_fits words)
head_words_fit stage.Ring words is = result_map_holds IsFitLine head.Next (ring_line words) (ring_line_fits words)
head_words_fit (stage.Factor ring) words is = result_map_holds IsFitLine head.Next (factor_line ring words) (factor_line_fits ring words is)
head_words_fit (stage.Grace settings) words is = option_line_fits settings words is
head_words_fit (stage.Expiry settings) words is = later_line_fits settings words is
head_words_fit (stage.Schema settings) words is = run_line_fits settings words is

some_words_fit : (s : HeadStage) (words : Option (List (List ℕ))) → IsFitStage s → IfOk (head_of_words s words) IsFitLine
some_words_fit s None is = tt
some_words_fit s (Some words) is = head_words_fit s words is

statement_fits : (s : HeadStage) (text : List ℕ) → IsFitStage s → IsRest text → IfOk (statement_at s text) IsFitLine
statement_fits stage.Version text is rest = tt
statement_fits stage.Ring text is rest = tt
statement_fits (stage.Factor ring) text is rest = tt
statement_fits (stage.Grace settings) text is rest = (is, rest)
statement_fits (stage.Expiry settings) text is rest = (is, rest)
statement_fits (stage.Schema settings) text is rest = (is, rest)

head_of_fits : (s : HeadStage) (line : List ℕ) (text : Option (List ℕ)) → IsFitStage s → IfSome text IsRest → IfOk (head_of s line text) IsFitLine
head_of_fits s line (Some text) is rest = statement_fits s text is rest
head_of_fits s line None is rest = some_words_fit s (words_of line) is

pub head_line_fits : (s : HeadStage) (line : List ℕ) → lacks 10 line ≡ true → IsFitStage s → IfOk (head_line s line) IsFitLine
head_line_fits s line inline is = head_of_fits s line (behind (codes "schema ") line) is (behind_fits (codes "schema ") line inline)
