-- What the lines of the head give is a ring, a factor of its, and an expiry within its bounds.
use Rattle.std.proofs.Common.{◌≡◌, ℕ, zero, suc, ◌^◌, ◌≤◌, Bool, true, false, List, [], ◌∷◌, Option, Some, None, Result, Ok, Err, length, map, refl, cond, subst, arith, leb, FitsSigned, w64, ℤ, pos, negsuc}
use Rattle.std.specs.Prelude.{◌&&◌, codes, IfOk, IfSome}
use Rattle.std.specs.List.{list_all}
use Rattle.std.specs.Str.{bytes_eq}
use Rattle.std.specs.Option.{option_map}
use Rattle.std.proofs.lemmas.Bool.{and_parts, leb-true, ltb-true}
use Rattle.std.proofs.lemmas.List.{length-map}
use Rattle.cs_base.specs.Ring.{AreTokens, IsRing}
use Rattle.fault_script.specs.declared.script.HeadStage.{HeadStage}
use Rattle.fault_script.specs.declared.script.HeadStage.TheVariants as stage
use Rattle.fault_script.specs.declared.script.HeadLine.{HeadLine}
use Rattle.fault_script.specs.declared.script.HeadLine.TheVariants as head
use Rattle.fault_script.specs.declared.script.Settings.{Settings}
use Rattle.fault_script.specs.declared.script.Fault.{Fault}
use Rattle.fault_script.specs.declared.script.Fault.TheVariants as fault
use Rattle.script_words.specs.Words.{words_of, behind, is_long, is_long_word, signed_value, is_signed_number, is_number, number_value, number_within}
use Rattle.fault_script.specs.Lines.{version_line, ring_line, ring_of, factor_line, with_factor, is_first, with_grace, grace_line, with_expiry, expiry_line, run_line, later_line, option_line, head_words, head_of_words, statement_at, head_of, head_line, understood, are_apart, are_tokens, tokens_of}
use Rattle.fault_script.proofs.Apart.{passing_apart}
use Rattle.fault_script.proofs.Holding.{either_holds, some_where, understood_where, option_map_holds, result_map_holds}

-- a factor from 1 to the number of nodes, and an expiry from 1,000 to 100,000 seconds
pub record AreSettings (tokens : List ℤ) (factor expiry : ℕ) : Type 0 where
  pub ring : IsRing tokens
  pub some : 1 ≤ factor
  pub few : factor ≤ length tokens
  pub least : 1000 ≤ expiry
  pub most : expiry ≤ 100000

-- what the lines found so far say
abbrev pub Knows : HeadStage → Type 0
Knows stage.Version = Unit {0}
Knows stage.Ring = Unit {0}
Knows (stage.Factor ring) = IsRing ring
Knows (stage.Grace settings) = AreSettings settings.ring settings.factor settings.expiry
Knows (stage.Expiry settings) = AreSettings settings.ring settings.factor settings.expiry
Knows (stage.Schema settings) = AreSettings settings.ring settings.factor settings.expiry

-- and what a line says
abbrev pub Says : HeadLine → Type 0
Says (head.Next next) = Knows next
Says (head.Schema settings text) = AreSettings settings.ring settings.factor settings.expiry
Says (head.Run settings) = AreSettings settings.ring settings.factor settings.expiry

version_holds : (words : List (List ℕ)) → IfOk (version_line words) Knows
version_holds [] = tt
version_holds (word ∷ []) = tt
version_holds (word ∷ version ∷ []) = understood_where Knows fault.Head (bytes_eq word (codes "cassandra-script") && bytes_eq version (codes "1")) (Some stage.Ring) (λ _. tt)
version_holds (word ∷ version ∷ more ∷ words) = tt

-- ---- the ring

fits_from : (z : ℤ) → is_long z ≡ true → FitsSigned w64 z
fits_from (pos n) h = record { sfits = ltb-true n (2 ^ 63) h }
fits_from (negsuc n) h = record { sfits = ltb-true n (2 ^ 63) h }

tokens_fit : (words : List (List ℕ)) → list_all is_long_word words ≡ true → AreTokens (map signed_value words)
tokens_fit [] long k t h = cc
tokens_fit (word ∷ words) long zero t h =
    let parts = and_parts (is_long_word word) (list_all is_long_word words) long in
    subst (λ (z : Option ℤ). IfSome z (FitsSigned w64)) h (fits_from (signed_value word) parts.0)
tokens_fit (word ∷ words) long (suc k) t h = tokens_fit words (and_parts (is_long_word word) (list_all is_long_word words) long).1 k t h

ring_holds : (words : List (List ℕ)) → are_tokens words ≡ true → list_all is_long_word words ≡ true → are_apart (map signed_value words) ≡ true → IsRing (map signed_value words)
ring_holds words tokens long apart =
    let count = (and_parts (leb 1 (length words) && leb (length words) 7) (list_all is_signed_number words) tokens).0 in
    let bounds = and_parts (leb 1 (length words)) (leb (length words) 7) count in
    let some : 1 ≤ length words = leb-true 1 (length words) bounds.0 in
    let few : length words ≤ 7 = leb-true (length words) 7 bounds.1 in
    let same : length (map signed_value words) ≡ length words = length-map words signed_value in
    record {
      some = omega (arith, some, same);
      few = omega (arith, few, same);
      tokens = tokens_fit words long;
      apart = passing_apart (map signed_value words) apart;
    }

abbrev passed : List ℤ → Bool → Result HeadStage Fault
passed ring apart = cond apart (Ok (stage.Factor ring)) (Err fault.Head)

passing_holds : (ring : List ℤ) (apart : Bool) → (apart ≡ true → IsRing ring) → IfOk (passed ring apart) Knows
passing_holds ring true is = is refl
passing_holds ring false is = tt

apart_holds : (f : Fault) (b : Bool) (ring : Option (List ℤ)) → (b ≡ true → IfSome ring (λ r. are_apart r ≡ true → IsRing r)) → IfOk (ring_of (understood f b ring)) Knows
apart_holds f false ring h = tt
apart_holds f true None h = tt
apart_holds f true (Some ring) h = passing_holds ring (are_apart ring) (h refl)

ring_line_holds : (words : List (List ℕ)) → IfOk (ring_line words) Knows
ring_line_holds [] = tt
ring_line_holds (word ∷ tokens) =
    apart_holds fault.Head (bytes_eq word (codes "ring") && are_tokens tokens) (tokens_of tokens)
    (λ is. some_where (λ (ring : List ℤ). are_apart ring ≡ true → IsRing ring) (list_all is_long_word tokens) (map signed_value tokens)
    (λ long apart. ring_holds tokens (and_parts (bytes_eq word (codes "ring")) (are_tokens tokens) is).1 long apart))

-- ---- the factor

factor_holds : (ring : List ℤ) (word : List ℕ) → IsRing ring → IfSome (number_within 1 (length ring) word) (λ n. AreSettings ring n 10800)
factor_holds ring word is =
    let n = number_value word in
    some_where (λ (factor : ℕ). AreSettings ring factor 10800) (leb 1 n && leb n (length ring)) n (λ within.
    let parts = and_parts (leb 1 n) (leb n (length ring)) within in
    record { ring = is; some = leb-true 1 n parts.0; few = leb-true n (length ring) parts.1; least = omega arith; most = omega arith })

factor_line_holds : (ring : List ℤ) (words : List (List ℕ)) → IsRing ring → IfOk (factor_line ring words) Knows
factor_line_holds ring [] is = tt
factor_line_holds ring (word ∷ []) is = tt
factor_line_holds ring (word ∷ factor ∷ []) is =
    understood_where Knows fault.Head (bytes_eq word (codes "rf") && is_number factor) (option_map (with_factor ring) (number_within 1 (length ring) factor))
    (λ _. option_map_holds Knows (with_factor ring) (number_within 1 (length ring) factor) (factor_holds ring factor is))
factor_line_holds ring (word ∷ factor ∷ more ∷ words) is = tt

-- ---- what may stand behind it

-- whatever the number, if there is one
some_number : (P : HeadStage → Type 0) (f : ℕ → HeadStage) (number : Option ℕ) → ((n : ℕ) → P (f n)) → IfSome (option_map f number) P
some_number P f None h = tt
some_number P f (Some n) h = h n

grace_line_holds : (settings : Settings) (words : List (List ℕ)) → AreSettings settings.ring settings.factor settings.expiry → IfOk (grace_line settings words) Knows
grace_line_holds settings [] is = tt
grace_line_holds settings (word ∷ []) is = tt
grace_line_holds settings (word ∷ seconds ∷ []) is =
    understood_where Knows fault.Head (is_number seconds) (option_map (with_grace settings) (number_within 0 100000000 seconds)) (λ _. some_number Knows (with_grace settings) (number_within 0 100000000 seconds) (λ n. is))
grace_line_holds settings (word ∷ seconds ∷ more ∷ words) is = tt

-- 1,000 to 100,000 seconds
expiry_holds : (settings : Settings) (word : List ℕ) → AreSettings settings.ring settings.factor settings.expiry → IfSome (number_within 1000 100000 word) (AreSettings settings.ring settings.factor)
expiry_holds settings word is =
    let n = number_value word in
    some_where (AreSettings settings.ring settings.factor) (leb 1000 n && leb n 100000) n (λ within.
    let parts = and_parts (leb 1000 n) (leb n 100000) within in
    record { ring = is.ring; some = is.some; few = is.few; least = leb-true 1000 n parts.0; most = leb-true n 100000 parts.1 })

expiry_line_holds : (settings : Settings) (words : List (List ℕ)) → AreSettings settings.ring settings.factor settings.expiry → IfOk (expiry_line settings words) Knows
expiry_line_holds settings [] is = tt
expiry_line_holds settings (word ∷ []) is = tt
expiry_line_holds settings (word ∷ seconds ∷ []) is =
    understood_where Knows fault.Head (is_number seconds) (option_map (with_expiry settings) (number_within 1000 100000 seconds)) (λ _. option_map_holds Knows (with_expiry settings) (number_within 1000 100000 seconds) (expiry_holds settings seconds is))
expiry_line_holds settings (word ∷ seconds ∷ more ∷ words) is = tt

run_line_holds : (settings : Settings) (words : List (List ℕ)) → AreSettings settings.ring settings.factor settings.expiry → IfOk (run_line settings words) Says
run_line_holds settings [] is = tt
run_line_holds settings (word ∷ []) is = understood_where Says fault.Head (bytes_eq word (codes "run")) (Some (head.Run settings)) (λ _. is)
run_line_holds settings (word ∷ more ∷ words) is = tt

later_line_holds : (settings : Settings) (words : List (List ℕ)) → AreSettings settings.ring settings.factor settings.expiry → IfOk (later_line settings words) Says
later_line_holds settings words is =
    either_holds Says (is_first (codes "expiry") words) _ _ (result_map_holds Says head.Next (expiry_line settings words) (expiry_line_holds settings words is)) (run_line_holds settings words is)

option_line_holds : (settings : Settings) (words : List (List ℕ)) → AreSettings settings.ring settings.factor settings.expiry → IfOk (option_line settings words) Says
option_line_holds settings words is =
    either_holds Says (is_first (codes "grace") words) _ _ (result_map_holds Says head.Next (grace_line settings words) (grace_line_holds settings words is)) (later_line_holds settings words is)

head_words_hold : (s : HeadStage) (words : List (List ℕ)) → Knows s → IfOk (head_words s words) Says
head_words_hold stage.Version words knows = result_map_holds Says head.Next (version_line words) (version_holds words)
head_words_hold stage.Ring words knows = result_map_holds Says head.Next (ring_line words) (ring_line_holds words)
head_words_hold (stage.Factor ring) words knows = result_map_holds Says head.Next (factor_line ring words) (factor_line_holds ring words knows)
head_words_hold (stage.Grace settings) words knows = option_line_holds settings words knows
head_words_hold (stage.Expiry settings) words knows = later_line_holds settings words knows
head_words_hold (stage.Schema settings) words knows = run_line_holds settings words knows

words_hold : (s : HeadStage) (words : Option (List (List ℕ))) → Knows s → IfOk (head_of_words s words) Says
words_hold s None knows = tt
words_hold s (Some words) knows = head_words_hold s words knows

statement_holds : (s : HeadStage) (text : List ℕ) → Knows s → IfOk (statement_at s text) Says
statement_holds stage.Version text knows = tt
statement_holds stage.Ring text knows = tt
statement_holds (stage.Factor ring) text knows = tt
statement_holds (stage.Grace settings) text knows = knows
statement_holds (stage.Expiry settings) text knows = knows
statement_holds (stage.Schema settings) text knows = knows

head_holds : (s : HeadStage) (line : List ℕ) (text : Option (List ℕ)) → Knows s → IfOk (head_of s line text) Says
head_holds s line (Some text) knows = statement_holds s text knows
head_holds s line None knows = words_hold s (words_of line) knows

pub head_line_holds : (s : HeadStage) (line : List ℕ) → Knows s → IfOk (head_line s line) Says
head_line_holds s line knows = head_holds s line (behind (codes "schema ") line) knows
