-- Names in quotes, character by character.
use Rattle.std.proofs.Common.{◌≡◌, ℕ, Bool, true, false, List, [], ◌∷◌, ◌++◌, length, Option, Some, None, refl, sym, ap, ◌∙◌, subst, append_assoc, append-nil, cond, eq-eqb, arith}
use Rattle.std.specs.Prelude.{MatchOption, encode_utf8}
use Rattle.std.specs.Str.{chars, IsUtf8, encode_utf8_all}
use Rattle.std.specs.declared.str.Chars.{Chars}
use Rattle.std.proofs.lemmas.Str.{chars_past_char, chars-nil, IsUtf8-past_char}
use Rattle.std.proofs.lemmas.Bool.{ne_eqb}
use Rattle.cql_parser.specs.Grammar.{unquoted, unquoted_from}

pub record Begun (word rest : List ℕ) : Type 0 where
  pub content : encode_utf8_all (unquoted_from false (chars rest)) ≡ encode_utf8_all (unquoted (chars word))
  pub text : IsUtf8 rest

nothing : (xs : List ℕ) → length xs ≡ 0 → xs ≡ []
nothing [] h = refl
nothing (x ∷ xs) h = absurd (omega (arith, h))

-- behind the first character
pub begun : (r : Option ℕ) (word : List ℕ) (s t : Chars) → IsUtf8 word → s.rest.now ≡ word
    → MatchOption r ((length s.rest.now ≡ 0) × (t ≡ s)) (λ c. s.rest.now ≡ encode_utf8 c ++ t.rest.now) → Begun word t.rest.now
begun None word s t u e h =
    let same : t.rest.now ≡ word = ap (λ (x : Chars). x.rest.now) h.1 ∙ e in
    let empty : word ≡ [] = nothing word (ap length (sym e) ∙ h.0) in
    subst (λ (x : List ℕ). Begun word x) (sym same)
    (record {
      content = ap (λ (x : List ℕ). encode_utf8_all (unquoted_from false (chars x))) empty ∙ ap (λ (x : List ℕ). encode_utf8_all (unquoted_from false x)) chars-nil
          ∙ sym (ap (λ (x : List ℕ). encode_utf8_all (unquoted (chars x))) empty ∙ ap (λ (x : List ℕ). encode_utf8_all (unquoted x)) chars-nil);
      text = u;
    })
begun (Some c) word s t u e h =
    let at : word ≡ encode_utf8 c ++ t.rest.now = sym e ∙ h in
    record {
      content = sym (ap (λ (x : List ℕ). encode_utf8_all (unquoted x)) (chars_past_char word t.rest.now c u at));
      text = IsUtf8-past_char word t.rest.now c u at;
    }

-- a quote that may be the first of two
pub past_quote : (done all rest goal : List ℕ) (c : ℕ) (flag : Bool) → IsUtf8 all → all ≡ encode_utf8 c ++ rest → c ≡ 34 → flag ≡ false
    → done ++ encode_utf8_all (unquoted_from flag (chars all)) ≡ goal → done ++ encode_utf8_all (unquoted_from true (chars rest)) ≡ goal
past_quote done all rest goal c true u e is off h = absurd (cc)
past_quote done all rest goal c false u e is off h =
    ap (λ (x : List ℕ). done ++ encode_utf8_all x)
    (sym (ap (unquoted_from false) (chars_past_char all rest c u e) ∙ ap (λ (n : Bool). cond n (unquoted_from true (chars rest)) (c ∷ unquoted_from false (chars rest))) (eq-eqb c 34 is)))
    ∙ h

-- another character
pub past_other : (done new all rest goal : List ℕ) (c : ℕ) (flag : Bool) → IsUtf8 all → all ≡ encode_utf8 c ++ rest → (flag ≡ false → c ≡ 34 → ⊥)
    → new ≡ done ++ encode_utf8 c
    → done ++ encode_utf8_all (unquoted_from flag (chars all)) ≡ goal → new ++ encode_utf8_all (unquoted_from false (chars rest)) ≡ goal
past_other done new all rest goal c true u e other added h =
    ap (λ (x : List ℕ). x ++ encode_utf8_all (unquoted_from false (chars rest))) added
    ∙ append_assoc done (encode_utf8 c) _
    ∙ sym (ap (λ (x : List ℕ). done ++ encode_utf8_all (unquoted_from true x)) (chars_past_char all rest c u e))
    ∙ h
past_other done new all rest goal c false u e other added h =
    ap (λ (x : List ℕ). x ++ encode_utf8_all (unquoted_from false (chars rest))) added
    ∙ append_assoc done (encode_utf8 c) _
    ∙ sym (ap (λ (x : List ℕ). done ++ encode_utf8_all (unquoted_from false x)) (chars_past_char all rest c u e)
    ∙ ap (λ (n : Bool). done ++ encode_utf8_all (cond n (unquoted_from true (chars rest)) (c ∷ unquoted_from false (chars rest)))) (ne_eqb c 34 (other refl)))
    ∙ h

-- the end
pub at_end : (done all goal : List ℕ) (flag : Bool) → length all ≡ 0 → done ++ encode_utf8_all (unquoted_from flag (chars all)) ≡ goal → done ≡ goal
at_end done all goal flag none h =
    sym (append-nil done) ∙ sym (ap (λ (x : List ℕ). done ++ encode_utf8_all (unquoted_from flag (chars x))) (nothing all none)
    ∙ ap (λ (x : List ℕ). done ++ encode_utf8_all (unquoted_from flag x)) chars-nil ∙ stop flag) ∙ h
  where
    stop : (b : Bool) → done ++ encode_utf8_all (unquoted_from b []) ≡ done ++ []
    stop true = refl
    stop false = refl
