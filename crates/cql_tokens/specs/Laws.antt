-- Laws of the tokens of a text.
use Rattle.std.specs.Prelude.{◌≡◌, ℕ, List, None, All, map}
use Rattle.cql_tokens.specs.Words.{IsWord}
use Rattle.cql_tokens.specs.Tokens.{IsScan, meaning_of, spaced, word_of}
use Rattle.cql_tokens.specs.declared.token.Scanned.{Scanned}

abbrev pub EachTextHasAScan : Type 0
EachTextHasAScan = (text : List ℕ) → (scanned : Scanned) × IsScan text scanned

abbrev pub OneScan : Type 0
OneScan = (text : List ℕ) (a b : Scanned) → IsScan text a → IsScan text b → a ≡ b

abbrev pub TokensAreWords : Type 0
TokensAreWords = (text : List ℕ) (scanned : Scanned) → IsScan text scanned → All (λ t. IsWord t.kind (word_of text t)) scanned.tokens

-- the tokens of a text, printed
abbrev pub printed : List ℕ → Scanned → List ℕ
printed text scanned = spaced (map (word_of text) scanned.tokens)

abbrev pub PrintedTokensAreTheSame : Type 0
PrintedTokensAreTheSame =
    (text : List ℕ) (scanned again : Scanned) → IsScan text scanned → IsScan (printed text scanned) again
    → (again.stop ≡ None) × (map (meaning_of (printed text scanned)) again.tokens ≡ map (meaning_of text) scanned.tokens)
