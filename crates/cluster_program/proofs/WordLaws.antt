-- The words of a command line, by their number.
use Rattle.std.proofs.Common.{◌≡◌, ℕ, ◌≤◌, ◌<◌, List, [], ◌∷◌, map, length, get_or, String, Global, None, refl, ◌∙◌, ap, ap₂, arith}
use Rattle.std.specs.String.{string_bytes}
use Rattle.cluster_program.specs.Commands.{command_named, serve_command}

pub two_words : (words : List (String Global)) → 2 ≤ length words → length words < 3 → None ≡ command_named (map string_bytes words)
two_words [] some few = absurd (omega arith)
two_words (w ∷ []) some few = absurd (omega arith)
two_words (w ∷ v ∷ []) some few = refl
two_words (w ∷ v ∷ u ∷ rest) some few = absurd (omega arith)

pub three_words : (words : List (String Global)) (word port : String Global) (text number : List ℕ) → 3 ≤ length words → length words < 4 → word ≡ get_or words 0 word → port ≡ get_or words 2 port
    → text ≡ string_bytes word → number ≡ string_bytes port → serve_command text number ≡ command_named (map string_bytes words)
three_words [] word port text number some few first last is_text is_number = absurd (omega arith)
three_words (w ∷ []) word port text number some few first last is_text is_number = absurd (omega arith)
three_words (w ∷ v ∷ []) word port text number some few first last is_text is_number = absurd (omega arith)
three_words (w ∷ v ∷ u ∷ []) word port text number some few first last is_text is_number = ap₂ serve_command (is_text ∙ ap string_bytes first) (is_number ∙ ap string_bytes last)
three_words (w ∷ v ∷ u ∷ t ∷ rest) word port text number some few first last is_text is_number = absurd (omega arith)
