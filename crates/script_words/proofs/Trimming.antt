-- A text without the spaces in front of it.
use Rattle.std.proofs.Common.{◌≡◌, ℕ, List, [], ◌∷◌, Option, Some, None, refl, sym, ◌∙◌, ap, eqb, arith, Bool, true, false, drop, lit<}
use Rattle.std.specs.Prelude.{IfSome}
use Rattle.std.specs.Str.Pattern.{IsTrimStartMatches, CutsPrefixes, FindsCharPrefix}
use Rattle.std.proofs.lemmas.Bool.{cond-false, eqb-true}
use Rattle.std.proofs.lemmas.Str.Pattern.{drop_at_char}
use Rattle.script_words.specs.Words.{without_spaces}

cut_one : (m : List ℕ) (n : ℕ) → FindsCharPrefix 32 m (Some n) → without_spaces (drop n m) ≡ without_spaces m
cut_one m n found =
    let split : m ≡ 32 ∷ drop n m = drop_at_char 32 m 0 n found (lit< tt) in
    sym (ap without_spaces split)

cut_all : (s : List ℕ) (ns r : List ℕ) → CutsPrefixes (FindsCharPrefix 32) s ns r → without_spaces r ≡ without_spaces s
cut_all s [] r is = ap without_spaces is
cut_all s (n ∷ ns) r cuts = ap without_spaces cuts.3 ∙ (cut_one cuts.0 n cuts.2 ∙ cut_all s ns cuts.0 cuts.1)

none_in_front : (b : ℕ) (bs : List ℕ) (t : Bool) → eqb b 32 ≡ t → ((rest : List ℕ) → b ∷ bs ≡ 32 ∷ rest → ⊥) → without_spaces (b ∷ bs) ≡ b ∷ bs
none_in_front b bs true is none = absurd (none bs (ap (λ (c : ℕ). c ∷ bs) (eqb-true b 32 is)))
none_in_front b bs false is none = cond-false (eqb b 32) (without_spaces bs) (b ∷ bs) is

whole : (r : List ℕ) (o : Option ℕ) → FindsCharPrefix 32 r o → IfSome o (λ n. n ≡ 0) → without_spaces r ≡ r
unfolding lib.Utf8.encode
whole [] None found zero = refl
whole (b ∷ bs) None found zero = none_in_front b bs (eqb b 32) refl found
whole r (Some n) found zero = absurd (omega (arith, found.ends, zero))

pub trimmed : (s r : List ℕ) → IsTrimStartMatches (FindsCharPrefix 32) s r → r ≡ without_spaces s
trimmed s r is = sym (whole r is.1.0 is.1.1 is.1.2) ∙ cut_all s is.0.0 r is.0.1
