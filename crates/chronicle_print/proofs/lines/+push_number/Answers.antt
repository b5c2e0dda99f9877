use Rattle.std.proofs.Common.{◌≡◌, ◌/◌, ◌%◌, ◌+◌, ◌≤◌, List, ℕ, [], ◌∷◌, ◌++◌, sym, ap, ◌∙◌, append_assoc}
use Rattle.std.specs.Fmt.{decimal}
use Rattle.std.proofs.lemmas.Fmt.{decimal_step}
use Rattle.chronicle_print.proofs.lines.+push_number.Goals as goal

pub returns : goal.returns
returns t c =
    let out = c.args.out.now.items in
    let number = c.args.number in
    let last : List ℕ = (48 + number % 10) ∷ [] in
    let more : 10 ≤ number = c.if-number-lt10.false in
    let step : decimal number ≡ decimal (number / 10) ++ last = decimal_step number more c.ranges.number.fits in
    c.in_ok-push_digit-2.ensures
    ∙ (ap (λ (o : List ℕ). o ++ last) c.in_ok-push_number.ensures ∙ (append_assoc out (decimal (number / 10)) last ∙ ap (λ (ds : List ℕ). out ++ ds) (sym step)))
