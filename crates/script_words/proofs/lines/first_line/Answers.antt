use Rattle.std.proofs.Common.{◌≡◌, ℕ, suc, ◌+◌, ◌-◌, List, ◌∷◌, ◌∙◌, ap, sym, length, get_or, take, drop, arith, length-drop, add-one}
use Rattle.std.proofs.lemmas.Bool.{eqb-true, eq-eqb}
use Rattle.std.proofs.lemmas.List.{take_all}
use Rattle.script_words.specs.Words.{lines_of}
use Rattle.script_words.proofs.FirstLine.{lines_at, lines_alone}
use Rattle.script_words.proofs.lines.first_line.Goals as goal

behind : (text : List ℕ) (i : ℕ) → take (length text - (i + 1)) (drop (i + 1) text) ≡ drop (suc i) text
behind text i = take_all (length text - (i + 1)) (drop (i + 1) text) (omega (arith, length-drop (i + 1) text)) ∙ ap (λ (k : ℕ). drop k text) (add-one i)

pub returns-in-Some-clause-lines : goal.returns-in-Some-clause-lines
returns-in-Some-clause-lines c =
    let text = c.args.text.now in
    let end = c.in-Some.end in
    let found = c.in-Some.ensures in
    lines_at text end found.0.high (eqb-true (get_or text end 0) 10 found.1) (λ k below feed. found.0.before k (omega arith) below (eq-eqb (get_or text k 0) 10 feed))
    ∙ ap (λ (rest : List ℕ). take end text ∷ lines_of rest) (sym (behind text end))

pub returns-in-None-clause-lines : goal.returns-in-None-clause-lines
returns-in-None-clause-lines c =
    lines_alone c.args.text.now c.requires (λ k below feed. c.in-None.ensures k (omega arith) below (eq-eqb (get_or c.args.text.now k 0) 10 feed))
