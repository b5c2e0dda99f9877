use Rattle.std.proofs.Common.{◌≤◌, ℕ, List, length, sym, subst}
use Rattle.row_values.proofs.TextLaws.{is_within}
use Rattle.row_values.proofs.lines.push_literal_at.Goals as goal

pub piece-requires-clause-order : goal.piece-requires-clause-order
piece-requires-clause-order c = (is_within c.requires.0 c.args.literals.now c.args.number c.in-Some.span c.requires.1 (sym c.in-Some.ensures)).order

pub piece-requires-clause-within : goal.piece-requires-clause-within
piece-requires-clause-within c =
    subst (λ (text : List ℕ). c.in-Some.span.end ≤ length text) (sym c.as_slice-text.ensures.value)
    (is_within c.requires.0 c.args.literals.now c.args.number c.in-Some.span c.requires.1 (sym c.in-Some.ensures)).within
