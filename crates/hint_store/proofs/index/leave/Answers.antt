use Rattle.std.proofs.Common.{sym, subst, List, ℕ}
use Rattle.hint_store.specs.Tables.{number_cmp, age_cmp, Gains}
use Rattle.hint_store.proofs.Keys.{loses_key, number_exact, age_exact}
use Rattle.hint_store.proofs.index.leave.Goals as goal

pub returns-clause-numbers : goal.returns-clause-numbers
returns-clause-numbers c =
    subst (λ (ks : List (ℕ × ℕ × ℕ)). Gains (c.args.hint.now.peer, c.args.hint.now.number, c.args.sequence) ks c.args.numbers.now.keys) (sym c.remove.ensures.keys)
    (loses_key number_cmp number_exact c.args.numbers.now.keys (c.args.hint.now.peer, c.args.hint.now.number, c.args.sequence) c.requires.numbers)

pub returns-clause-ages : goal.returns-clause-ages
returns-clause-ages c =
    subst (λ (ks : List (ℕ × ℕ × ℕ × ℕ)). Gains (c.args.hint.now.born, c.args.hint.now.peer, c.args.hint.now.number, c.args.sequence) ks c.args.ages.now.keys) (sym c.remove-2.ensures.keys)
    (loses_key age_cmp age_exact c.args.ages.now.keys (c.args.hint.now.born, c.args.hint.now.peer, c.args.hint.now.number, c.args.sequence) c.requires.ages)
