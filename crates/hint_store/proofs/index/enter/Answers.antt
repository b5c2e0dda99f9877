use Rattle.std.proofs.Common.{sym, subst, List, ℕ}
use Rattle.hint_store.specs.Tables.{number_cmp, age_cmp, Gains}
use Rattle.hint_store.proofs.Keys.{gains_key, loses_key, back_again, number_exact}
use Rattle.hint_store.proofs.index.enter.Goals as goal

pub returns-in_default-clause-same_numbers : goal.returns-in_default-clause-same_numbers
returns-in_default-clause-same_numbers c =
    back_again (c.args.hint.now.peer, c.args.hint.now.number, c.args.sequence) c.args.numbers.now.keys c.insert.new.self.keys c.remove.new.self.keys
    (subst (λ (ks : List (ℕ × ℕ × ℕ)). Gains (c.args.hint.now.peer, c.args.hint.now.number, c.args.sequence) c.args.numbers.now.keys ks) (sym c.in_ok-insert.ensures.keys)
    (gains_key number_cmp c.args.numbers.now.keys (c.args.hint.now.peer, c.args.hint.now.number, c.args.sequence) c.requires.numbers))
    (subst (λ (ks : List (ℕ × ℕ × ℕ)). Gains (c.args.hint.now.peer, c.args.hint.now.number, c.args.sequence) ks c.insert.new.self.keys) (sym c.remove.ensures.keys)
    (loses_key number_cmp number_exact c.insert.new.self.keys (c.args.hint.now.peer, c.args.hint.now.number, c.args.sequence) c.in_ok-insert.ensures.updates.1))

pub returns-clause-numbers : goal.returns-clause-numbers
returns-clause-numbers c =
    subst (λ (ks : List (ℕ × ℕ × ℕ)). Gains (c.args.hint.now.peer, c.args.hint.now.number, c.args.sequence) c.args.numbers.now.keys ks) (sym c.in_ok-insert.ensures.keys)
    (gains_key number_cmp c.args.numbers.now.keys (c.args.hint.now.peer, c.args.hint.now.number, c.args.sequence) c.requires.numbers)

pub returns-clause-ages : goal.returns-clause-ages
returns-clause-ages c =
    subst (λ (ks : List (ℕ × ℕ × ℕ × ℕ)). Gains (c.args.hint.now.born, c.args.hint.now.peer, c.args.hint.now.number, c.args.sequence) c.args.ages.now.keys ks) (sym c.in-Ok.ensures.keys)
    (gains_key age_cmp c.args.ages.now.keys (c.args.hint.now.born, c.args.hint.now.peer, c.args.hint.now.number, c.args.sequence) c.requires.ages)
