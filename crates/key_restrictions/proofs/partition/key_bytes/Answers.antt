use Rattle.std.proofs.Common.{◌≡◌, ℕ, true, List, IfOk, ap, subst, ◌∙◌}
use Rattle.key_restrictions.specs.Rows.{bytes_in}
use Rattle.key_restrictions.proofs.Keys.{single_bytes, composite_bytes}
use Rattle.key_restrictions.proofs.partition.key_bytes.Goals as goal

pub returns-then-has_one_column : goal.returns-then-has_one_column
returns-then-has_one_column c =
    let is : c.has_one_column.result ≡ true = c.if-has_one_column.true in
    subst (λ (key : List ℕ). IfOk c.bytes_in.result (λ k. k ≡ key)) (ap bytes_in c.fixing.ensures ∙ single_bytes c.args.columns.now c.args.restrictions.now (cc))
    c.bytes_in.ensures

pub returns-else-has_one_column : goal.returns-else-has_one_column
returns-else-has_one_column c =
    subst (λ (key : List ℕ). IfOk c.composite_bytes.result (λ k. k ≡ key)) (composite_bytes c.args.columns.now c.args.restrictions.now (cc))
    c.composite_bytes.ensures
