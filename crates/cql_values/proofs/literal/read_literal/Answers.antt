-- What is read is a literal of the value, and each literal is read.
use Rattle.std.proofs.Common.{◌≡◌, sym, ap, ◌∙◌, subst, rules}
use denote.Enum.Bare.{same_true}
use Rattle.std.specs.Str.{IsUtf8}
use Rattle.cql_values.specs.contracts.value.LiteralKind.{the_type}
use Rattle.cql_values.specs.Literals.{Answers, literal_value, kind_of, Means}
use Rattle.cql_values.proofs.LiteralLaws.{read_means, meant_is_read, found_value}
use Rattle.cql_values.proofs.literal.read_literal.Goals as goal

pub returns-then-eq-clause-found : goal.returns-then-eq-clause-found
returns-then-eq-clause-found c =
    let literal = c.args.literal.now in
    let right : literal.kind ≡ kind_of c.args.ty = same_true the_type (search rules) _ _ (sym c.if-eq.ensures) ∙ c.kind_of.ensures in
    found_value (Means c.args.ty literal.kind literal.text) c.value.result (literal_value c.args.ty c.as_str.result.now) c.value.ensures
    (λ v e.
    read_means c.args.ty literal.kind literal.text v right (subst IsUtf8 c.as_str.ensures c.as_str.utf8)
    (sym (ap (literal_value c.args.ty) c.as_str.ensures) ∙ e))

pub returns-then-eq-clause-only : goal.returns-then-eq-clause-only
returns-then-eq-clause-only c =
    let literal = c.args.literal.now in
    λ v meant.
    subst (Answers c.value.result)
    (ap (literal_value c.args.ty) c.as_str.ensures ∙ meant_is_read c.args.ty literal.kind literal.text v meant)
    c.value.ensures
