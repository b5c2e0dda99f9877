use Rattle.std.proofs.Common.{rules, ◌≡◌, ℕ, List, Option, Ok, sym, subst}
use Rattle.cql_values.specs.declared.value.CqlValue.TheVariants as values
use Rattle.schema_book.specs.Replication.{number_inside as number_inside_of}
use Rattle.schema_book.specs.Options.{number_in}
use Rattle.schema_book.proofs.Numbers.{inside_is}
use Rattle.schema_book.proofs.replication.number_inside.Goals as goal

pub returns-in-Ok-Text : goal.returns-in-Ok-Text
returns-in-Ok-Text c =
    let read : c.read_literal.result ≡ Ok (values.Text c.in-Ok-Text.inside) = search rules in
    let found = inside_is c.args.literal.now.text c.read_literal.result c.in-Ok-Text.inside (c.read_literal.ensures.exact c.requires) read in
    let number : c.number_in.result ≡ number_in c.in-Ok-Text.inside = search rules in
    subst (λ (o : Option (List ℕ)). c.number_in.result ≡ number_inside_of o) (sym found) number
