-- A text of 36 characters is read in the hyphenated form alone.
use Rattle.std.proofs.Common.{sym, ap}
use Rattle.std.proofs.lemmas.Bool.{false≢true}
use Rattle.cql_values.specs.Literals.{word}
use Rattle.cql_values.proofs.LiteralWords.{no_uuid}
use Rattle.cql_values.proofs.literal.uuid.Goals as goal

pub returns-in-Err : goal.returns-in-Err
returns-in-Err c =
    sym (ap (word (λ uuid. uuid)) (no_uuid c.args.text.now c.if-text-ne-HYPHENATED_LEN.false (λ u. false≢true (c.in-Err.ensures.ok.1 u))))
