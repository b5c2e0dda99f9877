-- All digits, and at least one.
use Rattle.std.proofs.Common.{◌≡◌, ◌<◌, length, arith, rules, tests}
use Rattle.std.proofs.lemmas.Bool.Decides.{nat_tests}
use Rattle.std.proofs.lemmas.Iterator.{YieldsList-from_slice}
use Rattle.std.proofs.lemmas.Iterator.Search.{all_from_yields_List}
use Rattle.std.specs.Char.{is_ascii_digit}
use Rattle.std.specs.List.{list_all}
use Rattle.cql_values.proofs.LiteralWords.{natural_test}
use Rattle.cql_values.proofs.literal.is_natural.Goals as goal

pub returns-then-not-is_empty : goal.returns-then-not-is_empty
returns-then-not-is_empty c =
    let found : c.all.result ≡ list_all is_ascii_digit c.args.digits.now = all_from_yields_List is_ascii_digit _ _ c.all.result c.all.ensures.ran (YieldsList-from_slice c.args.digits.now cc) (λ x b q k. search (rules, tests)) in
    let long : 0 < length c.args.digits.now = grind (arith, nat_tests) in
    natural_test c.args.digits.now c.all.result long found
