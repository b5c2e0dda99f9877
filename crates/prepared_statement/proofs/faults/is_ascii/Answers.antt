use Rattle.std.proofs.Common.{◌≡◌, sym, ap, ◌∙◌, nat_le, position, ℕ, Option, rules, tests}
use Rattle.std.specs.Prelude.{is_ok}
use Rattle.std.proofs.lemmas.Iterator.{YieldsList-from_slice}
use Rattle.std.proofs.lemmas.Iterator.Search.{position_from_yields_List}
use Rattle.cql_values.specs.Protocol.{ascii_unless}
use Rattle.prepared_statement.proofs.faults.is_ascii.Goals as goal

pub returns-in-Some : goal.returns-in-Some
returns-in-Some c =
    let found : c.position.result ≡ position (nat_le 128) c.args.bytes.now = position_from_yields_List (nat_le 128) _ _ c.position.result c.position.ensures.ran (YieldsList-from_slice c.args.bytes.now cc) (λ x b q k. search (rules, tests)) in
    sym (ap (λ (at : Option ℕ). is_ok (ascii_unless c.args.bytes.now at)) (sym found ∙ c.in-Some.is))

pub returns-in-None : goal.returns-in-None
returns-in-None c =
    let found : c.position.result ≡ position (nat_le 128) c.args.bytes.now = position_from_yields_List (nat_le 128) _ _ c.position.result c.position.ensures.ran (YieldsList-from_slice c.args.bytes.now cc) (λ x b q k. search (rules, tests)) in
    sym (ap (λ (at : Option ℕ). is_ok (ascii_unless c.args.bytes.now at)) (sym found ∙ c.in-None.is))
