-- The first byte above 127 is refused, and a text without one is UTF-8.
use Rattle.std.proofs.Common.{◌≡◌, sym, ap, ◌∙◌, nat_le, position, List, ℕ, Ok, rules, tests}
use Rattle.std.proofs.lemmas.Iterator.{YieldsList-from_slice}
use Rattle.std.proofs.lemmas.Iterator.Search.{position_from_yields_List}
use Rattle.std.proofs.lemmas.Str.{IsUtf8-from_ascii}
use Rattle.cql_values.specs.Protocol.{ascii_unless}
use Rattle.cql_values.specs.declared.value.CqlValue.TheVariants as values
use Rattle.cql_values.proofs.Words.{ascii_from_none}
use Rattle.cql_values.proofs.protocol.ascii.Goals as goal

pub returns-in-Some : goal.returns-in-Some
returns-in-Some c =
    let found : c.position.result ≡ position (nat_le 128) c.args.bytes.now = position_from_yields_List (nat_le 128) _ _ c.position.result c.position.ensures.ran (YieldsList-from_slice c.args.bytes.now cc) (λ x b q k. search (rules, tests)) in
    ap (ascii_unless c.args.bytes.now) (sym found ∙ c.in-Some.is)

pub unreachable-requires : goal.unreachable-requires
unreachable-requires c =
    let found : c.position.result ≡ position (nat_le 128) c.args.bytes.now = position_from_yields_List (nat_le 128) _ _ c.position.result c.position.ensures.ran (YieldsList-from_slice c.args.bytes.now cc) (λ x b q k. search (rules, tests)) in
    c.in-Err.ensures.cases.0 (IsUtf8-from_ascii c.args.bytes.now (ascii_from_none c.args.bytes.now (sym found ∙ c.in_default.is)))

pub returns : goal.returns
returns c =
    let found : c.position.result ≡ position (nat_le 128) c.args.bytes.now = position_from_yields_List (nat_le 128) _ _ c.position.result c.position.ensures.ran (YieldsList-from_slice c.args.bytes.now cc) (λ x b q k. search (rules, tests)) in
    ap (ascii_unless c.args.bytes.now) (sym found ∙ c.in_default.is)
    ∙ ap (λ (l : List ℕ). Ok (values.Ascii l)) (sym c.in-Ok.ensures.cases.0 ∙ sym c.in_ok-from_str-in-Ok.ensures)
