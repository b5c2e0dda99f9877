-- Numbers as their parsers read them, and texts.
use Rattle.std.proofs.Common.{refl, sym, ap, ◌∙◌, subst}
use Rattle.std.specs.Int.{w8, w16, w32, w64}
use Rattle.cql_values.specs.Literals.{Answers, literal_value, whole_of, within_bits, unquoted}
use Rattle.cql_values.specs.declared.value.CqlType.{CqlType}
use Rattle.cql_values.specs.declared.value.CqlValue.TheVariants as values
use Rattle.cql_values.proofs.Numbers.{number_is, answers_same, mapped_is, mapped_word}
use Rattle.cql_values.proofs.literal.value.Goals as goal

pub returns-in-Bigint : goal.returns-in-Bigint
returns-in-Bigint c =
    let text = c.args.text.now in
    let read = number_is w64 63 text c.number.result refl c.number.ensures.no_word (λ some. let r = c.number.ensures.word some in (r.0, r.1.0, r.2)) in
    answers_same c.map.result _
    (mapped_is values.Bigint c.number.result c.map.result (within_bits 63 (whole_of text)) c.map.ensures.cases read ∙ ap (λ (ty : CqlType). literal_value ty text) (sym c.in-Bigint.is))

pub returns-in-Int : goal.returns-in-Int
returns-in-Int c =
    let text = c.args.text.now in
    let read = number_is w32 31 text c.number-in-Int.result refl c.number-in-Int.ensures.no_word (λ some. let r = c.number-in-Int.ensures.word some in (r.0, r.1.0, r.2)) in
    answers_same c.map-in-Int.result _
    (mapped_is values.Int c.number-in-Int.result c.map-in-Int.result (within_bits 31 (whole_of text)) c.map-in-Int.ensures.cases read ∙ ap (λ (ty : CqlType). literal_value ty text) (sym c.in-Int.is))

pub returns-in-Timestamp : goal.returns-in-Timestamp
returns-in-Timestamp c =
    let text = c.args.text.now in
    let read = number_is w64 63 text c.number-in-Timestamp.result refl c.number-in-Timestamp.ensures.no_word (λ some. let r = c.number-in-Timestamp.ensures.word some in (r.0, r.1.0, r.2)) in
    answers_same c.map-in-Timestamp.result _
    (mapped_is values.Timestamp c.number-in-Timestamp.result c.map-in-Timestamp.result (within_bits 63 (whole_of text)) c.map-in-Timestamp.ensures.cases read ∙ ap (λ (ty : CqlType). literal_value ty text) (sym c.in-Timestamp.is))

pub returns-in-Smallint : goal.returns-in-Smallint
returns-in-Smallint c =
    let text = c.args.text.now in
    let read = number_is w16 15 text c.number-in-Smallint.result refl c.number-in-Smallint.ensures.no_word (λ some. let r = c.number-in-Smallint.ensures.word some in (r.0, r.1.0, r.2)) in
    answers_same c.map-in-Smallint.result _
    (mapped_is values.Smallint c.number-in-Smallint.result c.map-in-Smallint.result (within_bits 15 (whole_of text)) c.map-in-Smallint.ensures.cases read ∙ ap (λ (ty : CqlType). literal_value ty text) (sym c.in-Smallint.is))

pub returns-in-Tinyint : goal.returns-in-Tinyint
returns-in-Tinyint c =
    let text = c.args.text.now in
    let read = number_is w8 7 text c.number-in-Tinyint.result refl c.number-in-Tinyint.ensures.no_word (λ some. let r = c.number-in-Tinyint.ensures.word some in (r.0, r.1.0, r.2)) in
    answers_same c.map-in-Tinyint.result _
    (mapped_is values.Tinyint c.number-in-Tinyint.result c.map-in-Tinyint.result (within_bits 7 (whole_of text)) c.map-in-Tinyint.ensures.cases read ∙ ap (λ (ty : CqlType). literal_value ty text) (sym c.in-Tinyint.is))

pub returns-in-Text : goal.returns-in-Text
returns-in-Text c =
    let text = c.args.text.now in
    subst (λ (ty : CqlType). Answers c.map-in-Text.result (literal_value ty text)) (sym c.in-Text.is)
    (mapped_word values.Text c.string.result c.map-in-Text.result (unquoted text) c.map-in-Text.ensures.cases c.string.ensures)
