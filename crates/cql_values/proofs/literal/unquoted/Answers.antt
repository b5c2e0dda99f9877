-- A quote is held back, and any other byte is of the content.
use Rattle.std.proofs.Common.{◌-◌, length, take, drop, sym, ◌∙◌}
use Rattle.std.proofs.lemmas.Bool.{false≢true}
use Rattle.cql_values.proofs.Quotes.{quote_step, push_step}
use Rattle.cql_values.proofs.literal.unquoted.Goals as goal
use Rattle.cql_values.proofs.literal.unquoted.Goals.{else-byte-eq39-via-then-byte-eq39+else-not-after_quote, else-byte-eq39-via-else-byte-eq39, else-after_quote-via-then-after_quote+else-byte-ne39, else-after_quote-via-else-after_quote}

pub loop-byte-preserved-then-not-after_quote : goal.loop-byte-preserved-then-not-after_quote
loop-byte-preserved-then-not-after_quote c =
    let body = take (length c.args.text.now - 1) (drop 1 c.args.text.now) in
    quote_step body c.loop-byte.content.items c.loop-byte.after_quote c.loop-byte.byte-index _ c.loop-byte-test.true c.if-byte-eq39.true c.if-not-after_quote.true c.loop-byte.invariant

pub loop-byte-preserved : goal.loop-byte-preserved
loop-byte-preserved c =
    let body = take (length c.args.text.now - 1) (drop 1 c.args.text.now) in
    push_step body c.loop-byte.content.items _ c.loop-byte.after_quote c.loop-byte.byte-index _ c.loop-byte-test.true
    (elim c.else-after_quote.branch [
      | else-after_quote-via-then-after_quote+else-byte-ne39 w ↦ λ e. w.if-byte-ne39.false
      | else-after_quote-via-else-after_quote w ↦ λ e. absurd (false≢true (sym w.if-after_quote.false ∙ e))
    ])
    (elim c.else-byte-eq39.branch [
      | else-byte-eq39-via-then-byte-eq39+else-not-after_quote w ↦ λ e. absurd (false≢true (sym e ∙ w.if-not-after_quote.false))
      | else-byte-eq39-via-else-byte-eq39 w ↦ λ e. w.if-byte-eq39.false
    ])
    c.in_ok-push.ensures.items c.loop-byte.invariant
