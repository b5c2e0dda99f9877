use Rattle.std.proofs.Common.{sym, ◌∙◌, eq-eqb}
use Rattle.std.proofs.lemmas.Bool.{false≢true}
use Rattle.cql_tokens.proofs.Loops.{quoted_more}
use Rattle.cql_tokens.proofs.words.quoted_len.Goals as goal
use Rattle.cql_tokens.proofs.words.quoted_len.Goals.{else-after_quote-via-then-after_quote+else-not-is_quote, else-after_quote-via-else-after_quote}

pub loop-at-preserved : goal.loop-at-preserved
loop-at-preserved c =
    quoted_more c.args.quote c.loop-at.at c.args.bytes.now c.loop-at.after_quote _ c.loop-at-test.true
    (elim c.else-after_quote.branch [
      | else-after_quote-via-then-after_quote+else-not-is_quote w ↦ λ e. eq-eqb _ _ w.if-not-is_quote.false
      | else-after_quote-via-else-after_quote w ↦ λ e. absurd (false≢true (sym w.if-after_quote.false ∙ e))
    ])
    c.loop-at.invariant
