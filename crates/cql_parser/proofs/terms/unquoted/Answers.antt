use Rattle.std.proofs.Common.{◌++◌, sym, ap, subst, ◌∙◌, false, List, ℕ}
use Rattle.std.specs.declared.str.Chars.{Chars}
use Rattle.std.specs.Str.{chars, encode_utf8_all}
use Rattle.std.proofs.lemmas.Str.{IsUtf8-past_char}
use Rattle.cql_parser.specs.Grammar.{unquoted_from}
use Rattle.cql_parser.proofs.Words.{Begun, begun, past_quote, past_other, at_end}
use Rattle.cql_parser.proofs.terms.unquoted.Goals as goal
use Rattle.cql_parser.proofs.terms.unquoted.Goals.{else-c-eq34-via-then-c-eq34+else-not-after_quote, else-c-eq34-via-else-c-eq34}

pub loop-c-init : goal.loop-c-init
loop-c-init c =
    let h : Begun c.args.word.now c.into_iter-c-iterator.result.rest.now =
    subst (λ (x : Chars). Begun c.args.word.now x.rest.now) (sym c.into_iter-c-iterator.ensures.into_iter_gives)
    (begun c.next.result c.args.word.now c.chars-characters.result c.next.new.self c.utf8.word c.chars-characters.ensures.rest c.next.ensures.steps.0) in
    record {
      content = ap (λ (x : List ℕ). x ++ encode_utf8_all (unquoted_from false (chars c.into_iter-c-iterator.result.rest.now))) c.new-name.ensures.bytes ∙ h.content;
      text = h.text;
    }

pub loop-c-preserved-then-not-after_quote : goal.loop-c-preserved-then-not-after_quote
loop-c-preserved-then-not-after_quote c = record {
  content = past_quote _ _ _ _ c.in-Some.c c.loop-c.after_quote c.loop-c.invariant.text c.in-Some.ensures.steps.0 c.if-c-eq34.true c.if-not-after_quote.true c.loop-c.invariant.content;
  text = IsUtf8-past_char _ _ _ c.loop-c.invariant.text c.in-Some.ensures.steps.0;
}

pub loop-c-preserved : goal.loop-c-preserved
loop-c-preserved c = record {
  content = past_other _ _ _ _ _ c.in-Some.c c.loop-c.after_quote c.loop-c.invariant.text c.in-Some.ensures.steps.0
      (elim c.else-c-eq34.branch [
        | else-c-eq34-via-then-c-eq34+else-not-after_quote w ↦ λ off is. absurd (cc (sym w.if-not-after_quote.false ∙ off))
        | else-c-eq34-via-else-c-eq34 w ↦ λ off is. w.if-c-eq34.false is
      ])
      c.in_ok-push.ensures.bytes c.loop-c.invariant.content;
  text = IsUtf8-past_char _ _ _ c.loop-c.invariant.text c.in-Some.ensures.steps.0;
}

pub returns : goal.returns
returns c = at_end _ _ _ c.loop-c.after_quote c.in-None.ensures.steps.0.0 c.loop-c.invariant.content
