-- Doubled quotes leave a text a text.
use Rattle.std.proofs.Common.{◌≡◌, ◌∷◌, ◌++◌, [], sym, ap, ◌∙◌, subst, List, ℕ, take, arith}
use Rattle.std.specs.Str.{IsUtf8}
use Rattle.std.proofs.lemmas.Bool.{false≢true}
use Rattle.std.proofs.lemmas.List.{take_all}
use Rattle.cql_values.specs.Literals.{doubled}
use Rattle.cql_values.proofs.Quotes.{utf8-quoted, quote_more, plain_more}
use Rattle.cql_values.proofs.print.quoted.Goals as goal
use Rattle.cql_values.proofs.print.quoted.Goals.{then-byte-eq39+in_ok-push-2, else-byte-eq39}

pub unreachable-requires : goal.unreachable-requires
unreachable-requires c =
    let bs = c.as_bytes-byte-items.result.now in
    let whole : take c.loop-byte.byte-index bs ≡ bs = take_all c.loop-byte.byte-index bs (omega arith) in
    false≢true (c.in-Err.ensures.succeeds
    (subst IsUtf8 (sym (c.in_ok-push-4.ensures.items ∙ ap (λ (l : List ℕ). l ++ (39 ∷ [])) (c.loop-byte.invariant ∙ ap (λ (l : List ℕ). 39 ∷ doubled l) (whole ∙ c.as_bytes-byte-items.ensures.value))))
    (utf8-quoted c.args.content.now c.utf8.content)))

pub loop-byte-preserved : goal.loop-byte-preserved
loop-byte-preserved c =
    let bs = c.as_bytes-byte-items.result.now in
    elim c.if-byte-eq39.branch [
      | then-byte-eq39+in_ok-push-2 w ↦
          quote_more bs c.loop-byte.text.items c.if-byte-eq39.text.items _ c.loop-byte.byte-index c.loop-byte-test.true c.loop-byte.invariant w.if-byte-eq39.true
          (ap (λ v. v.items) w.text-is ∙ w.in_ok-push-2.ensures.items) c.in_ok-push-3.ensures.items
      | else-byte-eq39 w ↦
          plain_more bs c.loop-byte.text.items c.if-byte-eq39.text.items _ c.loop-byte.byte-index c.loop-byte-test.true c.loop-byte.invariant w.if-byte-eq39.false
          (ap (λ v. v.items) w.text-is) c.in_ok-push-3.ensures.items
    ]
