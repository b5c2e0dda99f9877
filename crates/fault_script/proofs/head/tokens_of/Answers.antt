use Rattle.std.proofs.Common.{◌≡◌, sym, ◌∙◌, ap, arith, to_z, of_z, w64, ◌++◌, [], ◌∷◌}
use Rattle.std.specs.Prelude.{ℤ}
use Rattle.std.proofs.lemmas.Int.{ints}
use Rattle.script_words.specs.Words.{is_signed_number, is_long_word}
use Rattle.script_words.proofs.WordLaws.{read_more, passes_behind, passes_here}
use Rattle.fault_script.proofs.head.tokens_of.Goals as goal

pub loop-word-preserved : goal.loop-word-preserved
loop-word-preserved c =
    let ws = c.args.words.now in
    let i = c.loop-word.word-index in
    let tokens = c.loop-word.tokens.items in
    let same : to_z w64 (of_z w64 c.in-Some.token) ≡ c.in-Some.token = omega (arith, ints) in
    record {
      read = read_more ws i tokens c.push.new.self.items c.in-Some.token c.loop-word-test.true (c.in_ok-push.ensures.items ∙ ap (λ (t : ℤ). tokens ++ t ∷ []) same) c.in-Some.ensures.0 c.loop-word.invariant.read;
      long = c.loop-word.invariant.long ∙ passes_behind is_long_word ws i c.loop-word-test.true c.in-Some.ensures.1;
      signed = sym (passes_behind is_signed_number ws i c.loop-word-test.true (passes_here is_signed_number ws i c.loop-word-test.true c.loop-word.invariant.signed)) ∙ c.loop-word.invariant.signed;
    }
