use Rattle.std.proofs.Common.{rules, sym, ◌∙◌, FitsSigned, w64, get_or, pos, to_z, of_z}
use Rattle.std.proofs.lemmas.Bool.{false≢true}
use Rattle.token_ring.proofs.Repeats.{apart_more, apart_all, tokens_more, tokens_all, not_apart, read_here}
use Rattle.token_ring.proofs.ring.first_repeated.Goals as goal

pub loop-i-preserved : goal.loop-i-preserved
loop-i-preserved c =
    let fits : FitsSigned w64 (get_or c.args.tokens.now c.loop-i.i (pos 0)) = search rules in
    let here = read_here c.args.tokens.now c.loop-i.i c.loop-i-test.true fits in (
      apart_more c.args.tokens.now c.loop-i.i (to_z w64 (of_z w64 (get_or c.args.tokens.now c.loop-i.i (pos 0)))) c.loop-i.invariant.0 here (λ h. false≢true (sym c.if-is_among.false ∙ c.is_among.ensures.1 h)),
      tokens_more c.args.tokens.now c.loop-i.i c.loop-i.invariant.1 fits,
    )

pub returns-then-is_among-clause-none : goal.returns-then-is_among-clause-none
returns-then-is_among-clause-none c =
    let fits : FitsSigned w64 (get_or c.args.tokens.now c.loop-i.i (pos 0)) = search rules in
    let here = read_here c.args.tokens.now c.loop-i.i c.loop-i-test.true fits in (
      λ h. absurd (false≢true (sym h)),
      λ apart. absurd (not_apart c.args.tokens.now c.loop-i.i (to_z w64 (of_z w64 (get_or c.args.tokens.now c.loop-i.i (pos 0)))) here (c.is_among.ensures.0 c.if-is_among.true) apart),
    )

pub returns-then-is_among-clause-first : goal.returns-then-is_among-clause-first
returns-then-is_among-clause-first c =
    let fits : FitsSigned w64 (get_or c.args.tokens.now c.loop-i.i (pos 0)) = search rules in
    record {
      index = c.loop-i.i;
      there = read_here c.args.tokens.now c.loop-i.i c.loop-i-test.true fits;
      before = c.is_among.ensures.0 c.if-is_among.true;
      apart = c.loop-i.invariant.0;
    }

pub returns-clause-none : goal.returns-clause-none
returns-clause-none c = (λ h. apart_all c.args.tokens.now c.loop-i.i c.loop-i-test.false c.loop-i.invariant.0, λ apart. search rules)

pub returns-clause-tokens : goal.returns-clause-tokens
returns-clause-tokens c = tokens_all c.args.tokens.now c.loop-i.i c.loop-i-test.false c.loop-i.invariant.1
