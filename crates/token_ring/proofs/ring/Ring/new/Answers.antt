use Rattle.std.proofs.Common.{rules, arith, sym, ◌∙◌, FitsSigned, w64, length}
use Rattle.std.proofs.lemmas.Bool.{eqb-false}
use Rattle.std.proofs.lemmas.Int.{to_z-of_z}
use Rattle.token_ring.proofs.Repeats.{refused_exactly, taken_exactly, ring_of}
use Rattle.token_ring.specs.declared.ring.RingError.TheVariants.{Repeated, TooMany}
use Rattle.token_ring.proofs.ring.Ring.new.Goals as goal

pub returns-in-Some-clause-refused : goal.returns-in-Some-clause-refused
returns-in-Some-clause-refused c =
    let fits : FitsSigned w64 c.in-Some.token = search rules in
    simp to_z-of_z (refused_exactly c.args.tokens.now (Repeated c.in-Some.token) c.in-Some.ensures.first)

pub returns-then-tokens-gt-MOST_NODES-clause-refused : goal.returns-then-tokens-gt-MOST_NODES-clause-refused
returns-then-tokens-gt-MOST_NODES-clause-refused c =
    refused_exactly c.args.tokens.now (TooMany (length c.args.tokens.now)) (c.in_default.ensures.none.0 (search rules), omega arith, search rules)

pub of_tokens-requires : goal.of_tokens-requires
of_tokens-requires c =
    ring_of c.args.tokens.now (eqb-false (length c.args.tokens.now) 0 (sym c.is_empty.ensures ∙ c.if-is_empty.false)) (omega arith) c.in_default.ensures.tokens (c.in_default.ensures.none.0 (search rules))

pub returns-clause-refused : goal.returns-clause-refused
returns-clause-refused c =
    taken_exactly c.args.tokens.now c.of_tokens.result
    (ring_of c.args.tokens.now (eqb-false (length c.args.tokens.now) 0 (sym c.is_empty.ensures ∙ c.if-is_empty.false)) (omega arith) c.in_default.ensures.tokens (c.in_default.ensures.none.0 (search rules)))
