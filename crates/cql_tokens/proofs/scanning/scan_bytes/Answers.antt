use Rattle.std.proofs.Common.{◌+◌, List, arith, sym, subst}
use Rattle.cql_tokens.specs.declared.token.Token.{Token}
use Rattle.cql_tokens.proofs.Steps.{Scans, at_rest, gap_advances, step_gap, step_token, stop_char, stop_none, stop_unclosed, token_advances}
use Rattle.cql_tokens.proofs.scanning.scan_bytes.Goals as goal

pub overflow_add-at : goal.overflow_add-at
overflow_add-at c =
    let bytes = c.args.bytes.now in
    let p = gap_advances bytes c.loop-at.at c.in-Gap.len (at_rest bytes c.loop-at.at _ _ c.front_of.ensures c.in-Gap.is) c.loop-at-test.true in
    omega (arith, p.1)

pub loop-at-smaller-in-Gap : goal.loop-at-smaller-in-Gap
loop-at-smaller-in-Gap c =
    let bytes = c.args.bytes.now in
    let p = gap_advances bytes c.loop-at.at c.in-Gap.len (at_rest bytes c.loop-at.at _ _ c.front_of.ensures c.in-Gap.is) c.loop-at-test.true in
    omega (arith, p.0, p.1)

pub loop-at-preserved-in-Gap : goal.loop-at-preserved-in-Gap
loop-at-preserved-in-Gap c =
    let bytes = c.args.bytes.now in
    let is = at_rest bytes c.loop-at.at _ _ c.front_of.ensures c.in-Gap.is in
    let p = gap_advances bytes c.loop-at.at c.in-Gap.len is c.loop-at-test.true in
    record { within = p.1; rest = step_gap bytes c.loop-at.tokens c.loop-at.at c.in-Gap.len is c.loop-at.invariant.rest }

pub overflow_add-end : goal.overflow_add-end
overflow_add-end c =
    let bytes = c.args.bytes.now in
    let p = token_advances bytes c.loop-at.at c.in-Token.len c.in-Token.kind (at_rest bytes c.loop-at.at _ _ c.front_of.ensures c.in-Token.is) c.loop-at-test.true in
    omega (arith, p.1)

pub loop-at-smaller : goal.loop-at-smaller
loop-at-smaller c =
    let bytes = c.args.bytes.now in
    let p = token_advances bytes c.loop-at.at c.in-Token.len c.in-Token.kind (at_rest bytes c.loop-at.at _ _ c.front_of.ensures c.in-Token.is) c.loop-at-test.true in
    omega (arith, p.0, p.1)

pub loop-at-preserved : goal.loop-at-preserved
loop-at-preserved c =
    let bytes = c.args.bytes.now in
    let at = c.loop-at.at in
    let len = c.in-Token.len in
    let is = at_rest bytes at _ _ c.front_of.ensures c.in-Token.is in
    let p = token_advances bytes at len c.in-Token.kind is c.loop-at-test.true in
    record {
      within = p.1;
      rest = subst (λ (ts : List Token). Scans bytes ts (at + len)) (sym c.in_ok-push-in-Token.ensures.ok) (step_token bytes c.loop-at.tokens at len c.in-Token.kind is c.loop-at.invariant.rest);
    }

pub returns-in-Unclosed : goal.returns-in-Unclosed
returns-in-Unclosed c =
    let bytes = c.args.bytes.now in
    stop_unclosed bytes c.loop-at.tokens c.loop-at.at (at_rest bytes c.loop-at.at _ _ c.front_of.ensures c.in-Unclosed.is) c.loop-at.invariant.rest

pub returns-in-Nothing : goal.returns-in-Nothing
returns-in-Nothing c =
    let bytes = c.args.bytes.now in
    stop_char bytes c.loop-at.tokens c.loop-at.at (at_rest bytes c.loop-at.at _ _ c.front_of.ensures c.in-Nothing.is) c.loop-at-test.true c.loop-at.invariant.rest

pub returns : goal.returns
returns c = stop_none c.args.bytes.now c.loop-at.tokens c.loop-at.at c.loop-at-test.false c.loop-at.invariant.rest
