-- Byte by byte.
use Rattle.std.proofs.Common.{◌<◌, ◌+◌, ◌++◌, ◌∷◌, [], ℕ, List, take, sym, ap, ◌∙◌, subst, arith}
use Rattle.std.proofs.lemmas.List.{take_all}
use Rattle.cql_values.specs.Order.{ascending_bytes, Continues, EndsAllWords}
use Rattle.cql_values.specs.Scan.{IsEscapedWord}
use Rattle.cql_values.proofs.Columns.{length-ascending, ascending_more, byte_of}
use Rattle.cql_values.specs.declared.scan.Expected.{Expected}
use Rattle.cql_values.proofs.Scanning.{Scanned, scanned_continues, bad_step, end_step, wait_step, push_step}
use Rattle.cql_values.proofs.reading.content.Goals as goal
use Rattle.cql_values.proofs.reading.content.Goals.{in-Wait, in-Push+in_ok-push-in-Push}

pub returns-in-Bad : goal.returns-in-Bad
returns-in-Bad c =
    let bytes = c.args.bytes.now in
    let desc = c.args.desc in
    let at = c.loop-at.at in
    let front = take at (ascending_bytes desc bytes) in
    let more = ascending_more desc bytes at c.ascending.result c.loop-at-test.true c.ascending.ensures in (
      subst (λ (n : ℕ). at < n) (sym (length-ascending desc bytes)) c.loop-at-test.true,
      scanned_continues c.args.ty front c.loop-at.content.items c.loop-at.expected c.requires c.loop-at.invariant,
      subst (EndsAllWords (IsEscapedWord c.args.ty)) (sym more)
          (bad_step c.args.ty front c.loop-at.content.items c.loop-at.expected c.ascending.result c.loop-at.invariant (sym c.step.ensures ∙ c.in-Bad.is)),
    )

pub returns-in-End : goal.returns-in-End
returns-in-End c =
    let bytes = c.args.bytes.now in
    let desc = c.args.desc in
    let at = c.loop-at.at in
    let front = take at (ascending_bytes desc bytes) in
    let more = ascending_more desc bytes at c.ascending.result c.loop-at-test.true c.ascending.ensures in
    let word = end_step c.args.ty front c.loop-at.content.items c.loop-at.expected c.ascending.result c.requires c.loop-at.invariant (sym c.step.ensures ∙ c.in-End.is) in
    let long = length-ascending desc bytes in (
      omega arith,
      subst (λ (t : List ℕ). IsEscapedWord c.args.ty (take (at + 1) (ascending_bytes desc bytes)) t) (sym c.from_vec.ensures)
          (subst (λ (l : List ℕ). IsEscapedWord c.args.ty l c.loop-at.content.items) (sym more) word),
    )

pub loop-at-preserved : goal.loop-at-preserved
loop-at-preserved c =
    let bytes = c.args.bytes.now in
    let desc = c.args.desc in
    let at = c.loop-at.at in
    let all = ascending_bytes desc bytes in
    let front = take at all in
    let more = ascending_more desc bytes at c.ascending.result c.loop-at-test.true c.ascending.ensures in
    subst (λ (l : List ℕ). Scanned c.args.ty l c.match-step.content.items c.match-step.expected) (sym more)
    (elim c.match-step.branch [
      | in-Wait w ↦
          subst (λ (t : List ℕ). Scanned c.args.ty (front ++ c.ascending.result ∷ []) t c.match-step.expected) (sym (ap (λ v. v.items) w.content-is))
          (subst (λ (e : Expected). Scanned c.args.ty (front ++ c.ascending.result ∷ []) c.loop-at.content.items e) (sym w.expected-is)
          (wait_step c.args.ty front c.loop-at.content.items c.loop-at.expected w.in-Wait.next c.ascending.result c.loop-at.invariant (sym c.step.ensures ∙ w.in-Wait.is)))
      | in-Push+in_ok-push-in-Push w ↦
          let low : c.ascending.result < 256 = byte_of desc bytes at c.ascending.result c.ascending.ensures (λ i. omega (arith, c.type_inv.bytes i)) in
          subst (λ (t : List ℕ). Scanned c.args.ty (front ++ c.ascending.result ∷ []) t c.match-step.expected) (sym (ap (λ v. v.items) w.content-is ∙ w.in_ok-push-in-Push.ensures.items))
          (subst (λ (e : Expected). Scanned c.args.ty (front ++ c.ascending.result ∷ []) (c.loop-at.content.items ++ w.in-Push.byte ∷ []) e) (sym w.expected-is)
          (push_step c.args.ty front c.loop-at.content.items c.loop-at.expected w.in-Push.next c.ascending.result w.in-Push.byte low c.loop-at.invariant (sym c.step.ensures ∙ w.in-Push.is)))
    ])

pub returns : goal.returns
returns c =
    let bytes = c.args.bytes.now in
    let all = ascending_bytes c.args.desc bytes in
    let long = length-ascending c.args.desc bytes in
    subst (Continues (IsEscapedWord c.args.ty)) (take_all c.loop-at.at all (omega arith))
    (scanned_continues c.args.ty (take c.loop-at.at all) c.loop-at.content.items c.loop-at.expected c.requires c.loop-at.invariant)
