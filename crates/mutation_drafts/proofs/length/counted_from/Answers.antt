use Rattle.std.proofs.Common.{◌≡◌, ◌+◌, ◌∷◌, ℕ, max, drop, Bor, sym, ◌∙◌, subst, arith}
use Rattle.changes.specs.declared.Draft.{Draft}
use Rattle.mutation_drafts.specs.Counted.{counted, counted_after, draft_length}
use Rattle.mutation_drafts.proofs.CountedLaws.{one_beside, one_elsewhere}
use Rattle.mutation_drafts.proofs.length.counted_from.Goals as goal
use Rattle.mutation_drafts.proofs.length.counted_from.Goals.{then-eq, else-eq}

pub loop-draft-preserved : goal.loop-draft-preserved
loop-draft-preserved c =
    let inv = c.loop-draft.invariant in
    let d = c.draft-item.result in
    let ds = c.args.drafts.now in
    let i = c.loop-draft.draft-index in
    let all = counted (c.args.first.now ∷ ds) in
    elim c.if-eq.branch [
      | then-eq w ↦
          let most = max inv.1 (draft_length d) in
          let counts = one_beside inv.0 inv.1 c.loop-draft.last.now.place ds i d all c.loop-draft-test.true c.draft-item.is (sym c.eq.ensures ∙ w.if-eq.true) inv.4 in (
            inv.0,
            most,
            omega arith,
            omega arith,
            subst (λ (last : Bor Draft). inv.0 + counted_after most last.now.place (drop (i + 1) ds) ≡ all) (sym w.last-is) counts,
          )
      | else-eq w ↦
          let counts = one_elsewhere inv.0 inv.1 c.loop-draft.last.now.place ds i d all c.loop-draft-test.true c.draft-item.is (sym c.eq.ensures ∙ w.if-eq.false) inv.4 in (
            inv.0 + inv.1,
            draft_length d,
            omega arith,
            omega arith,
            subst (λ (last : Bor Draft). (inv.0 + inv.1) + counted_after (draft_length d) last.now.place (drop (i + 1) ds) ≡ all) (sym w.last-is) counts,
          )
    ]
