use Rattle.std.proofs.Common.{◌≡◌, ◌∙◌, subst, sym, List, ℕ, arith}
use Rattle.gate_log.specs.Entries.{pieces, IsSplit}
use Rattle.gate_log.proofs.Ends.{count_is, place_is}
use Rattle.gate_log.proofs.entries.Entries.place.Goals as goal

pub returns-clause-place : goal.returns-clause-place
returns-clause-place c =
    let bytes = c.deref.result.now in
    let ends = c.deref-2.result.now in
    let seen : pieces 0 bytes ends ≡ c.args.self.now = (λ i. pieces 0 (c.deref.ensures.value i) (c.deref-2.ensures.value i)) ∙ c.self.view_is in
    let count = count_is bytes ends c.args.self.now seen in
    let split : IsSplit 0 bytes ends = subst (λ (l : List ℕ). IsSplit 0 l ends) (sym c.deref.ensures.value) (subst (λ (l : List ℕ). IsSplit 0 c.self.inside.bytes.items l) (sym c.deref-2.ensures.value) c.self.invariant) in
    c.gate_of.ensures.place ∙ place_is bytes ends c.args.self.now seen c.args.i split (omega (arith, count, c.requires))

pub gate_of-requires-clause-inside : goal.gate_of-requires-clause-inside
gate_of-requires-clause-inside c =
    let bytes = c.deref.result.now in
    let ends = c.deref-2.result.now in
    let seen : pieces 0 bytes ends ≡ c.args.self.now = (λ i. pieces 0 (c.deref.ensures.value i) (c.deref-2.ensures.value i)) ∙ c.self.view_is in
    let count = count_is bytes ends c.args.self.now seen in
    omega (arith, count, c.requires)
