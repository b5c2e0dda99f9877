use Rattle.std.proofs.Common.{◌≡◌, ◌∙◌, arith}
use Rattle.gate_log.specs.Entries.{pieces}
use Rattle.gate_log.proofs.Ends.{count_is, entry_is}
use Rattle.gate_log.proofs.entries.Entries.entry.Goals as goal

pub span-start-requires-clause-inside : goal.span-start-requires-clause-inside
span-start-requires-clause-inside c =
    let bytes = c.deref.result.now in
    let ends = c.deref-2.result.now in
    let seen : pieces 0 bytes ends ≡ c.args.self.now = (λ i. pieces 0 (c.deref.ensures.value i) (c.deref-2.ensures.value i)) ∙ c.self.view_is in
    let count = count_is bytes ends c.args.self.now seen in
    omega (arith, count, c.requires)

pub returns : goal.returns
returns c =
    let bytes = c.deref-3.result.now in
    let ends = c.deref-2.result.now in
    let seen : pieces 0 bytes ends ≡ c.args.self.now = (λ i. pieces 0 (c.deref-3.ensures.value i) (c.deref-2.ensures.value i)) ∙ c.self.view_is in
    let count = count_is bytes ends c.args.self.now seen in
    entry_is bytes ends c.args.self.now seen c.args.i _ _ (omega (arith, count, c.requires)) c.span-start.ensures.start c.span-start.ensures.end
