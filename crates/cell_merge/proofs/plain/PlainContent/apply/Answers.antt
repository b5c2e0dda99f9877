use Rattle.std.proofs.Common.{subst, sym}
use Rattle.changes.specs.Contents.{AreApart}
use Rattle.cell_merge.proofs.plain.PlainContent.apply.Goals as goal

pub invariant_of-self : goal.invariant_of-self
invariant_of-self c = subst AreApart (sym c.reserve.ensures.items) c.self.invariant

pub take_all-requires-clause-apart : goal.take_all-requires-clause-apart
take_all-requires-clause-apart c = subst AreApart (sym c.reserve.ensures.items) c.self.invariant
