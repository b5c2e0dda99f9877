use Rattle.std.proofs.Common.{subst}
use Rattle.changes.specs.Contents.{AreApart}
use Rattle.cell_merge.proofs.content.Content.into_changes.Goals as goal

pub returns-clause-apart : goal.returns-clause-apart
returns-clause-apart c = subst AreApart c.self.view_is c.self.invariant.apart
