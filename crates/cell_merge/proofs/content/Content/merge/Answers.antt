use Rattle.std.proofs.Common.{subst, List}
use Rattle.changes.specs.declared.Held.{Held}
use Rattle.changes.specs.Contents.{AreApart, IsMergeOf}
use Rattle.change_laws.proofs.Contents.{merge_repeats}
use Rattle.cell_merge.proofs.content.Content.merge.Goals as goal

pub returns-then-is_same : goal.returns-then-is_same
returns-then-is_same c =
    subst (λ (l : List Held). IsMergeOf c.args.self c.args.self l) (c.is_same.ensures.0 c.if-is_same.true) (merge_repeats c.args.self (subst AreApart c.self.view_is c.self.invariant.apart))
