use Rattle.std.proofs.Common.{sym, ◌∙◌, subst, List}
use Rattle.std.proofs.lemmas.Bool.{false≢true}
use Rattle.changes.specs.declared.Held.{Held}
use Rattle.changes.specs.Contents.{IsReachedBy}
use Rattle.cell_merge.proofs.Decided.{plain_reached, plain_joined}
use Rattle.cell_merge.proofs.plain.take_in.Goals as goal

pub returns-then-is_reached-clause-content : goal.returns-then-is_reached-clause-content
returns-then-is_reached-clause-content c =
    plain_reached c.args.kept.now.items c.args.x c.requires.apart (subst (λ (l : List Held). IsReachedBy l c.args.x) c.deref.ensures.value (c.is_reached.ensures.0 c.if-is_reached.true))

pub returns-clause-content : goal.returns-clause-content
returns-clause-content c =
    plain_joined c.args.kept.now.items c.remove_outranked.new.kept.items c.push_in_room.new.kept.items c.args.x c.requires.apart
    (λ r. false≢true (sym c.if-is_reached.false ∙ c.is_reached.ensures.1 (subst (λ (l : List Held). IsReachedBy l c.args.x) (sym c.deref.ensures.value) r))) c.remove_outranked.ensures.items c.push_in_room.ensures.items
