use Rattle.std.proofs.Common.{List, sym, subst, ◌∙◌}
use Rattle.std.specs.List.{AllByRecursion}
use Rattle.row_change.specs.declared.entry.LogItem.{LogItem}
use Rattle.node_core.specs.Hinting.{at}
use Rattle.node_core.specs.Working.{IsDataAt}
use Rattle.node_core.specs.Moving.{IsReadFor, heard_from}
use Rattle.node_core.proofs.Bodies.{heard_old, heard_young}
use Rattle.node_core.proofs.hearing.hear.Goals as goal

pub returns-then-is_old-clause-ok : goal.returns-then-is_old-clause-ok
returns-then-is_old-clause-ok g c =
    heard_old c.args.base.now _ _ (at c.args.work.now c.args.hints.now.now) (heard_from c.args.asker c.args.born c.args.body.now) c.nothing.result (sym c.is_old.ensures ∙ c.if-is_old.true) c.requires.sound c.nothing.ensures.sends c.nothing.ensures.entries

pub read_for-requires-clause-items : goal.read_for-requires-clause-items
read_for-requires-clause-items g c = (c.args.work.now.time, subst (λ (xs : List LogItem). AllByRecursion (IsDataAt c.args.work.now.time) xs) (sym c.as_slice.ensures) c.requires.sound.taken)

pub returns-clause-ok : goal.returns-clause-ok
returns-clause-ok g c =
    heard_young c.args.base.now _ _ (at c.args.work.now c.args.hints.now.now) (at c.hear_body.new.self c.hear_body.new.hints.now) (heard_from c.args.asker c.args.born c.args.body.now) c.in_ok-part.part c.in_ok-hear_body.field-0 (sym c.is_old.ensures ∙ c.if-is_old.false) c.requires.sound c.requires.request c.requires.fits
    c.requires.other (λ honest. subst (λ (xs : List LogItem). IsReadFor xs (g.R.Replica.durable c.args.replica.now) c.args.body.now c.in_ok-part.part) c.as_slice.ensures (c.in_ok-part.ensures.ok honest)) c.in_ok-hear_body.ensures.ok
