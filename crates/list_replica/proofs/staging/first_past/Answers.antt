use Rattle.std.proofs.Common.{◌<◌, List, length, take, drop, ◌+◌, arith, sym, subst}
use Rattle.std.proofs.lemmas.List.{take_all}
use Rattle.cs_base.proofs.Members.{front_more, contains_at}
use Rattle.row_change.specs.declared.entry.LogItem.{LogItem}
use Rattle.list_replica.specs.Staging.{AllStayWithin}
use Rattle.list_replica.proofs.Gathering.{within_still, within_more, first_one, staged_for, split_at}
use Rattle.list_replica.proofs.staging.first_past.Goals.{in-Some+else-not-fits_at, in_default}
use Rattle.list_replica.proofs.staging.first_past.Goals as goal

pub fits_at-requires-clause-there : goal.fits_at-requires-clause-there
fits_at-requires-clause-there c =
    staged_for c.args.items.now c.args.staged.now c.item-item.result c.in-Some.mutation.now c.requires.staging (contains_at c.args.items.now c.loop-item.item-index c.item-item.result (omega arith) c.item-item.is) (sym c.in-Some.ensures)

pub returns-then-not-fits_at-clause-some : goal.returns-then-not-fits_at-clause-some
returns-then-not-fits_at-clause-some c =
    let i = c.loop-item.item-index in
    let below : c.loop-item.item-index < length c.args.items.now = omega arith in
    first_one c.args.contents.now c.args.staged.now c.args.items.now (take i c.args.items.now) c.item-item.result (drop (i + 1) c.args.items.now) c.in-Some.mutation.now (split_at c.args.items.now i c.item-item.result below c.item-item.is)
    (sym c.in-Some.ensures) c.loop-item.invariant (c.fits_at.ensures.past c.if-not-fits_at.true)

pub loop-item-preserved : goal.loop-item-preserved
loop-item-preserved c =
    let i = c.loop-item.item-index in
    let below : c.loop-item.item-index < length c.args.items.now = omega arith in
    subst (λ (l : List LogItem). AllStayWithin c.args.contents.now c.args.staged.now l) (sym (front_more c.args.items.now i c.item-item.result below c.item-item.is))
    (elim c.match-mutation_of.branch [
      | in-Some+else-not-fits_at w ↦
          within_more c.args.contents.now c.args.staged.now (take i c.args.items.now) c.item-item.result w.in-Some.mutation.now c.loop-item.invariant (sym w.in-Some.ensures) (w.fits_at.ensures.within w.if-not-fits_at.false)
      | in_default w ↦
          within_still c.args.contents.now c.args.staged.now (take i c.args.items.now) c.item-item.result c.loop-item.invariant (sym w.in_default.ensures)
    ])

pub returns-clause-none : goal.returns-clause-none
returns-clause-none c = subst (λ (l : List LogItem). AllStayWithin c.args.contents.now c.args.staged.now l) (take_all c.loop-item.item-index c.args.items.now (omega arith)) c.loop-item.invariant
