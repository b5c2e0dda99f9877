use Rattle.std.proofs.Common.{◌++◌, sym, subst, List, Contains}
use Rattle.changes.specs.declared.Held.{Held}
use Rattle.changes.specs.Places.{AreInOrder}
use Rattle.changes.specs.Queries.{MeetsBounds}
use Rattle.partition_content.specs.Slots.{changes_of, helds_in}
use Rattle.partition_content.specs.Reading.{wide_of}
use Rattle.partition_content.proofs.ReadLemmas.{Adds, slice_copied}
use Rattle.partition_content.proofs.SliceLemmas.{wide_in_order, rows_added, rows_next}
use Rattle.partition_content.proofs.reading.copy_part.Goals as goal

pub returns-clause-met : goal.returns-clause-met
returns-clause-met c =
    slice_copied c.args.from.now c.args.upto.now (helds_in c.args.slots.now.entries) c.copy_wide.new.onto.items c.copy_rows.new.onto.items c.requires.filed
    (subst (λ (l : List Held). Adds l c.copy_wide.new.onto.items (λ x. Contains (changes_of (wide_of (helds_in c.args.slots.now.entries))) x × MeetsBounds c.args.from.now c.args.upto.now x.place)) c.new-part.ensures.items c.in_ok-copy_wide.ensures.met)
    (rows_added c.args.from.now c.args.upto.now (helds_in c.args.slots.now.entries) c.copy_wide.new.onto.items c.copy_rows.new.onto.items c.requires.filed c.in_ok-copy_rows.ensures)

pub returns-clause-ordered : goal.returns-clause-ordered
returns-clause-ordered c =
    subst AreInOrder (sym c.in_ok-copy_rows.ensures)
    (rows_next c.args.from.now c.args.upto.now (helds_in c.args.slots.now.entries) c.copy_wide.new.onto.items c.requires.filed c.requires.sorted
    (subst (λ (l : List Held). Adds l c.copy_wide.new.onto.items (λ x. Contains (changes_of (wide_of (helds_in c.args.slots.now.entries))) x × MeetsBounds c.args.from.now c.args.upto.now x.place)) c.new-part.ensures.items c.in_ok-copy_wide.ensures.met)
    (c.in_ok-copy_wide.ensures.ordered
    (subst (λ (l : List Held). AreInOrder (l ++ changes_of (wide_of (helds_in c.args.slots.now.entries)))) (sym c.new-part.ensures.items) (wide_in_order (helds_in c.args.slots.now.entries) c.requires.filed c.requires.sorted))))
