use Rattle.std.proofs.Common.{refl, sym, subst}
use Rattle.changes.specs.declared.Partition.{Partition}
use Rattle.replica.specs.Lengths.{IsFirstTooLarge}
use Rattle.list_replica.specs.Memtables.{kept_in}
use Rattle.list_replica.proofs.Sound.{sound_still, sound_stays_small, sound_first_too_large}
use Rattle.list_replica.proofs.memtable.Memtable.stage.Goals as goal

pub returns-in_err-within-clause-sound : goal.returns-in_err-within-clause-sound
returns-in_err-within-clause-sound c = sound_still c.args.self.now _ c.requires.sound c.reserve_all.ensures.ordered c.reserve_all.ensures.stored refl

pub returns-in_err-copy-clause-sound : goal.returns-in_err-copy-clause-sound
returns-in_err-copy-clause-sound c = sound_still c.args.self.now _ c.requires.sound c.reserve_all.ensures.ordered c.reserve_all.ensures.stored refl

pub returns-in-Some-clause-sound : goal.returns-in-Some-clause-sound
returns-in-Some-clause-sound c = sound_still c.args.self.now _ c.requires.sound c.reserve_all.ensures.ordered c.reserve_all.ensures.stored refl

pub returns-in-Some-clause-too_large : goal.returns-in-Some-clause-too_large
returns-in-Some-clause-too_large c =
    subst (λ (p : Partition). IsFirstTooLarge c.args.entry.now.items (kept_in c.args.self.now) p) (sym c.in_ok-copy.ensures)
    (sound_first_too_large c.args.self.now c.reserve_all.new.contents c.args.entry.now.items c.in_ok-staged.staged.items c.as_slice-2.result.now c.as_slice-items.result.now c.in-Some.partition.now c.as_slice-2.ensures.value c.as_slice-items.ensures c.requires.sound
    c.reserve_all.ensures.ordered c.reserve_all.ensures.stored c.requires.no_purges c.in_ok-staged.ensures c.in-Some.ensures.some)

pub returns-clause-sound : goal.returns-clause-sound
returns-clause-sound c = sound_still c.args.self.now _ c.requires.sound c.reserve_all.ensures.ordered c.reserve_all.ensures.stored refl

pub returns-clause-small : goal.returns-clause-small
returns-clause-small c =
    sound_stays_small c.args.self.now c.reserve_all.new.contents c.args.entry.now.items c.in_ok-staged.staged.items c.as_slice-2.result.now c.as_slice-items.result.now c.as_slice-2.ensures.value c.as_slice-items.ensures c.requires.sound
    c.reserve_all.ensures.ordered c.reserve_all.ensures.stored c.requires.no_purges c.in_ok-staged.ensures c.in_default.ensures.none
