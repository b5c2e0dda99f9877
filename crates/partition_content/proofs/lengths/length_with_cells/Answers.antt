use Rattle.std.proofs.Common.{◌<◌, arith, refl, sym, ◌∙◌, ap, subst, List, ◌∷◌, ◌+◌, length, length-take-le, take, drop}
use Rattle.std.proofs.lemmas.List.{take_all}
use Rattle.std.proofs.lemmas.List.Sums.{sum_by-drop_more}
use Rattle.changes.specs.declared.Held.{Held}
use Rattle.changes.specs.Lengths.{held_length}
use Rattle.cs_base.proofs.Members.{front_more, contains_at}
use Rattle.partition_content.proofs.MemoryLemmas.{key_of}
use Rattle.partition_content.proofs.ToldLemmas.{told_start, told_step, told_end, told_there, beside_most, split_at, front_apart, in_front, IsForetold}
use Rattle.partition_content.specs.Slots.{helds_of}
use Rattle.partition_content.proofs.lengths.length_with_cells.Goals as goal

pub loop-x-init : goal.loop-x-init
loop-x-init c = let fits = c.requires.fits in record { count = refl; told = told_start (helds_of c.args.slots.now) c.args.length c.requires.good c.requires.length; fits = fits }

pub length_beside-length-requires : goal.length_beside-length-requires
length_beside-length-requires c =
    let below : c.loop-x.x-index < length c.args.changes.now = omega arith in
    let next = sum_by-drop_more held_length c.args.changes.now c.loop-x.x-index c.x-item.result below in
    let is = ap held_length c.x-item.is in
    let fits = c.loop-x.invariant.fits in
    let count = c.loop-x.invariant.count in
    let here = contains_at c.args.changes.now c.loop-x.x-index c.x-item.result below c.x-item.is in
    record {
      keys = key_of c.args.bare c.args.keys.now c.args.changes.now (take c.loop-x.x-index c.args.changes.now) (c.x-item.result ∷ drop (c.loop-x.x-index + 1) c.args.changes.now) (drop (c.loop-x.x-index + 1) c.args.changes.now) c.x-item.result c.loop-x.at c.index-keys-at.result c.requires.keys
          (split_at c.args.changes.now c.loop-x.x-index c.x-item.result below c.x-item.is) refl (count ∙ sym (length-take-le c.loop-x.x-index c.args.changes.now (omega (arith, below)))) c.index-keys-at.is;
      good = c.requires.good;
      bare = c.requires.bare;
      there = told_there (helds_of c.args.slots.now) (take c.loop-x.x-index c.args.changes.now) c.x-item.result c.loop-x.length (c.requires.slots c.x-item.result here)
          (front_apart c.args.changes.now c.loop-x.x-index c.x-item.result c.requires.ordered below c.x-item.is) c.loop-x.invariant.told;
      fits = omega (arith, next, is, fits);
    }

pub loop-x-preserved : goal.loop-x-preserved
loop-x-preserved c =
    let below : c.loop-x.x-index < length c.args.changes.now = omega arith in
    let next = sum_by-drop_more held_length c.args.changes.now c.loop-x.x-index c.x-item.result below in
    let is = ap held_length c.x-item.is in
    let fits = c.loop-x.invariant.fits in
    let count = c.loop-x.invariant.count in
    let here = contains_at c.args.changes.now c.loop-x.x-index c.x-item.result below c.x-item.is in
    let most = beside_most (helds_of c.args.slots.now) c.x-item.result c.loop-x.length c.length_beside-length.result c.length_beside-length.ensures in
    record {
      count = omega (arith, count);
      told = told_step (helds_of c.args.slots.now) (take c.loop-x.x-index c.args.changes.now) (take (c.loop-x.x-index + 1) c.args.changes.now) c.x-item.result c.loop-x.length c.length_beside-length.result c.requires.good
          (front_more c.args.changes.now c.loop-x.x-index c.x-item.result below c.x-item.is) (c.requires.narrow c.x-item.result here) (c.requires.slots c.x-item.result here)
          (front_apart c.args.changes.now c.loop-x.x-index c.x-item.result c.requires.ordered below c.x-item.is)
          (λ y h over. c.requires.apart y c.x-item.result (in_front c.args.changes.now c.loop-x.x-index y h) here over) c.loop-x.invariant.told c.length_beside-length.ensures;
      fits = omega (arith, next, is, fits, most);
    }

pub returns : goal.returns
returns c = told_end (helds_of c.args.slots.now) c.args.changes.now c.loop-x.length c.requires.good (subst (λ (l : List Held). IsForetold (helds_of c.args.slots.now) l c.loop-x.length) (take_all c.loop-x.x-index c.args.changes.now (omega arith)) c.loop-x.invariant.told)
