use Rattle.std.proofs.Common.{◌<◌, ◌+◌, ◌∷◌, arith, refl, sym, ◌∙◌, subst, List, length, length-take-le, take, drop}
use Rattle.std.proofs.lemmas.List.{take_all}
use Rattle.changes.specs.declared.Held.{Held}
use Rattle.changes.specs.Contents.{IsReachedBy}
use Rattle.cs_base.proofs.Members.{front_more}
use Rattle.partition_content.specs.Slots.{changes_of, helds_in}
use Rattle.partition_content.specs.Lengths.{IsPartLength}
use Rattle.partition_content.proofs.MemoryLemmas.{key_of}
use Rattle.partition_content.proofs.ToldLemmas.{split_at, front_apart}
use Rattle.partition_content.proofs.PartLemmas.{part_start, gained_step, room_at}
use Rattle.partition_content.proofs.lengths.gained_length.Goals as goal

pub loop-x-init : goal.loop-x-init
loop-x-init c = record { count = refl; gained = part_start (IsReachedBy (changes_of (helds_in c.args.slots.now.entries))) }

pub gained_with-gained-requires : goal.gained_with-gained-requires
gained_with-gained-requires c =
    let below : c.loop-x.x-index < length c.args.changes.now = omega arith in
    let room = room_at c.args.changes.now c.loop-x.x-index c.x-item.result below c.x-item.is in
    let most = c.loop-x.invariant.gained.most in
    let fits = c.requires.fits in
    record {
      keys = key_of c.args.bare c.args.keys.now c.args.changes.now (take c.loop-x.x-index c.args.changes.now) (c.x-item.result ∷ drop (c.loop-x.x-index + 1) c.args.changes.now) (drop (c.loop-x.x-index + 1) c.args.changes.now) c.x-item.result c.loop-x.at c.index-keys-at.result c.requires.keys
          (split_at c.args.changes.now c.loop-x.x-index c.x-item.result below c.x-item.is) refl (c.loop-x.invariant.count ∙ sym (length-take-le c.loop-x.x-index c.args.changes.now (omega (arith, below)))) c.index-keys-at.is;
      good = c.requires.good;
      bare = c.requires.bare;
      fits = omega (arith, room, most, fits);
    }

pub loop-x-preserved : goal.loop-x-preserved
loop-x-preserved c =
    let below : c.loop-x.x-index < length c.args.changes.now = omega arith in
    let count = c.loop-x.invariant.count in
    record {
      count = omega (arith, count);
      gained = gained_step (changes_of (helds_in c.args.slots.now.entries)) (take c.loop-x.x-index c.args.changes.now) (take (c.loop-x.x-index + 1) c.args.changes.now) c.x-item.result c.loop-x.gained c.gained_with-gained.result
          (front_more c.args.changes.now c.loop-x.x-index c.x-item.result below c.x-item.is)
          (λ h. front_apart c.args.changes.now c.loop-x.x-index c.x-item.result c.requires.ordered below c.x-item.is c.x-item.result h refl) c.loop-x.invariant.gained c.gained_with-gained.ensures;
    }

pub returns : goal.returns
returns c =
    subst (λ (l : List Held). IsPartLength (IsReachedBy (changes_of (helds_in c.args.slots.now.entries))) l c.loop-x.gained) (take_all c.loop-x.x-index c.args.changes.now (omega arith)) c.loop-x.invariant.gained
