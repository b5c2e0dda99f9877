use Rattle.std.proofs.Common.{◌-◌, ◌≡◌, ◌<◌, ◌+◌, ◌∷◌, arith, refl, sym, ◌∙◌, ap, subst, List, length, length-take-le, take, drop, [], ℕ}
use Rattle.std.specs.List.{sum_by}
use Rattle.std.proofs.lemmas.List.{take_all}
use Rattle.changes.specs.declared.Held.{Held}
use Rattle.changes.specs.Lengths.{held_length}
use Rattle.partition_content.specs.Slots.{changes_of, helds_in, IsLengthOf, IsNewlyOutranked}
use Rattle.partition_content.proofs.MemoryLemmas.{key_of, key_within}
use Rattle.partition_content.proofs.OrderLemmas.{changes_in_order}
use Rattle.partition_content.proofs.ToldLemmas.{split_at}
use Rattle.partition_content.proofs.PartLemmas.{AreKept, kept_start, kept_next, kept_most, kept_end}
use Rattle.partition_content.proofs.SliceLemmas.{front_in_order}
use Rattle.partition_content.proofs.lengths.kept_length.Goals as goal

pub loop-x-init : goal.loop-x-init
loop-x-init c =
    let long = c.requires.length in
    let empty = c.encoded_length.ensures in
    record { count = refl; kept = subst (AreKept [] (helds_in c.args.slots.now.entries)) (let e : sum_by held_length (changes_of (helds_in c.args.slots.now.entries)) ≡ c.args.length - c.encoded_length.result = omega (arith, long, empty) in e) (kept_start (helds_in c.args.slots.now.entries)) }

pub overflow_sub-kept : goal.overflow_sub-kept
overflow_sub-kept c =
    let long = c.requires.length in
    let empty = c.encoded_length.ensures in omega (arith, long, empty)

pub bounds-keys-at : goal.bounds-keys-at
bounds-keys-at c =
    let below : c.loop-x.x-index < length c.args.changes.now = omega arith in
    key_within c.requires.keys.0 c.args.keys.now c.args.changes.now (take c.loop-x.x-index c.args.changes.now) (c.x-item.result ∷ drop (c.loop-x.x-index + 1) c.args.changes.now) (drop (c.loop-x.x-index + 1) c.args.changes.now) c.x-item.result c.loop-x.at c.requires.keys.1
    (split_at c.args.changes.now c.loop-x.x-index c.x-item.result below c.x-item.is) refl (c.loop-x.invariant.count ∙ sym (length-take-le c.loop-x.x-index c.args.changes.now (omega (arith, below))))

pub new-before-requires : goal.new-before-requires
new-before-requires c = front_in_order c.args.changes.now c.loop-x.at c.requires.ordered

pub lost_by-kept-requires-clause-keys : goal.lost_by-kept-requires-clause-keys
lost_by-kept-requires-clause-keys c =
    let below : c.loop-x.x-index < length c.args.changes.now = omega arith in (
      c.requires.keys.0,
      key_of c.requires.keys.0 c.args.keys.now c.args.changes.now (take c.loop-x.x-index c.args.changes.now) (c.x-item.result ∷ drop (c.loop-x.x-index + 1) c.args.changes.now) (drop (c.loop-x.x-index + 1) c.args.changes.now) c.x-item.result c.loop-x.at c.index-keys-at.result c.requires.keys.1
          (split_at c.args.changes.now c.loop-x.x-index c.x-item.result below c.x-item.is) refl (c.loop-x.invariant.count ∙ sym (length-take-le c.loop-x.x-index c.args.changes.now (omega (arith, below)))) c.index-keys-at.is,
    )

pub overflow_sub-kept-in-loop-x : goal.overflow_sub-kept-in-loop-x
overflow_sub-kept-in-loop-x c =
    let count = c.loop-x.invariant.count in
    kept_most (take c.loop-x.x-index c.args.changes.now) c.x-item.result (helds_in c.args.slots.now.entries) c.loop-x.kept c.lost_by-kept.result c.loop-x.invariant.kept
    (subst (λ (l : List Held). IsLengthOf (IsNewlyOutranked l c.x-item.result) (helds_in c.args.slots.now.entries) c.lost_by-kept.result) (c.new-before.ensures ∙ ap (λ (n : ℕ). take n c.args.changes.now) count) c.lost_by-kept.ensures)

pub loop-x-preserved : goal.loop-x-preserved
loop-x-preserved c =
    let below : c.loop-x.x-index < length c.args.changes.now = omega arith in
    let count = c.loop-x.invariant.count in
    let lost : IsLengthOf (IsNewlyOutranked (take c.loop-x.x-index c.args.changes.now) c.x-item.result) (helds_in c.args.slots.now.entries) c.lost_by-kept.result =
    subst (λ (l : List Held). IsLengthOf (IsNewlyOutranked l c.x-item.result) (helds_in c.args.slots.now.entries) c.lost_by-kept.result) (c.new-before.ensures ∙ ap (λ (n : ℕ). take n c.args.changes.now) count) c.lost_by-kept.ensures in
    record {
      count = omega (arith, count);
      kept = kept_next c.args.changes.now c.loop-x.x-index c.x-item.result (helds_in c.args.slots.now.entries) c.loop-x.kept c.lost_by-kept.result below c.x-item.is c.loop-x.invariant.kept lost;
    }

pub returns : goal.returns
returns c =
    kept_end c.args.changes.now (helds_in c.args.slots.now.entries) c.loop-x.kept (changes_in_order (helds_in c.args.slots.now.entries) c.requires.good.filed c.requires.good.sorted)
    (subst (λ (l : List Held). AreKept l (helds_in c.args.slots.now.entries) c.loop-x.kept) (take_all c.loop-x.x-index c.args.changes.now (omega arith)) c.loop-x.invariant.kept)
