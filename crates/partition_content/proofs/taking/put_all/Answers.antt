use Rattle.std.proofs.Common.{◌≡◌, ◌<◌, arith, inl, refl, ◌∙◌, ap, [], length, rules}
use Rattle.std.specs.List.{sum_by}
use Rattle.std.specs.Vec.Iter.{into_iter_items, into_iter_len}
use Rattle.changes.specs.Lengths.{held_length}
use Rattle.change_laws.proofs.Contents.{IsContent-itself}
use Rattle.partition_content.specs.Slots.{changes_of, helds_in, helds_of, spots_in}
use Rattle.partition_content.proofs.ArrivalLemmas.{come_more, come_at}
use Rattle.partition_content.proofs.MemoryLemmas.{key_of, key_within, count_more, next_slot, split_more, content_start, content_more, sum_next, content_end, nothing_left, still_bare, front_bare, next_bare}
use Rattle.partition_content.proofs.SweepLemmas.{noted_next}
use Rattle.partition_content.proofs.taking.put_all.Goals as goal

pub loop-x-init : goal.loop-x-init
loop-x-init c =
    let split : into_iter_items c.into_iter-x-iterator.result ≡ c.args.changes.items = c.into_iter-x-iterator.ensures.into_iter_gives.0 in
    let sum = ap (sum_by held_length) split in
    let fits = c.requires.fits in
    record {
      split = split;
      count = refl;
      content = content_start (changes_of (helds_in c.args.slots.now.entries)) (IsContent-itself (changes_of (helds_in c.args.slots.now.entries)) c.requires.good.apart);
      come = λ a h. inl h;
      good = c.requires.good;
      same = refl;
      long = c.requires.length;
      fits = omega (arith, sum, fits);
    }

pub offset_bounds-keys-at : goal.offset_bounds-keys-at
offset_bounds-keys-at c =
    let within : c.loop-x.at < length c.args.keys.now =
    key_within c.args.bare c.args.keys.now c.args.changes.items c.loop-x.yielded (into_iter_items c.loop-x.x-iterator) (into_iter_items c.next.new.self) c.in-Some.x c.loop-x.at c.requires.keys c.loop-x.invariant.split c.in-Some.ensures.steps.0 c.loop-x.invariant.count in
    search rules

pub bounds-keys-at : goal.bounds-keys-at
bounds-keys-at c =
    key_within c.args.bare c.args.keys.now c.args.changes.items c.loop-x.yielded (into_iter_items c.loop-x.x-iterator) (into_iter_items c.next.new.self) c.in-Some.x c.loop-x.at c.requires.keys c.loop-x.invariant.split c.in-Some.ensures.steps.0 c.loop-x.invariant.count

pub put-length-requires : goal.put-length-requires
put-length-requires c =
    let next = sum_next (into_iter_items c.loop-x.x-iterator) (into_iter_items c.next.new.self) c.in-Some.x c.in-Some.ensures.steps.0 in
    let fits = c.loop-x.invariant.fits in
    let long = c.loop-x.invariant.long in
    record {
      keys = key_of c.args.bare c.args.keys.now c.args.changes.items c.loop-x.yielded (into_iter_items c.loop-x.x-iterator) (into_iter_items c.next.new.self) c.in-Some.x c.loop-x.at c.index-keys-at.result c.requires.keys c.loop-x.invariant.split c.in-Some.ensures.steps.0 c.loop-x.invariant.count c.index-keys-at.is;
      slot = next_slot (helds_of c.args.slots.now) (helds_of c.loop-x.slots) c.args.changes.items c.loop-x.yielded (into_iter_items c.loop-x.x-iterator) (into_iter_items c.next.new.self) c.in-Some.x c.requires.slots c.loop-x.invariant.same c.loop-x.invariant.split c.in-Some.ensures.steps.0;
      inside = noted_next (spots_in (helds_of c.args.slots.now)) (spots_in (helds_of c.loop-x.slots)) c.noted_at.result.now c.args.changes.items c.loop-x.yielded (into_iter_items c.loop-x.x-iterator) (into_iter_items c.next.new.self) c.in-Some.x c.args.inside.now c.loop-x.at c.requires.inside c.loop-x.invariant.same c.loop-x.invariant.split c.in-Some.ensures.steps.0 c.loop-x.invariant.count c.noted_at.ensures;
      good = c.loop-x.invariant.good;
      length = c.loop-x.invariant.long;
      fits = omega (arith, next, fits, long);
      bare = λ t. still_bare (changes_of (helds_in c.args.slots.now.entries)) (changes_of (helds_in c.loop-x.slots.entries)) c.loop-x.yielded (c.requires.bare t)
          (front_bare c.args.changes.items c.loop-x.yielded (into_iter_items c.loop-x.x-iterator) c.loop-x.invariant.split (c.requires.narrow t)) c.loop-x.invariant.content;
      narrow = λ t. next_bare c.args.changes.items c.loop-x.yielded (into_iter_items c.loop-x.x-iterator) (into_iter_items c.next.new.self) c.in-Some.x c.loop-x.invariant.split c.in-Some.ensures.steps.0 (c.requires.narrow t);
    }

pub loop-x-preserved : goal.loop-x-preserved
loop-x-preserved c =
    let next = sum_next (into_iter_items c.loop-x.x-iterator) (into_iter_items c.next.new.self) c.in-Some.x c.in-Some.ensures.steps.0 in
    let fits = c.loop-x.invariant.fits in
    let most = c.put-length.ensures.taken.most in
    let long = c.put-length.ensures.taken.long in
    let was = c.loop-x.invariant.long in
    record {
      split = split_more c.args.changes.items c.loop-x.yielded (into_iter_items c.loop-x.x-iterator) (into_iter_items c.next.new.self) c.in-Some.x c.loop-x.invariant.split c.in-Some.ensures.steps.0;
      count = count_more c.loop-x.yielded c.in-Some.x c.loop-x.at c.loop-x.invariant.count;
      content = content_more (changes_of (helds_in c.args.slots.now.entries)) (changes_of (helds_in c.loop-x.slots.entries)) (changes_of (helds_in c.put-length.new.slots.entries)) c.loop-x.yielded c.in-Some.x c.loop-x.invariant.content c.put-length.ensures.taken.content;
      come = come_more c.args.time c.args.slots.now.entries c.loop-x.slots.entries c.put-length.new.slots.entries c.loop-x.yielded c.in-Some.x c.loop-x.invariant.content c.loop-x.invariant.come c.put-length.ensures.comes;
      good = c.put-length.ensures.taken.good;
      same = c.put-length.ensures.taken.same ∙ c.loop-x.invariant.same;
      long = c.put-length.ensures.taken.long;
      fits = omega (arith, next, fits, most, long, was);
    }

pub returns : goal.returns
returns c =
    let none : into_iter_items c.loop-x.x-iterator ≡ [] = nothing_left (into_iter_items c.loop-x.x-iterator) (into_iter_len c.loop-x.x-iterator) c.loop-x.x-iterator.rest.ok.0 c.in-None.ensures.steps.0 in
    record {
      content = content_end (changes_of (helds_in c.args.slots.now.entries)) (changes_of (helds_in c.loop-x.slots.entries)) c.loop-x.yielded (into_iter_items c.loop-x.x-iterator) c.args.changes.items c.loop-x.invariant.split none c.loop-x.invariant.content;
      arrivals = come_at c.args.time c.args.slots.now.entries c.loop-x.slots.entries c.loop-x.invariant.come;
      good = c.loop-x.invariant.good;
      length = c.loop-x.invariant.long;
    }
